-- The laws that the choice rests on: of balanced flows between the nodes of the network, of the arcs of a net, and of
-- what slots cost.
use Rattle.firm_paths.specs.Laws.{EachArcHasItsRow, EachRowIsListed}
use Rattle.firm_flow.specs.Laws.{LeastWhereBalanced, SameWhereLoose, NoMoreWhereClosed}
use Rattle.firm_rules.specs.SlotCosts.{LoadsAreSumsOfSlots, LaterSlotsCostNoLess}
use Rattle.firm_graph.specs.declared.network.Node.{Node}
use Rattle.firm_graph.specs.declared.network.Key.{Key}

pub record ChoiceLaws : Type 0 where
  pub least : LeastWhereBalanced Node Key
  pub same : SameWhereLoose Node Key
  pub no_more : NoMoreWhereClosed Node Key
  pub rows : EachArcHasItsRow
  pub listed : EachRowIsListed
  pub sums : LoadsAreSumsOfSlots
  pub rises : LaterSlotsCostNoLess
