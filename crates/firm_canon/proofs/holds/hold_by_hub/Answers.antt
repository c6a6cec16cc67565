use Rattle.std.proofs.Common.{List, ◌∙◌, length, sym, subst, Some}
use Rattle.firm_net.specs.Net.{Net, IsArc}
use Rattle.firm_paths.specs.PriceTable.{price_of}
use Rattle.firm_rules.specs.declared.rounds.Choice.{Choice}
use Rattle.firm_rules.specs.declared.rounds.Choice.TheVariants.{On}
use Rattle.firm_graph.specs.declared.network.Key.TheVariants.{Through, Wide}
use Rattle.firm_graph.specs.View.{View, IsSameCase}
use Rattle.firm_graph.specs.Network.{demand}
use Rattle.firm_canon.specs.inner.Placed.{wide}
use Rattle.firm_canon.proofs.Tries.{low_is, best_held, there_at}
use Rattle.firm_canon.proofs.Holdings.{held_other, can_come, can_hold_one}
use Rattle.firm_graph.specs.Ids.{view_of}
use Rattle.firm_canon.proofs.Graphs.{same_on}
use Rattle.firm_canon.proofs.Nears.{wide_is}
use Rattle.firm_canon.proofs.holds.hold_by_hub.Goals as goal

pub returns-clause-keeps : goal.returns-clause-keeps
returns-clause-keeps c =
    let h = c.hold_at.ensures in
    let k = c.hold_at-2.ensures in
    let p : List Choice = c.args.chosen.now in
    let old : View = view_of c.args.graph.now in
    let mid : View = view_of c.hold_at.new.graph in
    let new : View = view_of c.hold_at-2.new.graph in
    let same : IsSameCase old new = record {
      case = k.same.case.case ∙ h.same.case.case;
      node = k.same.case.node ∙ h.same.case.node;
      arc = k.same.case.arc ∙ h.same.case.arc;
    } in
    held_other old mid new (price_of c.args.prices.now)
    p c.args.machine c.task_arc.result c.through_arc-arc.result c.low_on-low.result c.requires.keeps c.requires.next
    c.requires.chosen c.requires.other c.requires.far
    k.shows same c.task_arc.ensures c.through_arc-arc.ensures
    (record { here = h.here; flows = h.flows; others = h.others })
    (record { here = k.here; flows = k.flows; others = k.others })
    (low_is old c.net.result.now c.through_arc-arc.result (Through c.args.machine)
    c.low_on-low.result c.net.ensures.value c.through_arc-arc.ensures c.low_on-low.ensures)

pub hold_at-requires-2-clause-allowed : goal.hold_at-requires-2-clause-allowed
hold_at-requires-2-clause-allowed c =
    let h = c.hold_at.ensures in
    let old : View = view_of c.args.graph.now in
    can_come old (view_of c.hold_at.new.graph) (price_of c.args.prices.now)
    c.args.chosen.now c.args.machine c.low_on-low.result c.through_arc-arc.result c.requires.keeps c.requires.chosen
    c.requires.other c.requires.far c.through_arc-arc.ensures
    (low_is old c.net.result.now c.through_arc-arc.result (Through c.args.machine)
    c.low_on-low.result c.net.ensures.value c.through_arc-arc.ensures c.low_on-low.ensures)
    h.flows

pub returns-clause-best : goal.returns-clause-best
returns-clause-best c =
    let h = c.hold_at.ensures in
    let k = c.hold_at-2.ensures in
    best_held (view_of c.args.graph.now) (view_of c.hold_at-2.new.graph) c.args.chosen.now (On c.args.machine)
    (record {
      case = k.same.case.case ∙ h.same.case.case;
      node = k.same.case.node ∙ h.same.case.node;
      arc = k.same.case.arc ∙ h.same.case.arc;
    })
    (λ b. k.flows b ∙ h.flows b)

pub low_on-low-requires : goal.low_on-low-requires
low_on-low-requires c =
    subst (λ (n : Net). IsArc n c.through_arc-arc.result) (sym c.net.ensures.value)
    (there_at (view_of c.args.graph.now) (price_of c.args.prices.now) c.args.chosen.now (Through c.args.machine)
    c.through_arc-arc.result c.requires.keeps c.requires.chosen.place c.through_arc-arc.ensures)

pub hold_at-requires-clause-allowed : goal.hold_at-requires-clause-allowed
hold_at-requires-clause-allowed c =
    let old : View = view_of c.args.graph.now in
    let n = length c.args.chosen.now in
    can_hold_one old (Wide n) c.task_arc.result (wide (demand old.case n) (Some (On c.args.machine)))
    (wide_is (demand old.case n) c.args.machine c.requires.other c.requires.far) c.requires.chosen.room.at_wide
    c.task_arc.ensures

pub returns-clause-same : goal.returns-clause-same
returns-clause-same c =
    same_on c.args.graph.now c.hold_at.new.graph c.hold_at-2.new.graph c.hold_at.ensures.same c.hold_at-2.ensures.same
