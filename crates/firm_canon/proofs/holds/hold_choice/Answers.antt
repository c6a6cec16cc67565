use Rattle.std.proofs.Common.{◌≡◌, List, [], ◌∷◌, ◌++◌, sym, subst}
use Rattle.firm_paths.specs.PriceTable.{price_of}
use Rattle.firm_rules.specs.declared.rounds.Choice.{Choice}
use Rattle.firm_canon.specs.inner.Choosing.{Keeps, IsChosen, best}
use Rattle.firm_canon.proofs.Tries.{best_held}
use Rattle.firm_canon.proofs.Holdings.{held_wait}
use Rattle.firm_graph.specs.Ids.{view_of}
use Rattle.firm_canon.proofs.holds.hold_choice.Goals as goal

pub returns-in-Wait-clause-keeps : goal.returns-in-Wait-clause-keeps
returns-in-Wait-clause-keeps c =
    let h = c.hold_at.ensures in
    let p : List Choice = c.args.chosen.now in
    subst (λ (o : Choice). Keeps (view_of c.hold_at.new.graph) (price_of c.args.prices.now) (p ++ o ∷ []))
    (sym c.in-Wait.is)
    (held_wait (view_of c.args.graph.now) (view_of c.hold_at.new.graph) (price_of c.args.prices.now)
    p c.task_arc.result c.requires.keeps c.requires.next
    (subst (λ (o : Choice). IsChosen (view_of c.args.graph.now) p o) c.in-Wait.is c.requires.chosen)
    h.shows h.same.case c.task_arc.ensures
    (record { here = h.here; flows = h.flows; others = h.others }))

pub returns-in-Wait-clause-best : goal.returns-in-Wait-clause-best
returns-in-Wait-clause-best c =
    let h = c.hold_at.ensures in
    best_held (view_of c.args.graph.now) (view_of c.hold_at.new.graph) c.args.chosen.now c.args.choice
    h.same.case h.flows

pub hold_machine-requires-clause-chosen : goal.hold_machine-requires-clause-chosen
hold_machine-requires-clause-chosen c =
    subst (λ (o : Choice). IsChosen (view_of c.args.graph.now) c.args.chosen.now o) c.in-On.is c.requires.chosen

pub returns-in-On-clause-keeps : goal.returns-in-On-clause-keeps
returns-in-On-clause-keeps c =
    subst (λ (o : Choice). Keeps (view_of c.hold_machine.new.graph) (price_of c.args.prices.now)
    (c.args.chosen.now ++ o ∷ [])) (sym c.in-On.is) c.hold_machine.ensures.keeps

pub returns-in-On-clause-best : goal.returns-in-On-clause-best
returns-in-On-clause-best c =
    subst (λ (o : Choice). best (view_of c.hold_machine.new.graph) (c.args.chosen.now ++ o ∷ [])
    ≡ best (view_of c.args.graph.now) c.args.chosen.now) (sym c.in-On.is) c.hold_machine.ensures.best
