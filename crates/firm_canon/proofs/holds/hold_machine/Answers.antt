use Rattle.std.proofs.Common.{ℕ, List, length, sym, ap, ◌∙◌, Some, ◌<◌, subst}
use Rattle.firm_paths.specs.PriceTable.{price_of}
use Rattle.firm_rules.specs.declared.rounds.Choice.{Choice}
use Rattle.firm_rules.specs.declared.rounds.Choice.TheVariants.{On}
use Rattle.firm_rules.specs.Placement.{runs_at}
use Rattle.firm_graph.specs.Network.{demand}
use Rattle.firm_graph.specs.declared.network.Key.TheVariants.{Prefer, Stay}
use Rattle.firm_graph.specs.View.{View}
use Rattle.firm_canon.specs.inner.Placed.{stay}
use Rattle.firm_canon.proofs.Nears.{preferred_found, preferred_missed, own_stay, number_in}
use Rattle.firm_canon.proofs.Tries.{best_held}
use Rattle.firm_canon.proofs.Holdings.{held_own, held_near, can_go, can_hold_one}
use Rattle.firm_graph.specs.Ids.{view_of}
use Rattle.firm_canon.proofs.holds.hold_machine.Goals as goal

pub returns-then-is_home-clause-keeps : goal.returns-then-is_home-clause-keeps
returns-then-is_home-clause-keeps c =
    let h = c.hold_at.ensures in
    held_own (view_of c.args.graph.now) (view_of c.hold_at.new.graph)
    (price_of c.args.prices.now) c.args.chosen.now c.args.machine c.task_arc.result c.requires.keeps c.requires.next
    c.requires.chosen
    (ap (λ h. runs_at h c.args.machine) (sym c.requires.home) ∙ (sym c.is_home.ensures ∙ c.if-is_home.true))
    h.shows h.same.case c.task_arc.ensures
    (record { here = h.here; flows = h.flows; others = h.others })

pub returns-then-is_home-clause-best : goal.returns-then-is_home-clause-best
returns-then-is_home-clause-best c =
    let h = c.hold_at.ensures in
    best_held (view_of c.args.graph.now) (view_of c.hold_at.new.graph) c.args.chosen.now (On c.args.machine)
    h.same.case h.flows

pub hold_by_hub-requires-clause-other : goal.hold_by_hub-requires-clause-other
hold_by_hub-requires-clause-other c =
    ap (λ h. runs_at h c.args.machine) (sym c.requires.home) ∙ (sym c.is_home.ensures ∙ c.if-is_home.false)

pub hold_by_hub-requires-clause-far : goal.hold_by_hub-requires-clause-far
hold_by_hub-requires-clause-far c =
    preferred_missed (demand (view_of c.args.graph.now).case (length c.args.chosen.now)) c.deref.result.now
    c.args.machine (c.deref.ensures.0 ∙ c.requires.places)
    (sym c.preference_for.ensures ∙ c.in_default.is)

pub hold_at-requires-in-Some-clause-allowed : goal.hold_at-requires-in-Some-clause-allowed
hold_at-requires-in-Some-clause-allowed c =
    let old : View = view_of c.args.graph.now in
    let p : List Choice = c.args.chosen.now in
    let it = preferred_found (demand old.case (length p)) c.deref.result.now c.args.machine c.in-Some.number
    (c.deref.ensures.0 ∙ c.requires.places) (sym c.preference_for.ensures ∙ c.in-Some.is) in
    can_go old (price_of c.args.prices.now) p c.args.machine c.in-Some.number c.task_arc-in-Some.result c.requires.keeps
    c.requires.chosen
    (ap (λ h. runs_at h c.args.machine) (sym c.requires.home) ∙ (sym c.is_home.ensures ∙ c.if-is_home.false))
    it.0 it.1 c.task_arc-in-Some.ensures

pub returns-in-Some-clause-keeps : goal.returns-in-Some-clause-keeps
returns-in-Some-clause-keeps c =
    let h = c.hold_at-in-Some.ensures in
    let old : View = view_of c.args.graph.now in
    let p : List Choice = c.args.chosen.now in
    let it = preferred_found (demand old.case (length p)) c.deref.result.now c.args.machine c.in-Some.number
    (c.deref.ensures.0 ∙ c.requires.places) (sym c.preference_for.ensures ∙ c.in-Some.is) in
    held_near old (view_of c.hold_at-in-Some.new.graph) (price_of c.args.prices.now) p c.args.machine
    c.task_arc-in-Some.result c.requires.keeps c.requires.next c.requires.chosen
    (ap (λ h. runs_at h c.args.machine) (sym c.requires.home) ∙ (sym c.is_home.ensures ∙ c.if-is_home.false))
    it.0 h.shows h.same.case
    (c.task_arc-in-Some.ensures ∙ ap (λ (k : ℕ). old.arc (Prefer (length p) k)) it.1)
    (record { here = h.here; flows = h.flows; others = h.others })

pub returns-in-Some-clause-best : goal.returns-in-Some-clause-best
returns-in-Some-clause-best c =
    let h = c.hold_at-in-Some.ensures in
    best_held (view_of c.args.graph.now) (view_of c.hold_at-in-Some.new.graph) c.args.chosen.now (On c.args.machine)
    h.same.case h.flows

pub hold_at-requires-clause-allowed : goal.hold_at-requires-clause-allowed
hold_at-requires-clause-allowed c =
    let old : View = view_of c.args.graph.now in
    let n = length c.args.chosen.now in
    can_hold_one old (Stay n) c.task_arc.result (stay (demand old.case n).home (Some (On c.args.machine)))
    (own_stay (demand old.case n).home c.args.machine
    (ap (λ h. runs_at h c.args.machine) (sym c.requires.home) ∙ (sym c.is_home.ensures ∙ c.if-is_home.true)))
    c.requires.chosen.room.at_stay c.task_arc.ensures

pub task_arc-requires-in-Some-clause-arc : goal.task_arc-requires-in-Some-clause-arc
task_arc-requires-in-Some-clause-arc c =
    let task = demand (view_of c.args.graph.now).case (length c.args.chosen.now) in
    let it = preferred_found task c.deref.result.now c.args.machine c.in-Some.number
    (c.deref.ensures.0 ∙ c.requires.places) (sym c.preference_for.ensures ∙ c.in-Some.is) in
    subst (λ (k : ℕ). k < length task.preferred) (sym it.1) (number_in task.preferred c.args.machine it.0).0
