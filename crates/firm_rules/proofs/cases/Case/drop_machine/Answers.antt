use Rattle.std.proofs.Common.{◌≡◌, ◌<◌, ◌≤◌, ◌++◌, ℕ, List, length, map, remove, take, drop, sym, ap, subst, ◌∙◌}
use Rattle.std.proofs.Common.{arith}
use mir.Syntax.{w32}
use mir.Val.{Fits}
use Rattle.firm_rules.specs.Limits.{TenantLimits}
use Rattle.firm_rules.specs.Placement.{Case, Demand as RoundDemand}
use Rattle.firm_rules.specs.inner.Demands.{seen, case_seen, without_machine_at}
use Rattle.firm_rules.specs.declared.demands.Demand.{Demand}
use Rattle.firm_rules.proofs.CaseSteps.{fits-without_machine, written-back}
use Rattle.firm_rules.proofs.cases.Case.drop_machine.Goals as goal

pub invariant_of-self : goal.invariant_of-self
invariant_of-self g c =
    let old : List Demand = c.self.inside.demands.items in
    let new : List Demand = c.leave_machine.new.demands in
    fits-without_machine c.self.inside.limits c.self.inside.jobs c.self.inside.slots.items c.remove.new.self.items old
    (take c.self.inside.demands.len (new ++ drop (length new) old)) c.args.place c.self.invariant
    (omega (arith, c.requires, ap (λ (case : Case). length case.slots) c.self.view_is)) c.remove.ensures.items
    (ap (map seen) (written-back c.self.inside.demands.len new (drop (length new) old)
    (omega (arith, c.deref_mut.ensures.len, c.leave_machine.auto.demands)))
    ∙ c.leave_machine.ensures
    ∙ ap (λ (l : List Demand). map (without_machine_at c.args.place) (map seen l)) c.deref_mut.ensures.value)

left : (limits : TenantLimits) (jobs : ℕ) (slots less : List ℕ) (old new : List Demand) (case : Case) (gone : ℕ)
    → case_seen limits jobs slots old ≡ case → less ≡ remove slots gone
    → map seen new ≡ map (without_machine_at gone) (map seen old)
    → (let after : Case = record case {
      slots = remove case.slots gone;
      tasks = map (without_machine_at gone) case.tasks;
    } in case_seen limits jobs less new ≡ after)
left limits jobs slots less old new case gone view less-is is =
    ap (λ (l : List ℕ). case_seen limits jobs l new) less-is
    ∙ ap (λ (l : List RoundDemand). let k : Case = record (case_seen limits jobs (remove slots gone) old) {
      tasks = l;
    } in k) is
    ∙ ap (λ (c : Case). let k : Case = record c {
      slots = remove c.slots gone;
      tasks = map (without_machine_at gone) c.tasks;
    } in k) view

pub returns : goal.returns
returns g c =
    let old : List Demand = c.self.inside.demands.items in
    let new : List Demand = c.leave_machine.new.demands in
    left c.self.inside.limits c.self.inside.jobs c.self.inside.slots.items c.remove.new.self.items old
    (take c.self.inside.demands.len (new ++ drop (length new) old)) c.args.self.now c.args.place c.self.view_is
    c.remove.ensures.items
    (ap (map seen) (written-back c.self.inside.demands.len new (drop (length new) old)
    (omega (arith, c.deref_mut.ensures.len, c.leave_machine.auto.demands)))
    ∙ c.leave_machine.ensures
    ∙ ap (λ (l : List Demand). map (without_machine_at c.args.place) (map seen l)) c.deref_mut.ensures.value)

pub remove-requires : goal.remove-requires
remove-requires g c =
    subst (λ n. c.args.place < n)
    (sym (ap (λ (case : Case). length case.slots) c.self.view_is) ∙ sym c.self.inside.slots.ok.0) c.requires

small : (place now count : ℕ) → place < now → count ≡ now → count ≤ 4096 → Fits w32 place
small place now count there is few = omega (arith, there, is, few)

pub overflow_cast-place : goal.overflow_cast-place
overflow_cast-place g c =
    small c.args.place (length c.args.self.now.slots) (length c.self.inside.slots.items) c.requires
    (ap (λ (case : Case). length case.slots) c.self.view_is) c.self.invariant.few_machines
