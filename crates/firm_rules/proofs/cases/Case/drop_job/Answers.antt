use Rattle.std.proofs.Common.{◌≡◌, ◌-◌, ◌++◌, ℕ, List, length, map, take, drop, ap, ◌∙◌, arith}
use Rattle.firm_rules.specs.Limits.{TenantLimits}
use Rattle.firm_rules.specs.Placement.{Case, Demand as RoundDemand}
use Rattle.firm_rules.specs.inner.Demands.{seen, case_seen, without_job_at}
use Rattle.firm_rules.specs.declared.demands.Demand.{Demand}
use Rattle.firm_rules.proofs.CaseSteps.{fits-without_job, written-back}
use Rattle.firm_rules.proofs.cases.Case.drop_job.Goals as goal

pub invariant_of-self : goal.invariant_of-self
invariant_of-self g c =
    let old : List Demand = c.self.inside.demands.items in
    let new : List Demand = c.leave_job.new.demands in
    fits-without_job c.self.inside.limits c.self.inside.jobs (c.self.inside.jobs - 1) c.self.inside.slots.items old
    (take c.self.inside.demands.len (new ++ drop (length new) old)) c.args.place c.self.invariant
    (ap (map seen) (written-back c.self.inside.demands.len new (drop (length new) old)
    (omega (arith, c.deref_mut.ensures.len, c.leave_job.auto.demands)))
    ∙ c.leave_job.ensures
    ∙ ap (λ (l : List Demand). map (without_job_at c.args.place) (map seen l)) c.deref_mut.ensures.value)

left : (limits : TenantLimits) (jobs : ℕ) (slots : List ℕ) (old new : List Demand) (case : Case) (gone : ℕ)
    → case_seen limits jobs slots old ≡ case → map seen new ≡ map (without_job_at gone) (map seen old)
    → (let after : Case = record case {
      jobs = case.jobs - 1;
      tasks = map (without_job_at gone) case.tasks;
    } in case_seen limits (jobs - 1) slots new ≡ after)
left limits jobs slots old new case gone view is =
    ap (λ (l : List RoundDemand). let k : Case = record (case_seen limits (jobs - 1) slots old) { tasks = l } in k) is
    ∙ ap (λ (c : Case). let k : Case = record c {
      jobs = c.jobs - 1;
      tasks = map (without_job_at gone) c.tasks;
    } in k) view

pub returns : goal.returns
returns g c =
    let old : List Demand = c.self.inside.demands.items in
    let new : List Demand = c.leave_job.new.demands in
    left c.self.inside.limits c.self.inside.jobs c.self.inside.slots.items old
    (take c.self.inside.demands.len (new ++ drop (length new) old)) c.args.self.now c.args.place c.self.view_is
    (ap (map seen) (written-back c.self.inside.demands.len new (drop (length new) old)
    (omega (arith, c.deref_mut.ensures.len, c.leave_job.auto.demands)))
    ∙ c.leave_job.ensures
    ∙ ap (λ (l : List Demand). map (without_job_at c.args.place) (map seen l)) c.deref_mut.ensures.value)
