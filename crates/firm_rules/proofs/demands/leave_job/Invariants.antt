use Rattle.std.proofs.Common.{◌≡◌, map}
use Rattle.firm_rules.specs.inner.Demands.{seen, without_job_at}
use Rattle.firm_rules.proofs.TaskWrites.{written}
use Rattle.firm_rules.proofs.demands.leave_job.Given as goal

-- the jobs of the tasks before this one have moved down
abbrev pub invariant-loop-demand : goal.invariant-loop-demand
invariant-loop-demand l =
    map seen l.demands
    ≡ written (map (without_job_at l.place) (map seen l.initial.demands)) (map seen l.initial.demands) l.demand-index
