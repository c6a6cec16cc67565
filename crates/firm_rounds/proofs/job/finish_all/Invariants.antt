use Rattle.std.proofs.Common.{vec_len}
use Rattle.firm_rounds.proofs.job.finish_all.Given as goal

abbrev pub invariant-loop-job : goal.invariant-loop-job
invariant-loop-job l = Unit {0}

abbrev pub decreases-loop-job : goal.decreases-loop-job
decreases-loop-job l = vec_len l.jobs
