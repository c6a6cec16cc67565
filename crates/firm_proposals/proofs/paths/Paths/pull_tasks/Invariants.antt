use Rattle.firm_levels.specs.Work.{GoesOn}
use Rattle.firm_proposals.proofs.paths.Paths.pull_tasks.Given as goal

abbrev pub invariant-loop-number : goal.invariant-loop-number
invariant-loop-number l = GoesOn l.initial.work l.work
