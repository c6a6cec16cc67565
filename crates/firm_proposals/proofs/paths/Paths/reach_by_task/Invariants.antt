use Rattle.firm_levels.specs.Work.{GoesOn}
use Rattle.firm_proposals.proofs.paths.Paths.reach_by_task.Given as goal

abbrev pub invariant-loop : goal.invariant-loop
invariant-loop l = GoesOn l.initial.work l.work
