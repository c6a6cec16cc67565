use Rattle.firm_levels.specs.Work.{GoesOn}
use Rattle.firm_proposals.proofs.paths.Paths.assign_tight.Given as goal

abbrev pub invariant-loop-tried : goal.invariant-loop-tried
invariant-loop-tried l = GoesOn l.initial.work l.work
