use Rattle.firm_levels.specs.Work.{GoesOn}
use Rattle.firm_proposals.proofs.paths.Paths.reach_by_unit.Given as goal

abbrev pub invariant-loop-machine : goal.invariant-loop-machine
invariant-loop-machine l = GoesOn l.initial.work l.work
