use Rattle.firm_levels.specs.Work.{GoesOn}
use Rattle.firm_proposals.proofs.paths.Paths.fill_deficit.Given as goal

abbrev pub invariant-loop : goal.invariant-loop
invariant-loop l = GoesOn l.initial.work l.work

abbrev pub invariant-loop-machine : goal.invariant-loop-machine
invariant-loop-machine l = GoesOn l.initial.work l.work
