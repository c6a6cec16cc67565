use Rattle.firm_levels.specs.Work.{GoesOn}
use Rattle.firm_proposals.proofs.sides.Side.goes_on.Given as goal

abbrev pub invariant-loop-next : goal.invariant-loop-next
invariant-loop-next l = GoesOn l.initial.work l.work
