use Rattle.firm_levels.specs.Work.{GoesOn}
use Rattle.firm_proposals.proofs.order_phase.OrderPhase.choose.Given as goal

abbrev pub invariant-loop-task : goal.invariant-loop-task
invariant-loop-task l = GoesOn l.initial.work l.work
