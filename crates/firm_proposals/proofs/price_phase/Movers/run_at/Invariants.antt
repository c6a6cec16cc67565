use Rattle.firm_levels.specs.Work.{GoesOn}
use Rattle.firm_proposals.proofs.price_phase.Movers.run_at.Given as goal

abbrev pub invariant-loop-task : goal.invariant-loop-task
invariant-loop-task l = GoesOn l.initial.work l.work

abbrev pub invariant-loop-count : goal.invariant-loop-count
invariant-loop-count l = GoesOn l.initial.work l.work
