use Rattle.firm_levels.specs.Work.{GoesOn}
use Rattle.firm_proposals.proofs.price_phase.Movers.lower_prices.Given as goal

abbrev pub invariant-loop-number : goal.invariant-loop-number
invariant-loop-number l = GoesOn l.initial.work l.work

abbrev pub invariant-loop-number-2 : goal.invariant-loop-number-2
invariant-loop-number-2 l = GoesOn l.initial.work l.work

abbrev pub invariant-loop : goal.invariant-loop
invariant-loop l = GoesOn l.initial.work l.work
