use Rattle.firm_sequence.proofs.KeptItems.{AreMoved}
use Rattle.firm_sequence.proofs.sequence.close.Given as goal

abbrev pub invariant-loop-count : goal.invariant-loop-count
invariant-loop-count g l = AreMoved l.fn.slots.items l.fn.gaps.items l.count l.slots.items
