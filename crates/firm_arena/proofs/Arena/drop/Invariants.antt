use Rattle.firm_arena.proofs.SlotLemmas.{IsReadTo}
use Rattle.firm_arena.proofs.Arena.drop.Given as goal

abbrev pub invariant-loop-place : goal.invariant-loop-place
invariant-loop-place g l = IsReadTo l.block l.used l.place
