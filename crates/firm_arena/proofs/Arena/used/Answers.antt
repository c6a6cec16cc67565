use Rattle.firm_arena.proofs.SlotLemmas.{held_past}
use Rattle.firm_arena.proofs.Arena.used.Goals as goal

pub returns-clause-nothing : goal.returns-clause-nothing
returns-clause-nothing g c = rw (← c.self.view_is) (held_past _ _ _ _ _ c.self.invariant)
