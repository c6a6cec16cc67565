use Rattle.firm_arena.proofs.SlotLemmas.{sound_map}
use Rattle.firm_arena.proofs.Arena.room.Goals as goal

pub returns-clause-map : goal.returns-clause-map
returns-clause-map g c = rw (← c.self.view_is) (sound_map _ _ _ _ _ c.self.invariant)
