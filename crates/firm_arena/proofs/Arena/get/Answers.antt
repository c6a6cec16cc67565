use Rattle.std.proofs.Common.{sym, ap}
use Rattle.firm_arena.specs.Arena.{value_under}
use Rattle.firm_arena.proofs.SlotLemmas.{sound_map, held_past}
use Rattle.firm_arena.proofs.Arena.get.Goals as goal

pub returns-then-id-self-clause-value : goal.returns-then-id-self-clause-value
returns-then-id-self-clause-value g c =
    rw (← c.self.view_is) (sym
    (ap (value_under c.args.id.stamp) (held_past _ _ _ _ _ c.self.invariant c.args.id.place c.if-id-self.true)))

pub returns-then-id-self-clause-map : goal.returns-then-id-self-clause-map
returns-then-id-self-clause-map g c = rw (← c.self.view_is) (sound_map _ _ _ _ _ c.self.invariant)

pub returns-in-Held-clause-map : goal.returns-in-Held-clause-map
returns-in-Held-clause-map g c = rw (← c.self.view_is) (sound_map _ _ _ _ _ c.self.invariant)

pub returns-in_default-clause-map : goal.returns-in_default-clause-map
returns-in_default-clause-map g c = rw (← c.self.view_is) (sound_map _ _ _ _ _ c.self.invariant)
