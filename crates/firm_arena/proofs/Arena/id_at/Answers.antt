use Rattle.std.proofs.Common.{sym, ap}
use Rattle.firm_arena.specs.Arena.{value_under, id_of}
use Rattle.firm_arena.proofs.SlotLemmas.{sound_map, held_past, not_there}
use Rattle.firm_arena.proofs.Arena.id_at.Goals as goal

pub returns-then-place-self-clause-value : goal.returns-then-place-self-clause-value
returns-then-place-self-clause-value g c =
    rw (← c.self.view_is)
    (sym (ap (id_of c.args.place) (held_past _ _ _ _ _ c.self.invariant c.args.place c.if-place-self.true)))

pub returns-then-place-self-clause-only : goal.returns-then-place-self-clause-only
returns-then-place-self-clause-only g c =
    rw (← c.self.view_is) (λ stamp there.
    absurd (not_there _
    (ap (value_under stamp) (held_past _ _ _ _ _ c.self.invariant c.args.place c.if-place-self.true)) there))

pub returns-then-place-self-clause-map : goal.returns-then-place-self-clause-map
returns-then-place-self-clause-map g c = rw (← c.self.view_is) (sound_map _ _ _ _ _ c.self.invariant)

pub returns-in-Held-clause-map : goal.returns-in-Held-clause-map
returns-in-Held-clause-map g c = rw (← c.self.view_is) (sound_map _ _ _ _ _ c.self.invariant)

pub returns-in-Free-clause-map : goal.returns-in-Free-clause-map
returns-in-Free-clause-map g c = rw (← c.self.view_is) (sound_map _ _ _ _ _ c.self.invariant)
