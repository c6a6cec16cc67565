use Rattle.std.proofs.Common.{◌≡◌, ◌∙◌, IsSome, Some, set, inl, sym, ap, subst}
use Rattle.firm_arena.specs.Arena.{with_value}
use Rattle.firm_arena.specs.Laws.{some_of}
use Rattle.firm_arena.specs.inner.Slot.{value_in, with_held}
use Rattle.firm_arena.proofs.SlotLemmas.{copied_there, found_slot, same_slot, sound_map, seen, lent_seen, lent_sound}
use Rattle.firm_arena.proofs.Arena.get_mut.Goals as goal

pub invariant_of-self-lent : goal.invariant_of-self-lent
invariant_of-self-lent g c w =
    let found =
    some_of _
    (subst IsSome c.get.ensures.value (copied_there c.get.result (rw c.if-is_none.false at c.is_none.ensures))) in
    let held =
    same_slot c.self.inside.block c.args.id.place _ _ c.get_mut.ensures.value
    (found_slot c.self.inside.block c.self.inside.counter c.args.id.place c.args.id.stamp found.0 found.1) in
    lent_sound _ _ _ _ _ c.args.id.place c.args.id.stamp _ found.0 w c.self.invariant held c.get_mut.ensures.value

pub returns : goal.returns
returns g c =
    let found =
    some_of _
    (subst IsSome c.get.ensures.value (copied_there c.get.result (rw c.if-is_none.false at c.is_none.ensures))) in
    let held =
    same_slot c.self.inside.block c.args.id.place _ _ c.get_mut.ensures.value
    (found_slot c.self.inside.block c.self.inside.counter c.args.id.place c.args.id.stamp found.0 found.1) in
    let ends : (w : g.row.T.Denot)
    → seen (set c.self.inside.block c.args.id.place (Some (with_held c.get_mut.result.now w))) c.self.inside.counter
    ≡ with_value c.args.self.now c.args.id w =
    λ w. rw (← c.self.view_is) (lent_seen c.self.inside.block c.self.inside.counter c.args.id _ found.0 w held) in (
      λ j. inl (c.value_mut.result.ghost_name, λ w. ends w j),
      record {
        writes_back = tt;
        value = rw (← c.self.view_is) (sym c.value_mut.ensures.value ∙ ap value_in held ∙ sym found.1);
        map = rw (← c.self.view_is) (sound_map _ _ _ _ _ c.self.invariant);
      },
    )
