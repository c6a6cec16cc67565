-- How each change of a place keeps an arena's fields sound.
use Rattle.std.proofs.Common.{◌≡◌, ◌≢◌, ℕ, zero, suc, ◌+◌, ◌^◌, ◌<◌, ◌≤◌, List, [], ◌∷◌, map, length, get_or, set}
use Rattle.std.proofs.Common.{Option, Some, None, is_some, IsSome, count_by, cond, refl, sym, ap, ◌∙◌, subst, inl, inr}
use Rattle.std.proofs.Common.{arith, length-set, replicate, ◌-◌}
use Rattle.std.proofs.lemmas.Bool.{cases_eq, cases_lt}
use Rattle.std.proofs.lemmas.List.{map-set, length-map, get_or-set_same, get_or-set_other, set-set, length-replicate}
use Rattle.firm_arena.specs.declared.slot.Slot.{Slot}
use Rattle.firm_arena.specs.declared.slot.Slot.TheVariants.{Free, Held}
use Rattle.firm_arena.specs.Arena.{Arena, value_under, find, len_of, vacant, with_put, without, with_value, IsVacant}
use Rattle.firm_arena.specs.Arena.{IsBoundedMap, SameOthers}
use Rattle.firm_arena.specs.Laws.{put_found, put_others, put_kept, put_len, take_gone, take_others, take_len}
use Rattle.firm_arena.specs.Laws.{never_again, bounded, count-set, some_within, value_under-found}
use denote.Bor.{Bor}
use Rattle.std.specs.Prelude.{option_copied, true}
use Rattle.firm_arena.specs.declared.Id.{Id}
use Rattle.firm_arena.specs.Steps.{Step, after}
use Rattle.firm_arena.specs.inner.Slot.{held_in, with_held, slot_at, IsFreeAt, IsFreeList, IsSound, Claims}

module _ {X : Type 0} where
  -- what a place holds, read in the row
  pub held_at-map : (row : List (Option (Slot X))) (place : ℕ)
      → get_or (map held_in row) place None ≡ held_in (slot_at row place)
  held_at-map [] place = refl
  held_at-map (c ∷ row) zero = refl
  held_at-map (c ∷ row) (suc place) = held_at-map row place

  -- a place that holds something has a slot with it
  pub held_slot : (slot : Option (Slot X)) (own : ℕ × X) → held_in slot ≡ Some own → slot ≡ Some (Held own.0 own.1)
  held_slot None own read = cc
  held_slot (Some (Free next)) own read = cc
  held_slot (Some (Held stamp value)) own read =
      let same : (stamp, value) ≡ own = cc in λ j. Some (Held (same j).0 (same j).1)

  -- the map that contracts see is bounded
  pub sound_map : (row : List (Option (Slot X))) (used len : ℕ) (first : Option ℕ) (counter : ℕ)
      → IsSound row used len first counter
      → IsBoundedMap (record { held = map held_in row; counter = counter })
  sound_map row used len first counter sound =
      bounded (record { held = map held_in row; counter = counter })
      (λ place own read.
      sound.stamps place own.0 own.1 (held_slot (slot_at row place) own (sym (held_at-map row place) ∙ read)))
      sound.limit (omega (arith, sound.capacity, length-map row held_in))

  -- a place starts one free list at most
  pub free_list-unique : (row : List (Option (Slot X))) (m n : ℕ) (first : Option ℕ) → IsFreeList row m first
      → IsFreeList row n first → m ≡ n
  free_list-unique row zero zero first p q = refl
  free_list-unique row zero (suc n) first p q = let other = q.2 in cc
  free_list-unique row (suc m) zero first p q = let other = p.2 in cc
  free_list-unique row (suc m) (suc n) first p q =
      let place : q.0 ≡ p.0 = let a = p.2 in let b = q.2 in cc in
      let next : q.1 ≡ p.1 = let a = p.3 in let b : slot_at row p.0 ≡ Some (Free q.1) =
      ap (slot_at row) (sym place) ∙ q.3 in cc in
      ap suc (free_list-unique row m n p.1 p.4 (subst (IsFreeList row n) next q.4))

  -- a write at a place that is not on the free list keeps the list
  pub free_list-set : (row : List (Option (Slot X))) (place : ℕ) (slot : Option (Slot X)) (n : ℕ) (first : Option ℕ)
      → ((k : ℕ) (next : Option ℕ) → k < n → slot_at row place ≡ Some (Free next) → IsFreeList row k next → ⊥)
      → IsFreeList row n first → IsFreeList (set row place slot) n first
  free_list-set row place slot zero first off list = list
  free_list-set row place slot (suc n) first off list =
      elim (cases_eq list.0 place) [
        | inl same ↦ absurd (off n list.1 (omega arith) (ap (slot_at row) (sym same) ∙ list.3) list.4)
        | inr apart ↦ (
          list.0,
          list.1,
          list.2,
          get_or-set_other row place list.0 slot None apart ∙ list.3,
          free_list-set row place slot n list.1 (λ k next below. off k next (omega arith)) list.4,
        )
      ]

  -- the count of values after a write
  pub held-count : (row : List (Option (Slot X))) (place : ℕ) (slot : Option (Slot X)) → place < length row
      → count_by is_some (map held_in (set row place slot)) + cond (is_some (held_in (slot_at row place))) 1 0
      ≡ count_by is_some (map held_in row) + cond (is_some (held_in slot)) 1 0
  held-count row place slot within =
      let counted = count-set (map held_in row) place (held_in slot) (omega (arith, length-map row held_in)) in
      rw (map-set held_in row place slot, ← held_at-map row place) counted

  -- a slot is written at a place below `used`, and the other places stay
  pub sound-set : (row : List (Option (Slot X))) (used len : ℕ) (first : Option ℕ) (counter : ℕ)
      → IsSound row used len first counter
      → (place : ℕ) (slot : Slot X) (used' len' : ℕ) (first' : Option ℕ) (counter' free' : ℕ)
      → place < used' → used ≤ used' → used' ≤ length row → ((other : ℕ) → other < used' → other ≢ place → other < used)
      → IsFreeList (set row place (Some slot)) free' first' → len' + free' ≡ used'
      → len' ≡ count_by is_some (map held_in (set row place (Some slot)))
      → ((stamp : ℕ) (value : X) → slot ≡ Held stamp value → stamp < counter') → counter ≤ counter' → counter' < 2 ^ 64
      → IsSound (set row place (Some slot)) used' len' first' counter'
  sound-set row used len first counter sound place slot used' len' first' counter' free' inside more within others
      linked total counted stamp up limit =
      let long = length-set row place (Some slot) in
      record {
        free = free';
        linked = linked;
        total = total;
        counted = counted;
        within = omega arith;
        written = λ other below. elim (cases_eq other place) [
          | inl same ↦ ap is_some (there other same)
          | inr apart ↦ ap is_some (get_or-set_other row place other (Some slot) None apart)
              ∙ sound.written other (others other below apart)
        ];
        unwritten =
            λ other above. get_or-set_other row place other (Some slot) None (λ same. absurd (omega arith))
            ∙ sound.unwritten other (omega arith);
        stamps = λ other own value read. elim (cases_eq other place) [
          | inl same ↦ (let held : Some slot ≡ Some (Held own value) =
              sym (there other same) ∙ read in stamp own value (let e : slot ≡ Held own value = cc in e))
          | inr apart ↦ (let below =
              sound.stamps other own value (sym (get_or-set_other row place other (Some slot) None apart) ∙ read) in
              omega arith)
        ];
        limit = limit;
        capacity = omega (arith, sound.capacity);
      }
    where
      there : (other : ℕ) → other ≡ place → get_or (set row place (Some slot)) other None ≡ Some slot
      there other same =
          ap (λ p. get_or (set row place (Some slot)) p None) same
          ∙ get_or-set_same row place (Some slot) None (omega arith)

  -- a slot that was read is at a place that was written
  pub below_used : (row : List (Option (Slot X))) (used len : ℕ) (first : Option ℕ) (counter : ℕ)
      → IsSound row used len first counter
      → (place : ℕ) (slot : Slot X) → slot_at row place ≡ Some slot → place < used
  below_used row used len first counter sound place slot read =
      elim (cases_lt place used) [ inl below ↦ below | inr above ↦ (let none = sound.unwritten place above in cc) ]

  -- the first place of the free list is free
  pub first_is_free : (row : List (Option (Slot X))) (n : ℕ) (first : Option ℕ) (place : ℕ) → IsFreeList row n first
      → first ≡ Some place → IsFreeAt row place
  first_is_free row zero first place list read = cc
  first_is_free row (suc n) first place list read =
      let same : list.0 ≡ place = let a = list.2 in cc in (list.1, ap (slot_at row) (sym same) ∙ list.3)

  -- with no place on the free list, each place below `used` holds a value
  pub none_free : (row : List (Option (Slot X))) (used len : ℕ) (first : Option ℕ) (counter : ℕ)
      → IsSound row used len first counter → first ≡ None → len ≡ used
  none_free row used len first counter sound none = by_count sound.free sound.linked sound.total
    where
      by_count : (n : ℕ) → IsFreeList row n first → len + n ≡ used → len ≡ used
      by_count zero list total = omega arith
      by_count (suc n) list total = let a = list.2 in cc

  -- what is known of a claimed place
  pub claimed_vacant : (old row : List (Option (Slot X))) (used len : ℕ) (first : Option ℕ) (counter used' : ℕ)
      (first' : Option ℕ) (place : ℕ)
      → IsSound old used len first counter → len < length old → Claims old used first row used' first' place
      → (place < length old) × (held_in (slot_at old place) ≡ None) × (slot_at row place ≡ None)
      × (length row ≡ length old)
      × ((slot : Option (Slot X)) → set row place slot ≡ set old place slot)
  claimed_vacant old row used len first counter used' first' place sound room (inl c) =
      let within = some_within old place (Free first') c.1 in (
        within,
        ap held_in c.1,
        ap (λ r. slot_at r place) c.2 ∙ get_or-set_same old place None None within,
        ap length c.2 ∙ length-set old place None,
        λ slot. ap (λ r. set r place slot) c.2 ∙ set-set old place None slot,
      )
  claimed_vacant old row used len first counter used' first' place sound room (inr c) =
      let full = none_free old used len first counter sound c.0 in
      let empty : slot_at old place ≡ None = sound.unwritten place (omega (arith, c.1)) in (
        omega (arith, c.1),
        ap held_in empty,
        ap (λ r. slot_at r place) c.2
            ∙ empty,
        ap length c.2,
        λ slot. ap (λ r. set r place slot) c.2,
      )

  stamp_held : (stamp own : ℕ) (value held : X) → Held stamp value ≡ Held own held → stamp ≡ own
  stamp_held stamp own value held same = cc

  -- the value is written at the first place of the free list
  put_linked : (row : List (Option (Slot X))) (used len : ℕ) (first : Option ℕ) (counter : ℕ) (next : Option ℕ)
      (place : ℕ) (value : X) (n : ℕ)
      → IsSound row used len first counter → counter + 1 < 2 ^ 64 → first ≡ Some place
      → slot_at row place ≡ Some (Free next)
      → IsFreeList row n first → len + n ≡ used
      → len + 1 ≡ count_by is_some (map held_in (set row place (Some (Held counter value))))
      → IsSound (set row place (Some (Held counter value))) used (len + 1) next (counter + 1)
  put_linked row used len first counter next place value zero sound limit starts read list total count = cc
  put_linked row used len first counter next place value (suc n) sound limit starts read list total count =
      let here : list.0 ≡ place = let a = list.2 in cc in
      let follows : list.1 ≡ next = let a : slot_at row place ≡ Some (Free list.1) =
      ap (slot_at row) (sym here) ∙ list.3 in cc in
      let rest : IsFreeList row n next = subst (IsFreeList row n) follows list.4 in
      let off : (k : ℕ) (after : Option ℕ) → k < n → slot_at row place ≡ Some (Free after) → IsFreeList row k after
      → ⊥ =
      λ k after below at later. let same =
      free_list-unique row (suc k) (suc n) first (place, after, starts, at, later) list in absurd (omega arith) in
      sound-set row used len first counter sound place (Held counter value) used (len + 1) next (counter + 1) n
      (below_used row used len first counter sound place (Free next) read) (omega arith) sound.within
      (λ other below apart. below)
      (free_list-set row place (Some (Held counter value)) n next off rest) (omega arith) count
      (λ stamp v held. let same = stamp_held counter stamp value v held in omega arith) (omega arith) limit

  -- the value is written at the first place that never was
  put_fresh : (row : List (Option (Slot X))) (used len : ℕ) (first : Option ℕ) (counter place : ℕ) (value : X)
      → IsSound row used len first counter → counter + 1 < 2 ^ 64 → len < length row → first ≡ None → place ≡ used
      → len + 1 ≡ count_by is_some (map held_in (set row place (Some (Held counter value))))
      → IsSound (set row place (Some (Held counter value))) (used + 1) (len + 1) None (counter + 1)
  put_fresh row used len first counter place value sound limit room none fresh count =
      let full = none_free row used len first counter sound none in
      sound-set row used len first counter sound place (Held counter value) (used + 1) (len + 1) None (counter + 1) 0
      (omega arith) (omega arith) (omega arith)
      (λ other below apart. elim (cases_lt other used) [ inl less ↦ less | inr more ↦ absurd (apart (omega arith)) ])
      refl (omega arith) count (λ stamp v held. let same = stamp_held counter stamp value v held in omega arith)
      (omega arith) limit

  pub put_sound : (old row : List (Option (Slot X))) (used len : ℕ) (first : Option ℕ) (counter used' : ℕ)
      (first' : Option ℕ) (place : ℕ) (value : X)
      → IsSound old used len first counter → len < length old → counter + 1 < 2 ^ 64
      → Claims old used first row used' first' place
      → IsSound (set row place (Some (Held counter value))) used' (len + 1) first' (counter + 1)
  put_sound old row used len first counter used' first' place value sound room limit claims =
      let facts = claimed_vacant old row used len first counter used' first' place sound room claims in
      let counted = rw facts.1 at (held-count old place (Some (Held counter value)) facts.0) in
      let count : len + 1 ≡ count_by is_some (map held_in (set old place (Some (Held counter value)))) =
      omega (arith, sound.counted) in
      rw (facts.4 (Some (Held counter value))) (elim claims [
        | inl c ↦ rw c.3 (put_linked old used len first counter first' place value sound.free sound limit c.0 c.1
            sound.linked sound.total count)
        | inr c ↦ rw (c.3, c.4) (put_fresh old used len first counter place value sound limit room c.0 c.1 count)
      ])

  pub take_sound : (row : List (Option (Slot X))) (used len : ℕ) (first : Option ℕ) (counter place stamp : ℕ)
      (value : X)
      → IsSound row used len first counter → slot_at row place ≡ Some (Held stamp value)
      → (0 < len) × IsSound (set row place (Some (Free first))) used (len - 1) (Some place) counter
  take_sound row used len first counter place stamp value sound read =
      let within = some_within row place (Held stamp value) read in
      let counted = rw read at (held-count row place (Some (Free first)) within) in
      let some_held : 0 < len = omega (arith, sound.counted) in
      let list : IsFreeList (set row place (Some (Free first))) (suc sound.free) (Some place) = (
        place,
        first,
        refl,
        get_or-set_same row place (Some (Free first)) None within,
        free_list-set row place (Some (Free first)) sound.free first
            (λ k next below at later. let clash : Some (Free next) ≡ Some (Held stamp value) = sym at ∙ read in cc)
            sound.linked,
      ) in (
        some_held,
        sound-set row used len first counter sound place (Free first) used (len - 1) (Some place) counter
            (suc sound.free)
            (below_used row used len first counter sound place (Held stamp value) read) (omega arith) sound.within
            (λ other below apart. below)
            list (omega (arith, sound.total)) (omega (arith, sound.counted))
            (λ own v held. let clash : Free first ≡ Held own v = held in cc) (omega arith) sound.limit,
      )

  pub write_sound : (row : List (Option (Slot X))) (used len : ℕ) (first : Option ℕ) (counter place stamp : ℕ)
      (value new : X)
      → IsSound row used len first counter → slot_at row place ≡ Some (Held stamp value)
      → IsSound (set row place (Some (Held stamp new))) used len first counter
  write_sound row used len first counter place stamp value new sound read =
      let within = some_within row place (Held stamp value) read in
      let counted = rw read at (held-count row place (Some (Held stamp new)) within) in
      sound-set row used len first counter sound place (Held stamp new) used len first counter sound.free
      (below_used row used len first counter sound place (Held stamp value) read) (omega arith) sound.within
      (λ other below apart. below)
      (free_list-set row place (Some (Held stamp new)) sound.free first
      (λ k next below at later. let clash : Some (Free next) ≡ Some (Held stamp value) = sym at ∙ read in cc)
      sound.linked)
      sound.total (omega (arith, sound.counted))
      (λ own v held. let same = stamp_held stamp own new v held in let below =
      sound.stamps place stamp value read in omega arith)
      (omega arith) sound.limit

  -- an arena that was never written is sound
  pub new_sound : (capacity counter : ℕ) → capacity < 2 ^ 32 → counter < 2 ^ 64
      → IsSound {X = X} (replicate capacity None) 0 0 None counter
  new_sound capacity counter small limit = record {
    free = 0;
    linked = refl;
    total = refl;
    counted = sym (none_held capacity);
    within = omega arith;
    written = λ place below. absurd (omega arith);
    unwritten = λ place above. empty capacity place;
    stamps = λ place stamp value read. let none = empty capacity place in cc;
    limit = limit;
    capacity = omega (arith, length-replicate {A = Option (Slot X)} capacity None);
  }
    where
      empty : (n place : ℕ) → slot_at {X = X} (replicate n None) place ≡ None
      empty zero place = refl
      empty (suc n) zero = refl
      empty (suc n) (suc place) = empty n place

      none_held : (n : ℕ) → count_by is_some (map held_in (replicate {A = Option (Slot X)} n None)) ≡ 0
      none_held zero = refl
      none_held (suc n) = none_held n

  -- and contracts see no value in it
  pub new_held : (n : ℕ) → map held_in (replicate {A = Option (Slot X)} n None) ≡ replicate n None
  new_held zero = refl
  new_held (suc n) = ap (λ rest. None ∷ rest) (new_held n)

  -- a place that was never written holds nothing
  pub held_past : (row : List (Option (Slot X))) (used len : ℕ) (first : Option ℕ) (counter : ℕ)
      → IsSound row used len first counter
      → (place : ℕ) → used ≤ place → get_or (map held_in row) place None ≡ None
  held_past row used len first counter sound place above =
      held_at-map row place ∙ ap held_in (sound.unwritten place above)

  pub len_within : (row : List (Option (Slot X))) (used len : ℕ) (first : Option ℕ) (counter : ℕ)
      → IsSound row used len first counter → len ≤ length row
  len_within row used len first counter sound = omega (arith, sound.total, sound.within)

  abbrev pub seen : List (Option (Slot X)) → ℕ → Arena X
  seen row counter = record { held = map held_in row; counter = counter }

  abbrev pub with_slot : List (Option (Slot X)) → ℕ → ℕ → Option (Slot X) → Arena X
  with_slot row counter place slot = record { held = set (map held_in row) place (held_in slot); counter = counter }

  -- what contracts see of a row after a write of one place
  pub view-set : (row : List (Option (Slot X))) (place counter : ℕ) (slot : Option (Slot X))
      (new : List (Option (Slot X))) → new ≡ set row place slot
      → seen new counter ≡ with_slot row counter place slot
  view-set row place counter slot new written =
      λ j. record { held = (ap (map held_in) written ∙ map-set held_in row place slot) j; counter = counter }

  -- what contracts see of a value that was put
  pub record IsPut (old new : Arena X) (place : ℕ) (value : X) : Type 0 where
    pub vacant : IsVacant old place
    pub adds : new ≡ with_put old place value
    pub found : find new (record { place = place; stamp = old.counter }) ≡ Some value
    pub others : SameOthers old new (record { place = place; stamp = old.counter })
    pub kept : (other : Id) → other.stamp < old.counter → find new other ≡ find old other
    pub len : len_of new ≡ len_of old + 1

  is_put : (old new : Arena X) (place : ℕ) (value : X) → IsVacant old place → new ≡ with_put old place value
      → IsPut old new place value
  is_put old new place value empty adds = record {
    vacant = empty;
    adds = adds;
    found = ap (λ a. find a (record { place = place; stamp = old.counter })) adds ∙ put_found old place value empty;
    others = λ other differs. ap (λ a. find a other) adds ∙ put_others old place value empty other differs;
    kept = λ other below. ap (λ a. find a other) adds ∙ put_kept old place value empty other below;
    len = ap len_of adds ∙ put_len old place value empty;
  }

  pub put_seen : (old row new : List (Option (Slot X))) (used len : ℕ) (first : Option ℕ) (counter used' : ℕ)
      (first' : Option ℕ) (place : ℕ) (value : X)
      → IsSound old used len first counter → len < length old → Claims old used first row used' first' place
      → new ≡ set row place (Some (Held counter value))
      → IsPut (seen old counter) (seen new (counter + 1)) place value
  put_seen old row new used len first counter used' first' place value sound room claims written =
      let facts = claimed_vacant old row used len first counter used' first' place sound room claims in
      is_put (seen old counter) (seen new (counter + 1)) place value
      (record { within = omega (arith, facts.0, length-map old held_in); nothing = held_at-map old place ∙ facts.1 })
      (view-set old place (counter + 1) (Some (Held counter value)) new (written ∙ facts.4 (Some (Held counter value))))

  -- what contracts see of a value that was taken
  pub record IsTaken (old new : Arena X) (id : Id) : Type 0 where
    pub removes : new ≡ without old id.place
    pub gone : find new id ≡ None
    pub others : SameOthers old new id
    pub len : len_of new + 1 ≡ len_of old
    pub never_again : (steps : List (Step X)) → find (after new steps) id ≡ None

  is_taken : (old new : Arena X) (id : Id) → IsBoundedMap old → IsSome (find old id) → new ≡ without old id.place
      → IsTaken old new id
  is_taken old new id bound there removes = record {
    removes = removes;
    gone = ap (λ a. find a id) removes ∙ take_gone old id there;
    others = λ other differs. ap (λ a. find a other) removes ∙ take_others old id there other differs;
    len = ap (λ a. len_of a + 1) removes ∙ take_len old id there;
    never_again =
        λ steps. ap (λ a. find (after a steps) id) removes
        ∙ never_again (without old id.place) id (bound.stamps id there) (take_gone old id there) steps;
  }

  pub take_seen : (old row new : List (Option (Slot X))) (used len : ℕ) (first : Option ℕ) (counter : ℕ) (id : Id)
      (next : Option ℕ)
      → IsSound old used len first counter → IsSome (find (seen old counter) id) → row ≡ set old id.place None
      → new ≡ set row id.place (Some (Free next))
      → IsTaken (seen old counter) (seen new counter) id
  take_seen old row new used len first counter id next sound there emptied written =
      is_taken (seen old counter) (seen new counter) id (sound_map old used len first counter sound) there
      (view-set old id.place counter (Some (Free next)) new
      (written ∙ ap (λ r. set r id.place (Some (Free next))) emptied ∙ set-set old id.place None (Some (Free next))))

  -- an id that finds a value is at a slot that holds it under its stamp
  pub found_slot : (row : List (Option (Slot X))) (counter place stamp : ℕ) (value : X)
      → value_under stamp (get_or (map held_in row) place None) ≡ Some value
      → slot_at row place ≡ Some (Held stamp value)
  found_slot row counter place stamp value found =
      held_slot (slot_at row place) (stamp, value)
      (sym (held_at-map row place) ∙ value_under-found stamp (get_or (map held_in row) place None) value found)

  -- what contracts see of a slot that is lent, with another value
  pub lent_seen : (row : List (Option (Slot X))) (counter : ℕ) (id : Id) (slot : Slot X) (old new : X)
      → slot ≡ Held id.stamp old
      → seen (set row id.place (Some (with_held slot new))) counter ≡ with_value (seen row counter) id new
  lent_seen row counter id slot old new held =
      ap (λ s. seen (set row id.place (Some (with_held s new))) counter) held
      ∙ view-set row id.place counter (Some (Held id.stamp new)) _ refl

  pub lent_sound : (row : List (Option (Slot X))) (used len : ℕ) (first : Option ℕ) (counter place stamp : ℕ)
      (slot : Slot X) (old new : X)
      → IsSound row used len first counter → slot ≡ Held stamp old → slot_at row place ≡ Some slot
      → IsSound (set row place (Some (with_held slot new))) used len first counter
  lent_sound row used len first counter place stamp slot old new sound held read =
      subst (λ s. IsSound (set row place (Some (with_held s new))) used len first counter) (sym held)
      (write_sound row used len first counter place stamp old new sound (read ∙ ap Some held))

  -- two slots that one place holds are one
  pub same_slot : (row : List (Option (Slot X))) (place : ℕ) (slot other : Slot X) → slot_at row place ≡ Some slot
      → slot_at row place ≡ Some other → slot ≡ other
  same_slot row place slot other read again = let both : Some slot ≡ Some other = sym read ∙ again in cc

  pub new_seen : (row : List (Option (Slot X))) (capacity counter : ℕ) → row ≡ replicate capacity None
      → seen row counter ≡ vacant capacity counter
  new_seen row capacity counter made =
      λ j. record { held = (ap (map held_in) made ∙ new_held capacity) j; counter = counter }

  -- the places below this one were read, and the others that were written were not yet
  pub record IsReadTo (row : List (Option (Slot X))) (used place : ℕ) : Type 0 where
    pub read : (other : ℕ) → other < place → slot_at row other ≡ None
    pub unread : (other : ℕ) → place ≤ other → other < used → IsSome (slot_at row other)
    pub past : (other : ℕ) → used ≤ other → slot_at row other ≡ None

  pub read_none : (row : List (Option (Slot X))) (used len : ℕ) (first : Option ℕ) (counter : ℕ)
      → IsSound row used len first counter → IsReadTo row used 0
  read_none row used len first counter sound =
      record {
        read = λ other below. absurd (omega arith);
        unread = λ other above below. sound.written other below;
        past = sound.unwritten;
      }

  pub read_more : (row new : List (Option (Slot X))) (used place : ℕ) (slot : Slot X) → IsReadTo row used place
      → place < used → slot_at row place ≡ Some slot → new ≡ set row place None
      → IsReadTo new used (place + 1)
  read_more row new used place slot so_far below found written = rw written (record {
    read = λ other less. elim (cases_eq other place) [
      | inl same ↦ ap (λ p. get_or (set row place None) p None) same
          ∙ get_or-set_same row place None None (some_within row place slot found)
      | inr apart ↦ get_or-set_other row place other None None apart ∙ so_far.read other (less_than other less apart)
    ];
    unread =
        λ other above inside. ap is_some (get_or-set_other row place other None None (λ same. absurd (omega arith)))
        ∙ so_far.unread other (omega arith) inside;
    past = λ other above. get_or-set_other row place other None None (λ same. absurd (omega arith))
        ∙ so_far.past other above;
  })
    where
      less_than : (other : ℕ) → other < place + 1 → other ≢ place → other < place
      less_than other less apart =
          elim (cases_lt other place) [ inl low ↦ low | inr high ↦ absurd (apart (omega arith)) ]

  pub read_all : (row : List (Option (Slot X))) → ((place : ℕ) → slot_at row place ≡ None)
      → row ≡ replicate (length row) None
  read_all [] none = refl
  read_all (slot ∷ row) none = λ j. none zero j ∷ read_all row (λ place. none (suc place)) j

  pub read_to_end : (row : List (Option (Slot X))) (used : ℕ) → IsReadTo row used used
      → row ≡ replicate (length row) None
  read_to_end row used so_far =
      read_all row (λ place.
      elim (cases_lt place used) [ inl below ↦ so_far.read place below | inr above ↦ so_far.past place above ])

-- what a loan copies is there where the loan is
pub copied_there : {Y : Type 0} (lent : Option (Bor Y)) → is_some lent ≡ true → IsSome (option_copied lent)
copied_there None there = cc
copied_there (Some loan) there = refl

pub not_there : {Y : Type 0} (o : Option Y) → o ≡ None → IsSome o → ⊥
not_there None none there = cc
not_there (Some y) none there = cc
