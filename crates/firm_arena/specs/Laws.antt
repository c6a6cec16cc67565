-- Laws for callers about the words in `Arena` and `Steps`.
use Rattle.std.specs.Prelude.{◌≡◌, ◌≢◌, ◌⊎◌, ℕ, zero, suc, ◌+◌, ◌^◌, ◌<◌, ◌≤◌, true, false, cond, List, [], ◌∷◌, length}
use Rattle.std.specs.Prelude.{Option, Some, None, is_some, IsSome, count_by, Contains, refl}
use Rattle.std.proofs.Common.{sym, ap, ◌∙◌, inl, inr, get_or, set, arith, add-zero, length-set}
use Rattle.std.proofs.lemmas.Bool.{cases_eq, cases_lt}
use Rattle.std.proofs.lemmas.Bool.Decides.{eqb_tells}
use Rattle.std.proofs.lemmas.List.{get_or-set_same, get_or-set_other, get_or_past}
use Rattle.std.proofs.lemmas.List.Sums.{sum_by-set, sum_by-cons, count_by-le-length}
use Rattle.firm_arena.specs.declared.Id.{Id}
use Rattle.firm_arena.specs.Arena.{Arena, capacity_of, len_of, held_at, value_under, find, entries_from, with_put}
use Rattle.firm_arena.specs.Arena.{without, with_value, IsVacant, IsBoundedMap, SameOthers}
use Rattle.firm_arena.specs.Steps.{Step, Put, Take, Write, after_step, after}

-- two ids are one where place and stamp are
pub same_id : (one other : Id) → one.place ≡ other.place → one.stamp ≡ other.stamp → one ≡ other
same_id one other place stamp = λ j. record { place = place j; stamp = stamp j }

-- what a list contains is its head, or in the rest
head_or_rest : {Y : Type 0} (head y : Y) (rest : List Y) → Contains (head ∷ rest) y → (head ≡ y) ⊎ Contains rest y
head_or_rest {Y} head y rest listed = by_index listed.0 listed.1 listed.2
  where
    by_index : (k : ℕ) → k < suc (length rest) → get_or (head ∷ rest) k y ≡ y → (head ≡ y) ⊎ Contains rest y
    by_index zero within same = inl same
    by_index (suc k) within same = inr (k, omega arith, same)

is_there : {Y : Type 0} (o : Option Y) → (is_some o ≡ true) ⊎ (is_some o ≡ false)
is_there None = inr refl
is_there (Some y) = inl refl

pub some_of : {Y : Type 0} (o : Option Y) → IsSome o → (y : Y) × (o ≡ Some y)
some_of None there = cc
some_of (Some y) there = (y, refl)

pub some_within : {Y : Type 0} (ys : List (Option Y)) (i : ℕ) (y : Y) → get_or ys i None ≡ Some y → i < length ys
some_within [] i y found = cc
some_within (o ∷ ys) zero y found = omega arith
some_within (o ∷ ys) (suc i) y found = omega (arith, some_within ys i y found)

module _ {X : Type 0} where
  -- a value under a stamp belongs to that stamp alone
  pub value_under-same : (stamp : ℕ) (value : X) → value_under stamp (Some (stamp, value)) ≡ Some value
  value_under-same stamp value =
      elim (eqb_tells stamp stamp) [ inl same ↦ rw same.0 | inr differs ↦ absurd (differs.1 refl) ]

  pub value_under-other : (stamp : ℕ) (own : ℕ × X) → own.0 ≢ stamp → value_under stamp (Some own) ≡ None
  value_under-other stamp own differs =
      elim (eqb_tells own.0 stamp) [ inl same ↦ absurd (differs same.1) | inr other ↦ rw other.0 ]

  pub value_under-found : (stamp : ℕ) (slot : Option (ℕ × X)) (value : X) → value_under stamp slot ≡ Some value
      → slot ≡ Some (stamp, value)
  value_under-found stamp None value found = cc
  value_under-found stamp (Some own) value found =
      elim (eqb_tells own.0 stamp) [
        | inl same ↦ (let e : own.1 ≡ value = let s : Some own.1 ≡ Some value =
            rw same.0 at found in cc in λ j. Some (same.1 j, e j))
        | inr other ↦ (let none : None ≡ Some value = rw other.0 at found in cc)
      ]

  -- what is at the place of an id that finds a value
  pub held_of_found : (a : Arena X) (id : Id) (value : X) → find a id ≡ Some value
      → held_at a id.place ≡ Some (id.stamp, value)
  held_of_found a id value found = value_under-found id.stamp (held_at a id.place) value found

  pub found_of_held : (a : Arena X) (place : ℕ) (own : ℕ × X) → held_at a place ≡ Some own
      → find a (record { place = place; stamp = own.0 }) ≡ Some own.1
  found_of_held a place own held = ap (value_under own.0) held ∙ value_under-same own.0 own.1

  pub found_within : (a : Arena X) (id : Id) → IsSome (find a id) → id.place < capacity_of a
  found_within a id there = let found =
      some_of (find a id) there in some_within a.held id.place (id.stamp, found.0) (held_of_found a id found.0 found.1)

  -- a write of one place, of which contracts see `slot`, changes what no other place holds
  pub find-elsewhere : (a : Arena X) (place counter : ℕ) (slot : Option (ℕ × X)) (id : Id) → id.place ≢ place
      → find (record { held = set a.held place slot; counter = counter }) id ≡ find a id
  find-elsewhere a place counter slot id apart =
      ap (value_under id.stamp) (get_or-set_other a.held place id.place slot None apart)

  pub find-there : (a : Arena X) (place counter : ℕ) (slot : Option (ℕ × X)) (id : Id) → id.place ≡ place
      → place < capacity_of a
      → find (record { held = set a.held place slot; counter = counter }) id ≡ value_under id.stamp slot
  find-there a place counter slot id same within =
      ap (λ p. value_under id.stamp (get_or (set a.held place slot) p None)) same
      ∙ ap (value_under id.stamp) (get_or-set_same a.held place slot None within)

  -- another id than the one at its place has no value
  pub find-other_stamp : (a : Arena X) (id other : Id) → IsSome (find a id) → other ≢ id → other.place ≡ id.place
      → find a other ≡ None
  find-other_stamp a id other there differs same =
      let found = some_of (find a id) there in
      ap (λ p. value_under other.stamp (held_at a p)) same
      ∙ ap (value_under other.stamp) (held_of_found a id found.0 found.1)
      ∙ value_under-other other.stamp (id.stamp, found.0) (λ e. differs (same_id other id same (sym e)))

  pub put_found : (a : Arena X) (place : ℕ) (value : X) → IsVacant a place
      → find (with_put a place value) (record { place = place; stamp = a.counter }) ≡ Some value
  put_found a place value empty =
      find-there a place (a.counter + 1) (Some (a.counter, value)) (record { place = place; stamp = a.counter }) refl
      empty.within ∙ value_under-same a.counter value

  pub put_others : (a : Arena X) (place : ℕ) (value : X) → IsVacant a place
      → SameOthers a (with_put a place value) (record { place = place; stamp = a.counter })
  put_others a place value empty = λ other differs.
      elim (cases_eq other.place place) [
        | inl same ↦ find-there a place (a.counter + 1) (Some (a.counter, value)) other same empty.within
            ∙ value_under-other other.stamp (a.counter, value)
            (λ e. differs (same_id other (record { place = place; stamp = a.counter }) same (sym e)))
            ∙ sym (ap (value_under other.stamp) (ap (held_at a) same ∙ empty.nothing))
        | inr apart ↦ find-elsewhere a place (a.counter + 1) (Some (a.counter, value)) other apart
      ]

  pub put_kept : (a : Arena X) (place : ℕ) (value : X) → IsVacant a place → (other : Id) → other.stamp < a.counter
      → find (with_put a place value) other ≡ find a other
  put_kept a place value empty other below =
      put_others a place value empty other
      (λ e. let same : other.stamp ≡ a.counter = ap (λ id. id.stamp) e in absurd (omega arith))

  -- how a write of one place changes the count
  pub count-set : (held : List (Option (ℕ × X))) (place : ℕ) (slot : Option (ℕ × X)) → place < length held
      → count_by is_some (set held place slot) + cond (is_some (get_or held place None)) 1 0
      ≡ count_by is_some held + cond (is_some slot) 1 0
  count-set held place slot within = sum_by-set (λ o. cond (is_some o) 1 0) held place slot None within

  pub put_len : (a : Arena X) (place : ℕ) (value : X) → IsVacant a place
      → len_of (with_put a place value) ≡ len_of a + 1
  put_len a place value empty =
      let counted = rw empty.nothing at (count-set a.held place (Some (a.counter, value)) empty.within) in omega arith

  pub take_gone : (a : Arena X) (id : Id) → IsSome (find a id) → find (without a id.place) id ≡ None
  take_gone a id there = find-there a id.place a.counter None id refl (found_within a id there)

  pub take_others : (a : Arena X) (id : Id) → IsSome (find a id) → SameOthers a (without a id.place) id
  take_others a id there = λ other differs.
      elim (cases_eq other.place id.place) [
        | inl same ↦ find-there a id.place a.counter None other same (found_within a id there)
            ∙ sym (find-other_stamp a id other there differs same)
        | inr apart ↦ find-elsewhere a id.place a.counter None other apart
      ]

  pub take_len : (a : Arena X) (id : Id) → IsSome (find a id) → len_of (without a id.place) + 1 ≡ len_of a
  take_len a id there =
      let found = some_of (find a id) there in
      let counted =
      rw (held_of_found a id found.0 found.1) at (count-set a.held id.place None (found_within a id there)) in
      omega arith

  pub write_found : (a : Arena X) (id : Id) (value : X) → IsSome (find a id)
      → find (with_value a id value) id ≡ Some value
  write_found a id value there =
      find-there a id.place a.counter (Some (id.stamp, value)) id refl (found_within a id there)
      ∙ value_under-same id.stamp value

  pub write_others : (a : Arena X) (id : Id) (value : X) → IsSome (find a id) → SameOthers a (with_value a id value) id
  write_others a id value there = λ other differs.
      elim (cases_eq other.place id.place) [
        | inl same ↦ find-there a id.place a.counter (Some (id.stamp, value)) other same (found_within a id there)
            ∙ value_under-other other.stamp (id.stamp, value) (λ e. differs (same_id other id same (sym e)))
            ∙ sym (find-other_stamp a id other there differs same)
        | inr apart ↦ find-elsewhere a id.place a.counter (Some (id.stamp, value)) other apart
      ]

  pub write_len : (a : Arena X) (id : Id) (value : X) → IsSome (find a id) → len_of (with_value a id value) ≡ len_of a
  write_len a id value there =
      let found = some_of (find a id) there in
      let counted =
      rw (held_of_found a id found.0 found.1)
      at (count-set a.held id.place (Some (id.stamp, value)) (found_within a id there)) in omega arith

  -- an id that finds nothing, and whose stamp was given out, finds nothing after any step
  step_finds_nothing : (a : Arena X) (step : Step X) (id : Id) → id.stamp < a.counter → find a id ≡ None
      → (id.stamp < (after_step a step).counter) × (find (after_step a step) id ≡ None)
  step_finds_nothing a (Put place value) id below gone =
      (omega arith, here (cases_eq id.place place) (cases_lt place (capacity_of a)))
    where
      here : (id.place ≡ place) ⊎ (id.place ≢ place) → (place < capacity_of a) ⊎ (capacity_of a ≤ place)
          → find (with_put a place value) id ≡ None
      here (inl same) (inl within) =
          find-there a place (a.counter + 1) (Some (a.counter, value)) id same within
          ∙ value_under-other id.stamp (a.counter, value) (λ e. absurd (omega arith))
      here (inl same) (inr past) =
          ap (value_under id.stamp)
          (get_or_past (set a.held place (Some (a.counter, value))) id.place None
          (omega (arith, length-set a.held place (Some (a.counter, value)))))
      here (inr apart) p = find-elsewhere a place (a.counter + 1) (Some (a.counter, value)) id apart ∙ gone
  step_finds_nothing a (Take other) id below gone = elim (is_there (find a other)) [
    | inl there ↦ rw there (
      below,
      elim (cases_eq id.place other.place) [
        | inl same ↦ find-there a other.place a.counter None id same (found_within a other there)
        | inr apart ↦ find-elsewhere a other.place a.counter None id apart ∙ gone
      ],
    )
    | inr none ↦ rw none (below, gone)
  ]
  step_finds_nothing a (Write other value) id below gone = elim (is_there (find a other)) [
    | inl there ↦ rw there (
      below,
      write_others a other value there id (λ e. let none : find a other ≡ None = ap (find a) (sym e) ∙ gone in cc)
          ∙ gone,
    )
    | inr none ↦ rw none (below, gone)
  ]

  -- nor after any list of steps: a taken id never finds a value again
  pub never_again : (a : Arena X) (id : Id) → id.stamp < a.counter → find a id ≡ None → (steps : List (Step X))
      → find (after a steps) id ≡ None
  never_again a id below gone [] = gone
  never_again a id below gone (step ∷ steps) =
      let next = step_finds_nothing a step id below gone in never_again (after_step a step) id next.0 next.1 steps

  -- each held stamp is below the counter
  abbrev pub StampsBelow : Arena X → Type 0
  StampsBelow a = (place : ℕ) (own : ℕ × X) → held_at a place ≡ Some own → own.0 < a.counter

  pub length-entries_from : (place : ℕ) (held : List (Option (ℕ × X)))
      → length (entries_from place held) ≡ count_by is_some held
  length-entries_from place [] = refl
  length-entries_from place (None ∷ rest) =
      omega (arith, length-entries_from (place + 1) rest, sum_by-cons (λ o. cond (is_some o) 1 0) None rest)
  length-entries_from place (Some own ∷ rest) =
      omega (arith, length-entries_from (place + 1) rest, sum_by-cons (λ o. cond (is_some o) 1 0) (Some own) rest)

  -- an entry lies at its place, which is counted from the first
  pub entry_held : (first : ℕ) (held : List (Option (ℕ × X))) (id : Id) (value : X)
      → Contains (entries_from first held) (id, value)
      → (i : ℕ) × (id.place ≡ first + i) × (get_or held i None ≡ Some (id.stamp, value))
  entry_held first [] id value listed = absurd (omega (arith, listed.1))
  entry_held first (None ∷ rest) id value listed =
      let found = entry_held (first + 1) rest id value listed in (suc found.0, omega (arith, found.1), found.2)
  entry_held first (Some own ∷ rest) id value listed =
      let later = entry_held (first + 1) rest id value in
      elim (head_or_rest (record { place = first; stamp = own.0 }, own.1) (id, value) (entries_from (first + 1) rest)
      listed) [
        | inl same ↦ (
          zero,
          sym (ap (λ (entry : Id × X). entry.0.place) same)
              ∙ sym (add-zero first),
          λ j. Some ((same j).0.stamp, (same j).1),
        )
        | inr tail ↦ (let found = later tail in (suc found.0, omega (arith, found.1), found.2))
      ]

  -- what is held is an entry
  pub held_entry : (first : ℕ) (held : List (Option (ℕ × X))) (i place stamp : ℕ) (value : X) → place ≡ first + i
      → get_or held i None ≡ Some (stamp, value)
      → Contains (entries_from first held) (record { place = place; stamp = stamp }, value)
  held_entry first [] i place stamp value at read = cc
  held_entry first (None ∷ rest) zero place stamp value at read = cc
  held_entry first (None ∷ rest) (suc i) place stamp value at read =
      held_entry (first + 1) rest i place stamp value (omega arith) read
  held_entry first (Some own ∷ rest) zero place stamp value at read =
      let same : own ≡ (stamp, value) = cc in
      let here : first ≡ place = omega arith in
      (zero, omega arith, λ j. (record { place = here j; stamp = (same j).0 }, (same j).1))
  held_entry first (Some own ∷ rest) (suc i) place stamp value at read =
      let later =
      held_entry (first + 1) rest i place stamp value (omega arith) read in
      (suc later.0, omega (arith, later.1), later.2)

  stamp_in : (stamp : ℕ) (value : X) (own : ℕ × X) → Some (stamp, value) ≡ Some own → stamp ≡ own.0
  stamp_in stamp value own read = let same : (stamp, value) ≡ own = cc in ap (λ (pair : ℕ × X). pair.0) same

  pub bounded : (a : Arena X) → StampsBelow a → a.counter < 2 ^ 64 → capacity_of a < 2 ^ 32 → IsBoundedMap a
  bounded a below counter capacity = record {
    listed = λ id value. (
      (λ entry. let found = entry_held 0 a.held id value entry in
          let place : found.0 ≡ id.place = omega (arith, found.1) in
          ap (value_under id.stamp) (ap (held_at a) (sym place) ∙ found.2) ∙ value_under-same id.stamp value),
      λ found. held_entry 0 a.held id.place id.place id.stamp value (omega arith) (held_of_found a id value found),
    );
    count = length-entries_from 0 a.held;
    fits = count_by-le-length is_some a.held;
    places = found_within a;
    apart = λ one other there others same.
        let found = some_of (find a one) there in let second = some_of (find a other) others in
        let read : Some (one.stamp, found.0) ≡ Some (other.stamp, second.0) =
        sym (held_of_found a one found.0 found.1) ∙ ap (held_at a) same ∙ held_of_found a other second.0 second.1 in
        same_id one other same (stamp_in one.stamp found.0 (other.stamp, second.0) read);
    stamps = λ id there. let found =
        some_of (find a id) there in below id.place (id.stamp, found.0) (held_of_found a id found.0 found.1);
    counter = counter;
    capacity = capacity;
  }

  pub bounded-stamps : (a : Arena X) → IsBoundedMap a → StampsBelow a
  bounded-stamps a map place own held =
      map.stamps (record { place = place; stamp = own.0 }) (ap is_some (found_of_held a place own held))

  -- a write under an id keeps the map bounded
  pub write_map : (a : Arena X) (id : Id) (value : X) → IsBoundedMap a → IsSome (find a id)
      → IsBoundedMap (with_value a id value)
  write_map a id value map there =
      bounded (with_value a id value) below map.counter
      (omega (arith, map.capacity, length-set a.held id.place (Some (id.stamp, value))))
    where
      below : StampsBelow (with_value a id value)
      below place own held = elim (cases_eq place id.place) [
        | inl same ↦ (let read : Some (id.stamp, value) ≡ Some own =
            sym (ap (λ p. get_or (set a.held id.place (Some (id.stamp, value))) p None) same
            ∙ get_or-set_same a.held id.place (Some (id.stamp, value)) None (found_within a id there))
            ∙ held in
            let stamp : id.stamp ≡ own.0 = stamp_in id.stamp value own read in omega (arith, map.stamps id there))
        | inr apart ↦ bounded-stamps a map place own (sym
            (get_or-set_other a.held id.place place (Some (id.stamp, value)) None apart) ∙ held)
      ]
