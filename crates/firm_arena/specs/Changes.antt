-- Laws for callers about a changed arena: the value of an id, the content of a place, and the number of values.
use Rattle.std.proofs.Common.{◌≡◌, ◌≢◌, ℕ, ◌+◌, ◌^◌, ◌<◌, ◌≤◌, ◌==◌, ◌⊎◌, inl, inr, Bool, true, false, cond, List, []}
use Rattle.std.proofs.Common.{◌∷◌, map, length, get_or, set, Option, Some, None, option_map, is_some, IsSome, count_by}
use Rattle.std.proofs.Common.{replicate, refl, sym, ap, ap₂, ◌∙◌, subst, arith, length-set, eq-eqb, ne_eqb}
use Rattle.std.proofs.lemmas.List.{get_or-set_same, get_or-set_other, get_or_default, get_or_past, set-get_or}
use Rattle.std.proofs.lemmas.List.{get_or-map, same_lists, map-set, length-map, set_past, get_or-replicate}
use Rattle.std.proofs.lemmas.List.{length-replicate}
use Rattle.std.proofs.lemmas.Bool.{cases_eq, cases_lt, true≢false, cond-true, cond-false}
use Rattle.std.proofs.lemmas.Option.{none-some, some_pair_parts}
use Rattle.std.proofs.lemmas.List.Sums.{sum_by-set, sum_by-cons}
use Rattle.firm_arena.specs.Arena.{Arena, find, held_at, value_under, capacity_of, len_of, vacant, IsBoundedMap}
use Rattle.firm_arena.specs.Arena.{with_put, without, with_value, changed_at, changed_all, slot_changed}
use Rattle.firm_arena.specs.Laws.{bounded, found_of_held}
use Rattle.firm_arena.specs.declared.Id.{Id}

abbrev ones : Bool → ℕ
ones b = cond b 1 0

module _ {X : Type 0} where
  -- a slot written within the arena, or nothing written past it
  at-set_same : (held : List (Option (ℕ × X))) (p : ℕ) (slot : Option (ℕ × X)) → (p < length held) ⊎ (slot ≡ None)
      → get_or (set held p slot) p None ≡ slot
  at-set_same held p slot (inl below) = get_or-set_same held p slot None below
  at-set_same held p slot (inr nothing) =
      elim (cases_lt p (length held)) [
        | inl below ↦ get_or-set_same held p slot None below
        | inr past ↦
            let bound : length (set held p slot) ≤ p = omega (arith, length-set held p slot) in
            get_or_past (set held p slot) p None bound ∙ sym nothing
      ]

  at-set : (held : List (Option (ℕ × X))) (p q : ℕ) (slot : Option (ℕ × X)) → (p < length held) ⊎ (slot ≡ None)
      → get_or (set held p slot) q None ≡ cond (q == p) slot (get_or held q None)
  at-set held p q slot within =
      elim (cases_eq q p) [
        | inl same ↦
            ap (λ (k : ℕ). get_or (set held p slot) k None) same ∙ at-set_same held p slot within
            ∙ sym (cond-true (q == p) slot (get_or held q None) (eq-eqb q p same))
        | inr other ↦
            get_or-set_other held p q slot None other
            ∙ sym (cond-false (q == p) slot (get_or held q None) (ne_eqb q p other))
      ]

  -- a place past the last one holds nothing, changed or not
  slot_changed-past : {Y : Type 0} (a : Arena X) (p : ℕ) (f : X → Y)
      → (p < capacity_of a) ⊎ (slot_changed f (held_at a p) ≡ None)
  slot_changed-past a p f =
      elim (cases_lt p (capacity_of a)) [
        | inl below ↦ inl below
        | inr past ↦ inr (ap (slot_changed f) (get_or_past a.held p None past))
      ]

  pub held_at-changed_at : (a : Arena X) (p q : ℕ) (f : X → X)
      → held_at (changed_at a p f) q ≡ cond (q == p) (slot_changed f (held_at a q)) (held_at a q)
  held_at-changed_at a p q f =
      at-set a.held p q (slot_changed f (held_at a p)) (slot_changed-past a p f)
      ∙ elim (cases_eq q p) [
        | inl same ↦
            ap (λ (k : ℕ). cond (q == p) (slot_changed f (held_at a k)) (held_at a q)) (sym same)
        | inr other ↦
            cond-false (q == p) (slot_changed f (held_at a p)) (held_at a q) (ne_eqb q p other)
            ∙ sym (cond-false (q == p) (slot_changed f (held_at a q)) (held_at a q) (ne_eqb q p other))
      ]

  pub held_at-with_put : (a : Arena X) (p q : ℕ) (v : X) → p < capacity_of a
      → held_at (with_put a p v) q ≡ cond (q == p) (Some (a.counter, v)) (held_at a q)
  held_at-with_put a p q v below = at-set a.held p q (Some (a.counter, v)) (inl below)

  pub held_at-without : (a : Arena X) (p q : ℕ) → held_at (without a p) q ≡ cond (q == p) None (held_at a q)
  held_at-without a p q = at-set a.held p q None (inr refl)

  pub held_at-changed_all : {Y : Type 0} (a : Arena X) (p : ℕ) (f : X → Y)
      → held_at (changed_all a f) p ≡ slot_changed f (held_at a p)
  held_at-changed_all a p f =
      elim (cases_lt p (capacity_of a)) [
        | inl below ↦ get_or-map (slot_changed f) a.held p None None below
        | inr past ↦
            let bound : length (map (slot_changed f) a.held) ≤ p =
            omega (arith, length-map a.held (slot_changed f), past) in
            get_or_past (map (slot_changed f) a.held) p None bound
            ∙ sym (ap (slot_changed f) (get_or_past a.held p None past))
      ]

  -- a value found lies at its place under its stamp
  pub value-held : (stamp : ℕ) (slot : Option (ℕ × X)) (v : X) → value_under stamp slot ≡ Some v
      → slot ≡ Some (stamp, v)
  value-held stamp None v found = cc
  value-held stamp (Some own) v found =
      elim (cases_eq own.0 stamp) [
        | inl same ↦
            let e : Some own.1 ≡ Some v =
            sym (cond-true (own.0 == stamp) (Some own.1) None (eq-eqb own.0 stamp same)) ∙ found in
            let w : own.1 ≡ v = cc in
            ap₂ (λ (t : ℕ) (x : X). Some (t, x)) same w
        | inr other ↦
            let e : ◌≡◌ {A = Option X} None (Some v) =
            sym (cond-false (own.0 == stamp) (Some own.1) None (ne_eqb own.0 stamp other)) ∙ found in
            absurd (none-some v e)
      ]

  pub find-held : (a : Arena X) (id : Id) (v : X) → find a id ≡ Some v → held_at a id.place ≡ Some (id.stamp, v)
  find-held a id v found = value-held id.stamp (held_at a id.place) v found

  -- the value at a place under a stamp is that of the id
  pub held-find : (a : Arena X) (id : Id) (v : X) → held_at a id.place ≡ Some (id.stamp, v) → find a id ≡ Some v
  held-find a id v held =
      ap (value_under id.stamp) held ∙ cond-true (id.stamp == id.stamp) (Some v) None (eq-eqb id.stamp id.stamp refl)

  pub value_under-changed : {Y : Type 0} (stamp : ℕ) (slot : Option (ℕ × X)) (f : X → Y)
      → value_under stamp (slot_changed f slot) ≡ option_map f (value_under stamp slot)
  value_under-changed stamp None f = refl
  value_under-changed stamp (Some own) f =
      elim (own.0 == stamp) as (λ b. cond b (Some (f own.1)) None ≡ option_map f (cond b (Some own.1) None)) [
        | true ↦ refl
        | false ↦ refl
      ]

  -- what an id finds after the value at a place was changed
  pub find-changed_at : (a : Arena X) (p : ℕ) (f : X → X) (id : Id)
      → find (changed_at a p f) id ≡ cond (id.place == p) (option_map f (find a id)) (find a id)
  find-changed_at a p f id =
      ap (value_under id.stamp) (held_at-changed_at a p id.place f)
      ∙ elim (id.place == p) as (λ b.
      value_under id.stamp (cond b (slot_changed f (held_at a id.place)) (held_at a id.place))
      ≡ cond b (option_map f (find a id)) (find a id)) [
        | true ↦ value_under-changed id.stamp (held_at a id.place) f
        | false ↦ refl
      ]

  pub find-changed_all : {Y : Type 0} (a : Arena X) (f : X → Y) (id : Id)
      → find (changed_all a f) id ≡ option_map f (find a id)
  find-changed_all a f id =
      ap (value_under id.stamp) (held_at-changed_all a id.place f)
      ∙ value_under-changed id.stamp (held_at a id.place) f

  pub find-without : (a : Arena X) (p : ℕ) (id : Id)
      → find (without a p) id ≡ cond (id.place == p) None (find a id)
  find-without a p id =
      ap (value_under id.stamp) (held_at-without a p id.place)
      ∙ elim (id.place == p) as (λ b.
      value_under id.stamp (cond b None (held_at a id.place)) ≡ cond b None (find a id)) [
        | true ↦ refl
        | false ↦ refl
      ]

  -- a vacant place stays vacant where its value is changed
  pub changed_at-nothing : (a : Arena X) (p : ℕ) (f : X → X) → held_at a p ≡ None → changed_at a p f ≡ a
  changed_at-nothing a p f nothing =
      let e : slot_changed f (held_at a p) ≡ get_or a.held p None = ap (slot_changed f) nothing ∙ sym nothing in
      ap (λ (h : List (Option (ℕ × X))). let made : Arena X = record { held = h; counter = a.counter } in made)
      (ap (λ slot. set a.held p slot) e ∙ set-get_or a.held p None)

  -- a write under an id changes the value at its place
  pub changed_at-with_value : (a : Arena X) (id : Id) (v : X) (f : X → X) → find a id ≡ Some v
      → with_value a id (f v) ≡ changed_at a id.place f
  changed_at-with_value a id v f found =
      ap (λ slot. let made : Arena X = record { held = set a.held id.place slot; counter = a.counter } in made)
      (sym (ap (slot_changed f) (find-held a id v found)))

  -- two arenas with as many places, one counter and the same at each place are equal
  pub same_arenas : (a b : Arena X) → length a.held ≡ length b.held → a.counter ≡ b.counter
      → ((p : ℕ) → held_at a p ≡ held_at b p) → a ≡ b
  same_arenas a b places counters at =
      let e : a.held ≡ b.held =
      same_lists a.held b.held places (λ k d below.
      get_or_default a.held k d None below ∙ at k
      ∙ get_or_default b.held k None d (subst (λ (n : ℕ). k < n) places below)) in
      ap₂ (λ (h : List (Option (ℕ × X))) (c : ℕ). let made : Arena X = record { held = h; counter = c } in made) e
      counters

  slot_changed-same : {Y : Type 0} (slot : Option (ℕ × X)) (g : X → X) (f : X → Y)
      → ((x : X) → f (g x) ≡ f x) → slot_changed f (slot_changed g slot) ≡ slot_changed f slot
  slot_changed-same None g f e = refl
  slot_changed-same {Y} (Some own) g f e =
      ap (λ (y : Y). let made : Option (ℕ × Y) = Some (own.0, y) in made) (e own.1)

  map-slot_changed : {Y Z : Type 0} (held : List (Option (ℕ × X))) (g : X → Y) (f : Y → Z)
      → map (slot_changed f) (map (slot_changed g) held) ≡ map (slot_changed (λ x. f (g x))) held
  map-slot_changed [] g f = refl
  map-slot_changed (None ∷ rest) g f = ap (λ l. None ∷ l) (map-slot_changed rest g f)
  map-slot_changed (Some own ∷ rest) g f = ap (λ l. Some (own.0, f (g own.1)) ∷ l) (map-slot_changed rest g f)

  count-map : {Y : Type 0} (held : List (Option (ℕ × X))) (f : X → Y)
      → count_by is_some (map (slot_changed f) held) ≡ count_by is_some held
  count-map [] f = refl
  count-map (None ∷ rest) f = count-map rest f
  count-map (Some own ∷ rest) f =
      sum_by-cons (λ x. ones (is_some x)) (Some (own.0, f own.1)) (map (slot_changed f) rest)
      ∙ ap (λ (n : ℕ). 1 + n) (count-map rest f)
      ∙ sym (sum_by-cons (λ x. ones (is_some x)) (Some own) rest)

  is_some-changed : {Y : Type 0} (slot : Option (ℕ × X)) (f : X → Y) → is_some (slot_changed f slot) ≡ is_some slot
  is_some-changed None f = refl
  is_some-changed (Some own) f = refl

  count-set_same : (held : List (Option (ℕ × X))) (p : ℕ) (slot : Option (ℕ × X))
      → is_some slot ≡ is_some (get_or held p None)
      → count_by is_some (set held p slot) ≡ count_by is_some held
  count-set_same held p slot e =
      elim (cases_lt p (length held)) [
        | inl below ↦
            let same : ones (is_some slot) ≡ ones (is_some (get_or held p None)) = ap ones e in
            omega (arith, sum_by-set (λ x. ones (is_some x)) held p slot None below, same)
        | inr past ↦ ap (λ l. count_by is_some l) (set_past held p slot past)
      ]

  count-set_none : (held : List (Option (ℕ × X))) (p : ℕ) (own : ℕ × X) → get_or held p None ≡ Some own
      → count_by is_some (set held p None) + 1 ≡ count_by is_some held
  count-set_none held p own e =
      elim (cases_lt p (length held)) [
        | inl below ↦
            let one : ones (is_some (get_or held p None)) ≡ ones true =
            ap (λ (slot : Option (ℕ × X)). ones (is_some slot)) e in
            omega (arith, sum_by-set (λ x. ones (is_some x)) held p None None below, one)
        | inr past ↦ absurd (none-some own (sym (get_or_past held p None past) ∙ e))
      ]

  -- what an id finds after a value was put at a vacant place
  pub find-with_put : (a : Arena X) (p : ℕ) (v : X) (id : Id) → p < capacity_of a
      → find (with_put a p v) id ≡ cond (id.place == p) (cond (a.counter == id.stamp) (Some v) None) (find a id)
  find-with_put a p v id below =
      ap (value_under id.stamp) (held_at-with_put a p id.place v below)
      ∙ elim (id.place == p) as (λ b.
      value_under id.stamp (cond b (Some (a.counter, v)) (held_at a id.place))
      ≡ cond b (cond (a.counter == id.stamp) (Some v) None) (find a id)) [
        | true ↦ refl
        | false ↦ refl
      ]

  -- a vacant place has no value
  pub find-nothing : (a : Arena X) (id : Id) → held_at a id.place ≡ None → find a id ≡ None
  find-nothing a id nothing = ap (value_under id.stamp) nothing

  -- the id of what is held at a place finds it
  pub find-held_own : (a : Arena X) (p : ℕ) (own : ℕ × X) → held_at a p ≡ Some own
      → find a (record { place = p; stamp = own.0 }) ≡ Some own.1
  find-held_own a p own held =
      ap (value_under own.0) held ∙ cond-true (own.0 == own.0) (Some own.1) None (eq-eqb own.0 own.0 refl)

  -- two values found at one place are one value, and their ids are one
  pub same_place : (a : Arena X) (one other : Id) (v w : X) → find a one ≡ Some v → find a other ≡ Some w
      → one.place ≡ other.place → (one ≡ other) × (v ≡ w)
  same_place a one other v w found_one found_other places =
      let e : Some (one.stamp, v) ≡ Some (other.stamp, w) =
      sym (find-held a one v found_one) ∙ ap (λ (p : ℕ). held_at a p) places ∙ find-held a other w found_other in
      let parts : (one.stamp ≡ other.stamp) × (v ≡ w) = some_pair_parts one.stamp other.stamp v w e in
      (ap₂ (λ (p : ℕ) (t : ℕ). let id : Id = record { place = p; stamp = t } in id) places parts.0, parts.1)

  -- the changes of a shown arena follow those of the arena below it
  pub changed_all-with_put : {Y : Type 0} (a : Arena X) (p : ℕ) (v : X) (f : X → Y)
      → changed_all (with_put a p v) f ≡ with_put (changed_all a f) p (f v)
  changed_all-with_put {Y} a p v f =
      ap (λ (h : List (Option (ℕ × Y))). let made : Arena Y = record { held = h; counter = a.counter + 1 } in made)
      (map-set (slot_changed f) a.held p (Some (a.counter, v)))

  pub changed_all-without : {Y : Type 0} (a : Arena X) (p : ℕ) (f : X → Y)
      → changed_all (without a p) f ≡ without (changed_all a f) p
  changed_all-without {Y} a p f =
      ap (λ (h : List (Option (ℕ × Y))). let made : Arena Y = record { held = h; counter = a.counter } in made)
      (map-set (slot_changed f) a.held p None)

  slot_changed-through : {Y : Type 0} (slot : Option (ℕ × X)) (g : X → X) (f : X → Y) (h : Y → Y)
      → ((x : X) → f (g x) ≡ h (f x)) → slot_changed f (slot_changed g slot) ≡ slot_changed h (slot_changed f slot)
  slot_changed-through None g f h e = refl
  slot_changed-through {Y} (Some own) g f h e =
      ap (λ (y : Y). let made : Option (ℕ × Y) = Some (own.0, y) in made) (e own.1)

  pub changed_all-changed_at : {Y : Type 0} (a : Arena X) (p : ℕ) (g : X → X) (f : X → Y) (h : Y → Y)
      → ((x : X) → f (g x) ≡ h (f x)) → changed_all (changed_at a p g) f ≡ changed_at (changed_all a f) p h
  changed_all-changed_at {Y} a p g f h e =
      ap (λ (l : List (Option (ℕ × Y))). let made : Arena Y = record { held = l; counter = a.counter } in made)
      (map-set (slot_changed f) a.held p (slot_changed g (held_at a p))
      ∙ ap (λ slot. set (map (slot_changed f) a.held) p slot)
      (slot_changed-through (held_at a p) g f h e ∙ ap (slot_changed h) (sym (held_at-changed_all a p f))))

  -- a change that f cannot tell leaves what is shown by f
  pub changed_all-same : {Y : Type 0} (a : Arena X) (p : ℕ) (g : X → X) (f : X → Y)
      → ((x : X) → f (g x) ≡ f x) → changed_all (changed_at a p g) f ≡ changed_all a f
  changed_all-same {Y} a p g f e =
      ap (λ (l : List (Option (ℕ × Y))). let made : Arena Y = record { held = l; counter = a.counter } in made)
      (map-set (slot_changed f) a.held p (slot_changed g (held_at a p))
      ∙ ap (λ slot. set (map (slot_changed f) a.held) p slot)
      (slot_changed-same (held_at a p) g f e ∙ sym (held_at-changed_all a p f))
      ∙ set-get_or (map (slot_changed f) a.held) p None)

  pub changed_all-changed_all : {Y Z : Type 0} (a : Arena X) (g : X → Y) (f : Y → Z)
      → changed_all (changed_all a g) f ≡ changed_all a (λ x. f (g x))
  changed_all-changed_all {Y} {Z} a g f =
      ap (λ (l : List (Option (ℕ × Z))). let made : Arena Z = record { held = l; counter = a.counter } in made)
      (map-slot_changed a.held g f)

  -- as many values are held as before
  pub len_of-changed_all : {Y : Type 0} (a : Arena X) (f : X → Y) → len_of (changed_all a f) ≡ len_of a
  len_of-changed_all a f = count-map a.held f

  pub capacity_of-changed_all : {Y : Type 0} (a : Arena X) (f : X → Y) → capacity_of (changed_all a f) ≡ capacity_of a
  capacity_of-changed_all a f = length-map a.held (slot_changed f)

  pub capacity_of-changed_at : (a : Arena X) (p : ℕ) (f : X → X) → capacity_of (changed_at a p f) ≡ capacity_of a
  capacity_of-changed_at a p f = length-set a.held p (slot_changed f (held_at a p))

  pub len_of-changed_at : (a : Arena X) (p : ℕ) (f : X → X) → len_of (changed_at a p f) ≡ len_of a
  len_of-changed_at a p f = count-set_same a.held p (slot_changed f (held_at a p)) (is_some-changed (held_at a p) f)

  -- one value fewer is held once a place that held one is emptied
  pub len_of-without : (a : Arena X) (id : Id) (v : X) → find a id ≡ Some v → len_of (without a id.place) + 1 ≡ len_of a
  len_of-without a id v found = count-set_none a.held id.place (id.stamp, v) (find-held a id v found)

  pub some-is : (o : Option X) (v : X) → o ≡ Some v → IsSome o
  some-is o v e = ap (λ (x : Option X). is_some x) e

  pub is-some : (o : Option X) → IsSome o → (v : X) × (o ≡ Some v)
  is-some None h = absurd (true≢false (sym h))
  is-some (Some v) h = (v, refl)

  pub not-some : (o : Option X) → o ≡ None → IsSome o → ⊥
  not-some o e h = true≢false (sym h ∙ ap (λ (x : Option X). is_some x) e)

  beside : (a : Arena X) (id other : Id) (v : X) → find a id ≡ Some v → other ≢ id → other.place ≡ id.place
      → (o : Option X) → find a other ≡ o → o ≡ None
  beside a id other v found differs places None e = refl
  beside a id other v found differs places (Some w) e = absurd (differs (same_place a other id w v e found places).0)

  -- another id at the place of one that is there finds nothing
  pub find-beside : (a : Arena X) (id other : Id) (v : X) → find a id ≡ Some v → other ≢ id → other.place ≡ id.place
      → find a other ≡ None
  find-beside a id other v found differs places = beside a id other v found differs places (find a other) refl

  -- the value of an id changes, and what every other id finds stays
  pub find-changed_own : (a : Arena X) (id : Id) (v : X) (f : X → X) → find a id ≡ Some v
      → find (changed_at a id.place f) id ≡ Some (f v)
  find-changed_own a id v f found =
      find-changed_at a id.place f id
      ∙ cond-true (id.place == id.place) (option_map f (find a id)) (find a id) (eq-eqb id.place id.place refl)
      ∙ ap (λ (x : Option X). option_map f x) found

  pub find-changed_other : (a : Arena X) (id other : Id) (v : X) (f : X → X) → find a id ≡ Some v → other ≢ id
      → find (changed_at a id.place f) other ≡ find a other
  find-changed_other a id other v f found differs =
      find-changed_at a id.place f other
      ∙ elim (cases_eq other.place id.place) [
        | inl places ↦
            let nothing : find a other ≡ None = find-beside a id other v found differs places in
            cond-true (other.place == id.place) (option_map f (find a other)) (find a other)
            (eq-eqb other.place id.place places)
            ∙ ap (λ (x : Option X). option_map f x) nothing ∙ sym nothing
        | inr elsewhere ↦
            cond-false (other.place == id.place) (option_map f (find a other)) (find a other)
            (ne_eqb other.place id.place elsewhere)
      ]

  -- a value taken has no id any more, and every other id keeps its value
  pub find-without_own : (a : Arena X) (id : Id) → find (without a id.place) id ≡ None
  find-without_own a id =
      find-without a id.place id ∙ cond-true (id.place == id.place) None (find a id) (eq-eqb id.place id.place refl)

  pub find-without_other : (a : Arena X) (id other : Id) (v : X) → find a id ≡ Some v → other ≢ id
      → find (without a id.place) other ≡ find a other
  find-without_other a id other v found differs =
      find-without a id.place other
      ∙ elim (cases_eq other.place id.place) [
        | inl places ↦
            cond-true (other.place == id.place) None (find a other) (eq-eqb other.place id.place places)
            ∙ sym (find-beside a id other v found differs places)
        | inr elsewhere ↦
            cond-false (other.place == id.place) None (find a other) (ne_eqb other.place id.place elsewhere)
      ]

  -- a value put belongs to its id, and every other id keeps its value
  pub find-put_own : (a : Arena X) (id : Id) (v : X) → id.place < capacity_of a → id.stamp ≡ a.counter
      → find (with_put a id.place v) id ≡ Some v
  find-put_own a id v below stamp =
      find-with_put a id.place v id below
      ∙ cond-true (id.place == id.place) (cond (a.counter == id.stamp) (Some v) None) (find a id)
      (eq-eqb id.place id.place refl)
      ∙ cond-true (a.counter == id.stamp) (Some v) None (eq-eqb a.counter id.stamp (sym stamp))

  pub find-put_other : (a : Arena X) (id other : Id) (v : X) → id.place < capacity_of a → held_at a id.place ≡ None
      → id.stamp ≡ a.counter → other ≢ id → find (with_put a id.place v) other ≡ find a other
  find-put_other a id other v below nothing stamp differs =
      find-with_put a id.place v other below
      ∙ elim (cases_eq other.place id.place) [
        | inl places ↦
            let newer : a.counter ≢ other.stamp =
            λ e. differs (ap₂ (λ (p s : ℕ). let made : Id = record { place = p; stamp = s } in made) places
            (sym e ∙ sym stamp)) in
            cond-true (other.place == id.place) (cond (a.counter == other.stamp) (Some v) None) (find a other)
            (eq-eqb other.place id.place places)
            ∙ cond-false (a.counter == other.stamp) (Some v) None (ne_eqb a.counter other.stamp newer)
            ∙ sym (find-nothing a other (ap (λ (k : ℕ). held_at a k) places ∙ nothing))
        | inr elsewhere ↦
            cond-false (other.place == id.place) (cond (a.counter == other.stamp) (Some v) None) (find a other)
            (ne_eqb other.place id.place elsewhere)
      ]

  -- one value more is held once a vacant place has one
  pub len_of-with_put : (a : Arena X) (p : ℕ) (v : X) → p < capacity_of a → held_at a p ≡ None
      → len_of (with_put a p v) ≡ len_of a + 1
  len_of-with_put a p v below nothing =
      let zero_there : ones (is_some (get_or a.held p None)) ≡ ones false =
      ap (λ (slot : Option (ℕ × X)). ones (is_some slot)) nothing in
      omega (arith, sum_by-set (λ x. ones (is_some x)) a.held p (Some (a.counter, v)) None below, zero_there)

  -- a map is bounded where the stamps of what it finds are below its counter
  bounded_by : (a : Arena X) → ((id : Id) → IsSome (find a id) → id.stamp < a.counter) → a.counter < 2 ^ 64
      → capacity_of a < 2 ^ 32
      → IsBoundedMap a
  bounded_by a stamps counter capacity =
      bounded a (λ place own held.
      stamps (record { place = place; stamp = own.0 }) (ap is_some (found_of_held a place own held)))
      counter capacity

  option-before : (o : Option X) (b : Bool) (f : X → X) → IsSome (cond b (option_map f o) o) → IsSome o
  option-before None true f h = h
  option-before None false f h = h
  option-before (Some v) b f h = refl

  -- what a changed value's id found before
  pub found-before : (a : Arena X) (p : ℕ) (f : X → X) (id : Id) → IsSome (find (changed_at a p f) id)
      → IsSome (find a id)
  found-before a p f id h =
      option-before (find a id) (id.place == p) f (subst (λ (o : Option X). IsSome o) (find-changed_at a p f id) h)

  option-after : (o : Option X) (b : Bool) (f : X → X) → IsSome o → IsSome (cond b (option_map f o) o)
  option-after None b f h = absurd (not-some None refl h)
  option-after (Some v) true f h = refl
  option-after (Some v) false f h = refl

  pub found-after : (a : Arena X) (p : ℕ) (f : X → X) (id : Id) → IsSome (find a id)
      → IsSome (find (changed_at a p f) id)
  found-after a p f id h =
      subst (λ (o : Option X). IsSome o) (sym (find-changed_at a p f id)) (option-after (find a id) (id.place == p) f h)

  -- each change keeps a map bounded
  pub bounded-changed_at : (a : Arena X) (p : ℕ) (f : X → X) → IsBoundedMap a → IsBoundedMap (changed_at a p f)
  bounded-changed_at a p f map =
      bounded_by (changed_at a p f) (λ id h. map.stamps id (found-before a p f id h)) map.counter
      (omega (arith, map.capacity, capacity_of-changed_at a p f))

  none-before : (o : Option X) (b : Bool) → IsSome (cond b None o) → IsSome o
  none-before o true h = absurd (not-some None refl h)
  none-before o false h = h

  pub bounded-without : (a : Arena X) (p : ℕ) → IsBoundedMap a → IsBoundedMap (without a p)
  bounded-without a p map =
      bounded_by (without a p)
      (λ id h. map.stamps id (none-before (find a id) (id.place == p)
      (subst (λ (o : Option X). IsSome o) (find-without a p id) h)))
      map.counter (omega (arith, map.capacity, length-set a.held p None))

  put-cases : (a : Arena X) (id : Id) (v : X) → id.place < capacity_of a → held_at a id.place ≡ None
      → id.stamp ≡ a.counter
      → (other : Id) → IsSome (find (with_put a id.place v) other)
      → (other ≡ id) ⊎ ((other.place ≢ id.place) × IsSome (find a other))
  put-cases a id v below free stamp other h =
      elim (cases_eq other.place id.place) [
        | inr elsewhere ↦
            inr (
              elsewhere,
              subst (λ (o : Option X). IsSome o)
                  (find-put_other a id other v below free stamp (λ e. elsewhere (ap (λ (i : Id). i.place) e))) h,
            )
        | inl places ↦
            elim (cases_eq other.stamp id.stamp) [
              | inl stamps ↦
                  inl (ap₂ (λ (p s : ℕ). let made : Id = record { place = p; stamp = s } in made) places stamps)
              | inr differ ↦
                  let other_id : other ≢ id = λ e. differ (ap (λ (i : Id). i.stamp) e) in
                  let is_none : find (with_put a id.place v) other ≡ None =
                  find-put_other a id other v below free stamp other_id
                  ∙ find-nothing a other (ap (λ (k : ℕ). held_at a k) places ∙ free) in
                  absurd (not-some (find (with_put a id.place v) other) is_none h)
            ]
      ]

  pub bounded-put : (a : Arena X) (id : Id) (v : X) → id.place < capacity_of a → held_at a id.place ≡ None
      → id.stamp ≡ a.counter
      → a.counter + 1 < 2 ^ 64 → IsBoundedMap a → IsBoundedMap (with_put a id.place v)
  bounded-put a id v below free stamp unworn map =
      bounded_by (with_put a id.place v)
      (λ other h.
      elim (put-cases a id v below free stamp other h) [
        | inl same ↦ let e : other.stamp ≡ a.counter = ap (λ (i : Id). i.stamp) same ∙ stamp in omega (arith, e)
        | inr old ↦ let less : other.stamp < a.counter = map.stamps other old.1 in omega (arith, less)
      ])
      unworn (omega (arith, map.capacity, length-set a.held id.place (Some (a.counter, v))))

  -- a new arena holds nothing
  pub replicate-none : (n p : ℕ) → get_or (replicate {A = Option (ℕ × X)} n None) p None ≡ None
  replicate-none n p =
      elim (cases_lt p n) [
        | inl below ↦ get_or-replicate n p None None below
        | inr past ↦
            get_or_past (replicate n None) p None (omega (arith, length-replicate {A = Option (ℕ × X)} n None, past))
      ]

  pub find-vacant : (n first : ℕ) (id : Id) → find (vacant {X = X} n first) id ≡ None
  find-vacant n first id = find-nothing (vacant n first) id (replicate-none n id.place)

  pub bounded-vacant : (n first : ℕ) → n < 2 ^ 32 → first < 2 ^ 64 → IsBoundedMap (vacant {X = X} n first)
  bounded-vacant n first few small =
      bounded_by (vacant n first) (λ id h. absurd (not-some (find (vacant n first) id) (find-vacant n first id) h))
      small
      (omega (arith, few, length-replicate {A = Option (ℕ × X)} n None))

pub bounded-changed_all : {X Y : Type 0} (a : Arena X) (f : X → Y) → IsBoundedMap a → IsBoundedMap (changed_all a f)
bounded-changed_all {X} {Y} a f map =
    bounded_by (changed_all a f)
    (λ id h. map.stamps id (before (find a id) (subst (λ (o : Option Y). IsSome o) (find-changed_all a f id) h)))
    map.counter (omega (arith, map.capacity, capacity_of-changed_all a f))
  where
    before : (o : Option X) → IsSome (option_map f o) → IsSome o
    before None h = absurd (not-some {X = Y} None refl h)
    before (Some v) h = refl
