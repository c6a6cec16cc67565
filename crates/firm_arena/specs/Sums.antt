-- Laws for callers about sums over the entries of an arena: the effect of a change of one slot.
use Rattle.std.proofs.Common.{inl, inr, ◌≡◌, ℕ, zero, suc, ◌+◌, ◌<◌, Option, Some, None, List, [], ◌∷◌, map, length}
use Rattle.std.proofs.Common.{get_or, set, arith, refl, ap, subst}
use Rattle.std.specs.List.{sum_by}
use Rattle.std.proofs.lemmas.List.Sums.{sum_by-cons}
use Rattle.std.proofs.lemmas.List.{set_past}
use Rattle.std.proofs.lemmas.Bool.{cases_lt}
use Rattle.firm_arena.specs.Arena.{Arena, entries_from, entries, held_at, capacity_of, with_put, without, changed_at}
use Rattle.firm_arena.specs.Arena.{changed_all, slot_changed}
use Rattle.firm_arena.specs.declared.Id.{Id}

module _ {X : Type 0} where
  -- what a slot at a place weighs
  abbrev pub slot_weight : (Id × X → ℕ) → ℕ → Option (ℕ × X) → ℕ
  slot_weight f place None = 0
  slot_weight f place (Some own) = f (record { place = place; stamp = own.0 }, own.1)

  pub sum-slot : (f : Id × X → ℕ) (p : ℕ) (o : Option (ℕ × X)) (rest : List (Option (ℕ × X)))
      → sum_by f (entries_from p (o ∷ rest)) ≡ slot_weight f p o + sum_by f (entries_from (p + 1) rest)
  sum-slot f p None rest = omega arith
  sum-slot f p (Some own) rest = sum_by-cons f (record { place = p; stamp = own.0 }, own.1) (entries_from (p + 1) rest)

  sum-set_from : (f : Id × X → ℕ) (held : List (Option (ℕ × X))) (p i : ℕ) (slot : Option (ℕ × X)) → i < length held
      → sum_by f (entries_from p (set held i slot)) + slot_weight f (p + i) (get_or held i None)
      ≡ sum_by f (entries_from p held) + slot_weight f (p + i) slot
  sum-set_from f [] p i slot below = absurd (omega arith)
  sum-set_from f (o ∷ held) p zero slot below =
      let old : slot_weight f (p + 0) o ≡ slot_weight f p o = ap (λ (q : ℕ). slot_weight f q o) (omega arith) in
      let new : slot_weight f (p + 0) slot ≡ slot_weight f p slot =
      ap (λ (q : ℕ). slot_weight f q slot) (omega arith) in
      omega (arith, sum-slot f p o held, sum-slot f p slot held, old, new)
  sum-set_from f (o ∷ held) p (suc i) slot below =
      let q : p + 1 + i ≡ p + suc i = omega arith in
      let rest : sum_by f (entries_from (p + 1) (set held i slot)) + slot_weight f (p + 1 + i) (get_or held i None)
      ≡ sum_by f (entries_from (p + 1) held) + slot_weight f (p + 1 + i) slot =
      sum-set_from f held (p + 1) i slot (omega arith) in
      omega (
        arith,
        rest,
        ap (λ (z : ℕ). slot_weight f z (get_or held i None)) q,
        ap (λ (z : ℕ). slot_weight f z slot) q,
        sum-slot f p o held,
        sum-slot f p o (set held i slot),
      )

  -- a slot written changes the sum by what it held and what it holds
  sum-set : (f : Id × X → ℕ) (a : Arena X) (place : ℕ) (slot : Option (ℕ × X)) (counter : ℕ) → place < capacity_of a
      → sum_by f (entries (record { held = set a.held place slot; counter = counter })) + slot_weight f place
      (held_at a place)
      ≡ sum_by f (entries a) + slot_weight f place slot
  sum-set f a place slot counter below =
      subst (λ (q : ℕ). sum_by f (entries_from 0 (set a.held place slot)) + slot_weight f q (held_at a place)
      ≡ sum_by f (entries a) + slot_weight f q slot) (let z : 0 + place ≡ place = omega arith in z)
      (sum-set_from f a.held 0 place slot below)

  pub sum-put : (f : Id × X → ℕ) (a : Arena X) (place : ℕ) (value : X) → place < capacity_of a → held_at a place ≡ None
      → sum_by f (entries (with_put a place value))
      ≡ sum_by f (entries a) + f (record { place = place; stamp = a.counter }, value)
  sum-put f a place value below free =
      let e : slot_weight f place (held_at a place) ≡ 0 = ap (slot_weight f place) free in
      omega (arith, sum-set f a place (Some (a.counter, value)) (a.counter + 1) below, e)

  pub sum-without : (f : Id × X → ℕ) (a : Arena X) (place stamp : ℕ) (value : X) → place < capacity_of a
      → held_at a place ≡ Some (stamp, value)
      → sum_by f (entries (without a place)) + f (record { place = place; stamp = stamp }, value) ≡ sum_by f (entries a)
  sum-without f a place stamp value below there =
      let e : slot_weight f place (held_at a place) ≡ f (record { place = place; stamp = stamp }, value) =
      ap (slot_weight f place) there in
      omega (arith, sum-set f a place None a.counter below, e)

  pub sum-changed : (f : Id × X → ℕ) (a : Arena X) (place stamp : ℕ) (value : X) (g : X → X) → place < capacity_of a
      → held_at a place ≡ Some (stamp, value)
      → sum_by f (entries (changed_at a place g)) + f (record { place = place; stamp = stamp }, value)
      ≡ sum_by f (entries a) + f (record { place = place; stamp = stamp }, g value)
  sum-changed f a place stamp value g below there =
      let old : slot_weight f place (held_at a place) ≡ f (record { place = place; stamp = stamp }, value) =
      ap (slot_weight f place) there in
      let new : slot_weight f place (slot_changed g (held_at a place))
      ≡ f (record { place = place; stamp = stamp }, g value) =
      ap (λ (o : Option (ℕ × X)). slot_weight f place (slot_changed g o)) there in
      omega (arith, sum-set f a place (slot_changed g (held_at a place)) a.counter below, old, new)

  slot-same : (f : Id × X → ℕ) (g : X → X) → ((id : Id) (x : X) → f (id, g x) ≡ f (id, x))
      → (p : ℕ) (o : Option (ℕ × X))
      → slot_weight f p (slot_changed g o) ≡ slot_weight f p o
  slot-same f g blind p None = refl
  slot-same f g blind p (Some own) = blind (record { place = p; stamp = own.0 }) own.1

  -- a change that the weight is blind to changes no sum, whatever is there
  pub sum-changed_same : (f : Id × X → ℕ) (a : Arena X) (place : ℕ) (g : X → X)
      → ((id : Id) (x : X) → f (id, g x) ≡ f (id, x))
      → sum_by f (entries (changed_at a place g)) ≡ sum_by f (entries a)
  sum-changed_same f a place g blind =
      elim (cases_lt place (capacity_of a)) [
        | inl below ↦
            omega (
              arith,
              sum-set f a place (slot_changed g (held_at a place)) a.counter below,
              slot-same f g blind place (held_at a place),
            )
        | inr past ↦
            ap (λ (h : List (Option (ℕ × X))). sum_by f (entries_from 0 h))
            (set_past a.held place (slot_changed g (held_at a place)) past)
      ]

  all-same_from : (f : Id × X → ℕ) (g : X → X) → ((id : Id) (x : X) → f (id, g x) ≡ f (id, x)) → (p : ℕ)
      (held : List (Option (ℕ × X)))
      → sum_by f (entries_from p (map (slot_changed g) held)) ≡ sum_by f (entries_from p held)
  all-same_from f g blind p [] = refl
  all-same_from f g blind p (o ∷ held) =
      omega (
        arith,
        sum-slot f p (slot_changed g o) (map (slot_changed g) held),
        sum-slot f p o held,
        slot-same f g blind p o,
        all-same_from f g blind (p + 1) held,
      )

  pub sum-changed_all : (f : Id × X → ℕ) (a : Arena X) (g : X → X) → ((id : Id) (x : X) → f (id, g x) ≡ f (id, x))
      → sum_by f (entries (changed_all a g)) ≡ sum_by f (entries a)
  sum-changed_all f a g blind = all-same_from f g blind 0 a.held

  -- each entry of an arena whose values all changed is an entry with its value changed
  entries-changed_from : {Y : Type 0} (g : X → Y) (p : ℕ) (held : List (Option (ℕ × X)))
      → entries_from p (map (slot_changed g) held) ≡ map (λ e. (e.0, g e.1)) (entries_from p held)
  entries-changed_from g p [] = refl
  entries-changed_from g p (None ∷ held) = entries-changed_from g (p + 1) held
  entries-changed_from {Y} g p (Some own ∷ held) =
      ap (λ (rest : List (Id × Y)). (record { place = p; stamp = own.0 }, g own.1) ∷ rest)
      (entries-changed_from g (p + 1) held)

  pub entries-changed_all : {Y : Type 0} (a : Arena X) (g : X → Y)
      → entries (changed_all a g) ≡ map (λ e. (e.0, g e.1)) (entries a)
  entries-changed_all a g = entries-changed_from g 0 a.held
