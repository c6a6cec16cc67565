-- How an arena lays out its slots. No public clause cites this module.
use Rattle.std.specs.Prelude.{◌≡◌, ℕ, zero, suc, ◌+◌, ◌^◌, ◌<◌, ◌≤◌, List, map, length, Option, Some, None, is_some}
use Rattle.std.specs.Prelude.{IsSome, count_by, slice_index_or, slice_set, ◌⊎◌}
use Rattle.firm_arena.specs.declared.slot.Slot.{Slot}
use Rattle.firm_arena.specs.declared.slot.Slot.TheVariants.{Free, Held}

module _ {X : Type 0} where
  -- the value of a slot that holds one
  abbrev pub value_in : Slot X → Option X
  value_in (Free _) = None
  value_in (Held _ value) = Some value

  -- what a place holds, as contracts see it
  abbrev pub held_in : Option (Slot X) → Option (ℕ × X)
  held_in None = None
  held_in (Some (Free _)) = None
  held_in (Some (Held stamp value)) = Some (stamp, value)

  -- a slot with another value under its stamp
  abbrev pub with_held : Slot X → X → Slot X
  with_held (Free next) value = Free next
  with_held (Held stamp _) value = Held stamp value

  abbrev pub slot_at : List (Option (Slot X)) → ℕ → Option (Slot X)
  slot_at row place = slice_index_or row place None

  -- the place is free
  abbrev pub IsFreeAt : List (Option (Slot X)) → ℕ → Type 0
  IsFreeAt row place = (next : Option ℕ) × (slot_at row place ≡ Some (Free next))

  -- the place holds this value
  abbrev pub ReadsHeld : List (Option (Slot X)) → ℕ → X → Type 0
  ReadsHeld row place value = (stamp : ℕ) × (slot_at row place ≡ Some (Held stamp value))

  -- the place holds a value
  abbrev pub IsHeldAt : List (Option (Slot X)) → ℕ → Type 0
  IsHeldAt row place = (value : X) × ReadsHeld row place value

  -- from the first place on, `count` free places each name the next, and the last names none
  abbrev pub IsFreeList : List (Option (Slot X)) → ℕ → Option ℕ → Type 0
  IsFreeList row zero first = first ≡ None
  IsFreeList row (suc count) first =
      (place : ℕ) × (next : Option ℕ) × (first ≡ Some place) × (slot_at row place ≡ Some (Free next))
      × IsFreeList row count next

  -- what holds of an arena's fields: the places below `used` were written, `len` of them hold a value
  -- under a stamp below the counter, and the others are the free list
  pub record IsSound (row : List (Option (Slot X))) (used len : ℕ) (first : Option ℕ) (counter : ℕ) : Type 0 where
    pub free : ℕ
    pub linked : IsFreeList row free first
    pub total : len + free ≡ used
    pub counted : len ≡ count_by is_some (map held_in row)
    pub within : used ≤ length row
    pub written : (place : ℕ) → place < used → IsSome (slot_at row place)
    pub unwritten : (place : ℕ) → used ≤ place → slot_at row place ≡ None
    pub stamps : (place stamp : ℕ) (value : X) → slot_at row place ≡ Some (Held stamp value) → stamp < counter
    pub limit : counter < 2 ^ 64
    pub capacity : length row < 2 ^ 32

  -- a place that holds nothing is claimed: the first of the free list, or the first that was never written
  abbrev pub Claims : List (Option (Slot X)) → ℕ → Option ℕ → List (Option (Slot X)) → ℕ → Option ℕ → ℕ → Type 0
  Claims old used first row used' first' place =
      ((first ≡ Some place) × (slot_at old place ≡ Some (Free first')) × (row ≡ slice_set old place None)
      × (used' ≡ used))
      ⊎ ((first ≡ None) × (place ≡ used) × (row ≡ old) × (used' ≡ used + 1) × (first' ≡ None))
