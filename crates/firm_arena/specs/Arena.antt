-- The value of an `Arena` in contracts: a map from ids to values of at most `capacity` entries, and a counter.
use Rattle.std.specs.Prelude.{◌≡◌, ◌≢◌, ℕ, ◌+◌, ◌^◌, ◌<◌, ◌≤◌, ◌==◌, ◌↔◌, List, [], ◌∷◌, map, length, Option, Some}
use Rattle.std.specs.Prelude.{None, is_some, IsSome, count_by, slice_index_or, slice_set, replicate, Contains, refl}
use Rattle.std.specs.Prelude.{if◌then◌else◌}
use Rattle.std.specs.Coded.{Coded, code_by, coded×, coded_ℕ, coded_list, coded_option}
use Rattle.firm_arena.specs.declared.Id.{Id}
use Rattle.firm_arena.specs.declared.Refused.{Refused}
use Rattle.firm_arena.specs.declared.Refused.TheVariants.{Full, Worn}

-- at each place nothing, or a value with the stamp that it was put under; and the stamp of the next value
pub record Arena (X : Type 0) : Type 0 where
  pub held : List (Option (ℕ × X))
  pub counter : ℕ

-- an arena is stored as the pair of its fields
abbrev pub arena_code : {X : Type 0} → Coded X → Coded (Arena X)
arena_code {X} code =
    code_by
    (List (Option (ℕ × X)) × ℕ)
    (coded× (coded_list (coded_option (coded× coded_ℕ code))) coded_ℕ)
    (λ a. (a.held, a.counter))
    (λ p. record { held = p.0; counter = p.1 })
    (λ _. refl)

-- the value in a slot changed, the stamp kept
abbrev pub slot_changed : {X Y : Type 0} → (X → Y) → Option (ℕ × X) → Option (ℕ × Y)
slot_changed f None = None
slot_changed f (Some own) = Some (own.0, f own.1)

-- every value of an arena changed
abbrev pub changed_all : {X Y : Type 0} → Arena X → (X → Y) → Arena Y
changed_all a f = record { held = map (slot_changed f) a.held; counter = a.counter }

module _ {X : Type 0} where
  -- how many values fit
  abbrev pub capacity_of : Arena X → ℕ
  capacity_of a = length a.held

  -- how many values are held
  abbrev pub len_of : Arena X → ℕ
  len_of a = count_by is_some a.held

  -- what is at a place; past the last place there is nothing
  abbrev pub held_at : Arena X → ℕ → Option (ℕ × X)
  held_at a place = slice_index_or a.held place None

  -- the value, where it was put under this stamp
  abbrev pub value_under : ℕ → Option (ℕ × X) → Option X
  value_under stamp None = None
  value_under stamp (Some own) = if own.0 == stamp then Some own.1 else None

  -- the value of an id
  abbrev pub find : Arena X → Id → Option X
  find a id = value_under id.stamp (held_at a id.place)

  abbrev pub id_of : ℕ → Option (ℕ × X) → Option Id
  id_of place None = None
  id_of place (Some own) = Some (record { place = place; stamp = own.0 })

  -- the id of the value at a place
  abbrev pub id_under : Arena X → ℕ → Option Id
  id_under a place = id_of place (held_at a place)

  -- the entries of these places, the first of which has this number
  abbrev pub entries_from : ℕ → List (Option (ℕ × X)) → List (Id × X)
  entries_from place [] = []
  entries_from place (None ∷ rest) = entries_from (place + 1) rest
  entries_from place (Some own ∷ rest) =
      (record { place = place; stamp = own.0 }, own.1) ∷ entries_from (place + 1) rest

  -- the map as the list of its entries, by rising place
  abbrev pub entries : Arena X → List (Id × X)
  entries a = entries_from 0 a.held

  -- an empty arena of this capacity, which gives out this stamp first
  abbrev pub vacant : ℕ → ℕ → Arena X
  vacant capacity first = record { held = replicate capacity None; counter = first }

  -- the value is added at the place under the counter, which goes up by one
  abbrev pub with_put : Arena X → ℕ → X → Arena X
  with_put a place value =
      record { held = slice_set a.held place (Some (a.counter, value)); counter = a.counter + 1 }

  -- the place holds nothing any more
  abbrev pub without : Arena X → ℕ → Arena X
  without a place = record { held = slice_set a.held place None; counter = a.counter }

  -- the id has this value
  abbrev pub with_value : Arena X → Id → X → Arena X
  with_value a id value =
      record { held = slice_set a.held id.place (Some (id.stamp, value)); counter = a.counter }

  -- the value at a place changed; a vacant place stays so
  abbrev pub changed_at : Arena X → ℕ → (X → X) → Arena X
  changed_at a place f =
      record { held = slice_set a.held place (slot_changed f (held_at a place)); counter = a.counter }

  -- there is such a place, and it holds nothing
  pub record IsVacant (a : Arena X) (place : ℕ) : Type 0 where
    pub within : place < capacity_of a
    pub nothing : held_at a place ≡ None

  -- each place holds a value
  abbrev pub IsFull : Arena X → Type 0
  IsFull a = len_of a ≡ capacity_of a

  -- no stamp is left: the counter is `u64::MAX`
  abbrev pub IsWorn : Arena X → Type 0
  IsWorn a = a.counter + 1 ≡ 2 ^ 64

  -- a refusal gives the value back: `Full` from a full arena, `Worn` from one that is worn and not full
  abbrev pub Refuses : Arena X → X → Refused X → Type 0
  Refuses a value (Full back) = (back ≡ value) × IsFull a
  Refuses a value (Worn back) = (back ≡ value) × (len_of a < capacity_of a) × IsWorn a

  -- a map of at most `capacity` entries, at different places below it, and a counter above all its stamps
  pub record IsBoundedMap (a : Arena X) : Type 0 where
    pub listed : (id : Id) (value : X) → Contains (entries a) (id, value) ↔ (find a id ≡ Some value)
    pub count : length (entries a) ≡ len_of a
    pub fits : len_of a ≤ capacity_of a
    pub places : (id : Id) → IsSome (find a id) → id.place < capacity_of a
    pub apart : (one other : Id) → IsSome (find a one) → IsSome (find a other)
        → one.place ≡ other.place → one ≡ other
    pub stamps : (id : Id) → IsSome (find a id) → id.stamp < a.counter
    pub counter : a.counter < 2 ^ 64
    pub capacity : capacity_of a < 2 ^ 32

  -- every other id finds what it found before
  abbrev pub SameOthers : Arena X → Arena X → Id → Type 0
  SameOthers old new id = (other : Id) → other ≢ id → find new other ≡ find old other
