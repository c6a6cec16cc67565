-- The invariant of the ordered queue.
use Rattle.std.specs.Prelude.{◌≡◌, ℕ, ◌+◌, ◌*◌, ◌-◌, ◌<◌, ◌≤◌, true, false, List, length, slice_index, ◌⊎◌}
use Rattle.firm_paths.specs.Visits.{visit}
use Rattle.firm_paths.specs.inner.Search.{known, settled, label}
use Rattle.firm_paths.specs.declared.search.NodeState.{NodeState}
use Rattle.firm_paths.specs.declared.search.Visit.{Visit}

-- a node above holds the lesser of its two, one of which it equals
pub record IsLesser (k a b : ℕ) : Type 0 where
  pub left : k ≤ a
  pub right : k ≤ b
  pub one : (k ≡ a) ⊎ (k ≡ b)

-- twice as many keys as places: the last are those of the places, and each before them is the lesser of its two
pub record IsTournament (places : ℕ) (keys : List ℕ) : Type 0 where
  pub length : length keys ≡ 2 * places
  pub lesser : (i : ℕ) → 1 ≤ i → i < places
      → IsLesser (slice_index keys i) (slice_index keys (2 * i)) (slice_index keys (2 * i + 1))
  pub bounded : (i : ℕ) → slice_index keys i ≤ 18446744073709551615

-- the place has a key, and no place has a lower one
pub record IsLeastKey (keys : List ℕ) (u : ℕ) : Type 0 where
  pub listed : u < length keys
  pub present : slice_index keys u < 18446744073709551615
  pub least : (v : ℕ) → v < length keys → slice_index keys u ≤ slice_index keys v

-- the nodes that are known and not settled stand in the queue by their distances, and no others
pub record IsQueued (price : ℕ → ℕ) (ms : List NodeState) (keys : List ℕ) : Type 0 where
  pub size : length keys ≡ length ms
  pub open_ : (v : ℕ) → known ms v ≡ true → settled ms v ≡ false → slice_index keys v ≡ label ms v - price v
  pub below : (v : ℕ) → known ms v ≡ true → settled ms v ≡ false → label ms v < 18446744073709551615
  pub shut : (v : ℕ) → v < length keys → slice_index keys v < 18446744073709551615
      → (known ms v ≡ true) × (settled ms v ≡ false)

-- nothing is known, and the queue is empty
pub record IsIdle (ms : List NodeState) (keys : List ℕ) : Type 0 where
  pub size : length keys ≡ length ms
  pub unknown : (v : ℕ) → (known ms v ≡ false) × (settled ms v ≡ false)
  pub empty : (v : ℕ) → v < length keys → slice_index keys v ≡ 18446744073709551615

-- a visit from number `i` on was to this place
pub record IsVisited (vs : List Visit) (i v : ℕ) : Type 0 where
  pub number : ℕ
  pub from : i ≤ number
  pub listed : number < length vs
  pub place : (visit vs number).place ≡ v

-- each settled node is known, and was visited; each visit has a place
pub record AreVisited (ms : List NodeState) (vs : List Visit) : Type 0 where
  pub places : (i : ℕ) → i < length vs → (visit vs i).place < length ms
  pub settled : (v : ℕ) → settled ms v ≡ true → IsVisited vs 0 v

-- what is not yet forgotten was visited from number `i` on, or stands in the queue
abbrev pub AreLeft : List NodeState → List ℕ → List Visit → ℕ → Type 0
AreLeft ms keys vs i =
    (v : ℕ) → ((known ms v ≡ false) × (settled ms v ≡ false))
    ⊎ (IsVisited vs i v ⊎ (slice_index keys v < 18446744073709551615))

-- what is not yet forgotten stands in the queue
abbrev pub AreOpen : List NodeState → List ℕ → Type 0
AreOpen ms keys =
    (v : ℕ) → ((known ms v ≡ false) × (settled ms v ≡ false)) ⊎ (slice_index keys v < 18446744073709551615)
