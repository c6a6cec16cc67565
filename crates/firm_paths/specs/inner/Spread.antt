-- The invariant of the search for a tight path.
use Rattle.std.specs.Prelude.{◌≡◌, ℕ, ◌+◌, ◌<◌, ◌≤◌, Bool, true, false, List, [], ◌∷◌, ◌++◌, length, Contains, Some}
use Rattle.std.specs.Prelude.{◌⊎◌, Option, IfSome, slice_index, slice_index_or, slice_set, count_by, if◌then◌else◌}
use Rattle.firm_net.specs.Row.{Row}
use Rattle.firm_net.specs.Net.{Net, IsNode, row_at, IsResidual as IsOpen}
use Rattle.firm_net.specs.declared.row.ArcId.{ArcId}
use Rattle.firm_net.specs.declared.row.Way.{Way}
use Rattle.firm_paths.specs.Visits.{visit}
use Rattle.firm_paths.specs.inner.Search.{IsTreeTo, start_of, end_of, opposite_of}
use Rattle.firm_paths.specs.inner.Queue.{IsVisited}
use Rattle.firm_paths.specs.declared.search.Current.{Current}
use Rattle.firm_paths.specs.declared.search.Visit.{Visit}

-- the answer of a table of tests, false past its end
abbrev pub is : List Bool → ℕ → Bool
is seen v = slice_index_or seen v false

-- the tables after a node was visited, unless it was seen before
abbrev pub seen_with : List Bool → Visit → List Bool
seen_with seen x = if is seen x.place then seen else slice_set seen x.place true

abbrev pub visits_with : List Bool → List Visit → Visit → List Visit
visits_with seen vs x = if is seen x.place then vs else vs ++ x ∷ []

-- what was seen stays seen, and the visits so far stay
pub record IsGrown (seen : List Bool) (vs : List Visit) (new_seen : List Bool) (new_vs : List Visit) : Type 0 where
  pub kept : (v : ℕ) → is seen v ≡ true → is new_seen v ≡ true
  pub visits : (i : ℕ) → i < length vs → visit new_vs i ≡ visit vs i
  pub more : length vs ≤ length new_vs
  pub length : length new_seen ≡ length seen

-- as many nodes were visited as were seen, and there is room for all
pub record IsCounted (seen : List Bool) (vs : List Visit) (capacity : ℕ) : Type 0 where
  pub count : count_by (λ b. b) seen ≡ length vs
  pub room : length seen ≤ capacity

-- the nodes that were visited are those that were seen, and they are a tree of tight residual arcs to the root
pub record IsSpread (net : Net) (price : ℕ → ℕ) (barred : List ArcId) (root : ℕ) (seen : List Bool)
    (vs : List Visit) : Type 0 where
  pub tree : IsTreeTo net price barred vs root
  pub named : (i : ℕ) → i < length vs → IsNode net (visit vs i).node × ((visit vs i).node.id.place ≡ (visit vs i).place)
  pub marked : (i : ℕ) → i < length vs → is seen (visit vs i).place ≡ true
  pub found : (v : ℕ) → is seen v ≡ true → (i : ℕ) × (i < length vs) × ((visit vs i).place ≡ v)

-- each visit has a place, and what was not visited, from number `i` on, is not seen
pub record AreMarked (seen : List Bool) (vs : List Visit) (i : ℕ) : Type 0 where
  pub places : (k : ℕ) → k < length vs → (visit vs k).place < length seen
  pub unseen : (v : ℕ) → (is seen v ≡ false) ⊎ IsVisited vs i v

-- what a search leaves: what was visited was seen, each visit is linked to an earlier one, and there are no more visits
-- than places
pub record Agree (seen : List Bool) (vs : List Visit) : Type 0 where
  pub marked : AreMarked seen vs 0
  pub met : (k : ℕ) → k < length vs → is seen (visit vs k).place ≡ true
  pub order : (k : ℕ) → k < length vs → IfSome (visit vs k).predecessor (λ h. h.after < k)
  pub few : length vs ≤ length seen

-- no node was visited twice
abbrev pub AreApart : List Visit → Type 0
AreApart vs = (i j : ℕ) → i < j → j < length vs → (visit vs i).place ≡ (visit vs j).place → ⊥

-- at the place of each visit stands its number
abbrev pub AreNumbered : List ℕ → List Visit → Type 0
AreNumbered numbers vs = (k : ℕ) → k < length vs → slice_index numbers (visit vs k).place ≡ k

-- the arc is barred, or where it is tight and residual against the way in which it is read, the node that it comes from
-- was seen
abbrev pub IsSpreadTo : (ℕ → ℕ) → List ArcId → List Bool → Way → ArcId → Row → Type 0
IsSpreadTo price barred seen way id row =
    Contains barred id
    ⊎ (IsOpen (opposite_of way) row → row.cost + price row.tail.id.place ≡ price row.head.id.place
    → is seen (end_of way row).id.place ≡ true)

-- the same of all rows that are read this way from the node at `u`
abbrev pub NodeSpread : Net → (ℕ → ℕ) → List ArcId → List Bool → ℕ → Way → Type 0
NodeSpread net price barred seen u way =
    (id : ArcId) (row : Row) → row_at net id ≡ Some row → (start_of way row).id.place ≡ u
    → IsSpreadTo price barred seen way id row

-- one look keeps what the search keeps, and follows the arc
abbrev pub Spreads : Net → (ℕ → ℕ) → List ArcId → Current → Way → ArcId → Row → List Bool → List Visit → List Bool
    → List Visit → Type 0
Spreads net price barred current way id row seen vs new_seen new_vs =
    (from : ℕ) → current.number < length vs → (visit vs current.number).place ≡ current.place
    → IsSpread net price barred from seen vs
    → IsSpread net price barred from new_seen new_vs × IsSpreadTo price barred new_seen way id row

-- the looks along all arcs that are read one way from the node
abbrev pub SpreadsAll : Net → (ℕ → ℕ) → List ArcId → Current → Way → List Bool → List Visit → List Bool → List Visit
    → Type 0
SpreadsAll net price barred current way seen vs new_seen new_vs =
    (from : ℕ) → current.number < length vs → (visit vs current.number).place ≡ current.place
    → IsSpread net price barred from seen vs
    → IsSpread net price barred from new_seen new_vs × NodeSpread net price barred new_seen current.place way

-- the looks along all arcs that are read from the node in either way
abbrev pub SpreadsBoth : Net → (ℕ → ℕ) → List ArcId → Current → List Bool → List Visit → List Bool → List Visit → Type 0
SpreadsBoth net price barred current seen vs new_seen new_vs =
    (from : ℕ) → current.number < length vs → (visit vs current.number).place ≡ current.place
    → IsSpread net price barred from seen vs
    → IsSpread net price barred from new_seen new_vs
    × ((way : Way) → NodeSpread net price barred new_seen current.place way)

-- a node was visited as this number
pub record IsFoundBy (net : Net) (price : ℕ → ℕ) (barred : List ArcId) (root : ℕ) (vs : List Visit)
    (number : ℕ) : Type 0 where
  pub tree : IsTreeTo net price barred vs root
  pub listed : number < length vs

-- all arcs into the nodes that were seen were followed, and the root was seen
pub record IsSpent (net : Net) (price : ℕ → ℕ) (barred : List ArcId) (root : ℕ) (seen : List Bool)
    (vs : List Visit) : Type 0 where
  pub spread : IsSpread net price barred root seen vs
  pub followed : (way : Way) (id : ArcId) (row : Row) → row_at net id ≡ Some row
      → is seen (start_of way row).id.place ≡ true
      → IsSpreadTo price barred seen way id row
  pub root_in : is seen root ≡ true

-- the place is not the goal, if a goal is given
abbrev pub IsOther : Option ℕ → ℕ → Type 0
IsOther goal v = goal ≡ Some v → ⊥
