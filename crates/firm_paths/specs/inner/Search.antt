-- The invariants of the searches.
use Rattle.std.specs.Prelude.{◌≡◌, ℕ, ◌+◌, ◌-◌, ◌*◌, ◌^◌, ◌<◌, ◌≤◌, Bool, true, false, List, [], length, Contains, Some}
use Rattle.std.specs.Prelude.{None, is_some, MatchOption, ◌⊎◌, slice_index, slice_index_or, slice_set, count_by}
use Rattle.std.specs.Prelude.{if◌then◌else◌, not, ◌&&◌, ◌||◌, nat_lt}
use Rattle.firm_net.specs.Row.{Row}
use Rattle.firm_net.specs.Net.{Net, IsNode, row_at, IsResidual as IsOpen}
use Rattle.firm_net.specs.declared.links.Side.{Side}
use Rattle.firm_net.specs.declared.links.Side.TheVariants.{Out, In}
use Rattle.firm_net.specs.declared.row.NodeId.{NodeId}
use Rattle.firm_net.specs.declared.row.ArcId.{ArcId}
use Rattle.firm_net.specs.declared.row.Way.{Way}
use Rattle.firm_net.specs.declared.row.Way.TheVariants.{Forward, Backward}
use Rattle.firm_paths.specs.Network.{Tight, AreValid, IsResidual, leaves, enters}
use Rattle.firm_paths.specs.NetArcs.{arcs_of, residual_of}
use Rattle.firm_paths.specs.Paths.{IsHighest}
use Rattle.firm_paths.specs.Visits.{visit}
use Rattle.firm_paths.specs.declared.search.Current.{Current}
use Rattle.firm_paths.specs.declared.search.Predecessor.{Predecessor}
use Rattle.firm_paths.specs.declared.search.NodeState.{NodeState}
use Rattle.firm_paths.specs.declared.search.Visit.{Visit}

-- a residual arc of reduced cost 0, not barred, leads from a node that was visited to node `v`
pub record IsPredecessor (net : Net) (price : ℕ → ℕ) (barred : List ArcId) (vs : List Visit) (v : ℕ)
    (h : Predecessor) : Type 0 where
  pub visited : h.after < length vs
  pub residual : IsResidual (arcs_of net) (residual_of net h.step)
  pub start : leaves (residual_of net h.step) ≡ (visit vs h.after).place
  pub end : enters (residual_of net h.step) ≡ v
  pub tight : Tight price (residual_of net h.step).arc
  pub free : Contains barred h.step.arc → ⊥

-- such an arc leads from node `v` to one that was visited
pub record IsSuccessor (net : Net) (price : ℕ → ℕ) (barred : List ArcId) (vs : List Visit) (v : ℕ)
    (h : Predecessor) : Type 0 where
  pub visited : h.after < length vs
  pub residual : IsResidual (arcs_of net) (residual_of net h.step)
  pub start : leaves (residual_of net h.step) ≡ v
  pub end : enters (residual_of net h.step) ≡ (visit vs h.after).place
  pub tight : Tight price (residual_of net h.step).arc
  pub free : Contains barred h.step.arc → ⊥

-- every visit but that of the root came from an earlier one, to which it is linked, and no node was visited twice
pub record IsTreeBy (Link : List Visit → ℕ → Predecessor → Type 0) (vs : List Visit) (root : ℕ) : Type 0 where
  pub predecessors : (i : ℕ) → i < length vs
      → MatchOption (visit vs i).predecessor ((visit vs i).place ≡ root)
      (λ h. (h.after < i) × Link vs (visit vs i).place h)
  pub apart : (i j : ℕ) → i < j → j < length vs → (visit vs i).place ≡ (visit vs j).place → ⊥

-- a tree of paths from the root
abbrev pub IsTree : Net → (ℕ → ℕ) → List ArcId → List Visit → ℕ → Type 0
IsTree net price barred vs from = IsTreeBy (IsPredecessor net price barred) vs from

-- a tree of paths to the root
abbrev pub IsTreeTo : Net → (ℕ → ℕ) → List ArcId → List Visit → ℕ → Type 0
IsTreeTo net price barred vs to = IsTreeBy (IsSuccessor net price barred) vs to

-- the state at a place
abbrev pub state : List NodeState → ℕ → NodeState
state ms v = slice_index_or ms v (record { node = None; label = 0; settled = false; predecessor = None })

abbrev pub known : List NodeState → ℕ → Bool
known ms v = is_some (state ms v).node

abbrev pub settled : List NodeState → ℕ → Bool
settled ms v = (state ms v).settled

abbrev pub label : List NodeState → ℕ → ℕ
label ms v = (state ms v).label

-- the visit of the node at a place, by the way on which the search came to it
abbrev pub visit_at : List NodeState → ℕ → NodeId → Visit
visit_at ms v node = record { node = node; place = v; predecessor = (state ms v).predecessor }

-- the states after the node at a place was settled
abbrev pub with_settled : List NodeState → ℕ → List NodeState
with_settled ms v = slice_set ms v (record (state ms v) { settled = true })

-- a state is open to a label where its node is not settled, and not known or labelled higher
abbrev pub is_open_to : NodeState → ℕ → Bool
is_open_to old value = not old.settled && (not (is_some old.node) || nat_lt value old.label)

-- the states after one was offered at a place
abbrev pub offered : List NodeState → ℕ → NodeState → List NodeState
offered ms v new = if is_open_to (state ms v) new.label then slice_set ms v new else ms

-- the state names the node at its place; settled it lies within `near`, open no nearer, and its label is at most `top`
pub record IsNearBy (net : Net) (price : ℕ → ℕ) (near top v : ℕ) (m : NodeState) : Type 0 where
  pub named : is_some m.node ≡ true → MatchOption m.node ⊥ (λ n. IsNode net n × (n.id.place ≡ v))
  pub within : m.settled ≡ true → (is_some m.node ≡ true) × (price v ≤ m.label) × (m.label ≤ price v + near)
  pub beyond : is_some m.node ≡ true → m.settled ≡ false → price v + near ≤ m.label
  pub below : is_some m.node ≡ true → m.label ≤ top

-- what is known of the nodes that were reached, and of those that were visited
pub record IsLabelled (net : Net) (price : ℕ → ℕ) (from near top : ℕ) (vs : List Visit) (ms : List NodeState) : Type
    0 where
  pub near_by : (v : ℕ) → IsNearBy net price near top v (state ms v)
  pub predecessors : (v : ℕ) → known ms v ≡ true
      → MatchOption (state ms v).predecessor (v ≡ from) (IsPredecessor net (label ms) [] vs v)
  pub tree : IsTree net (label ms) [] vs from
  pub visited : (i : ℕ) → i < length vs → settled ms (visit vs i).place ≡ true
  pub count : count_by (λ m. m.settled) ms ≡ length vs

-- the node that a step along the row leaves
abbrev pub start_of : Way → Row → NodeId
start_of Forward row = row.tail
start_of Backward row = row.head

-- the node that it enters
abbrev pub end_of : Way → Row → NodeId
end_of Forward row = row.head
end_of Backward row = row.tail

abbrev pub opposite_of : Way → Way
opposite_of Forward = Backward
opposite_of Backward = Forward

-- the side on which a node lists the arcs by which steps this way leave it
abbrev pub side_of : Way → Side
side_of Forward = Out
side_of Backward = In

-- a step from a node with this label, along an arc of this cost, gives another
abbrev pub Gives : Way → ℕ → ℕ → ℕ → Type 0
Gives Forward label cost value = value ≡ label + cost
Gives Backward label cost value = value + cost ≡ label

-- it gives a number of 64 bits
abbrev pub HasRoom : Way → ℕ → ℕ → Type 0
HasRoom Forward label cost = label + cost < 2 ^ 64
HasRoom Backward label cost = cost ≤ label

-- the reduced cost of a step under these prices is not negative
abbrev pub IsNotNegative : Way → (ℕ → ℕ) → Row → Type 0
IsNotNegative Forward price row = price row.head.id.place ≤ row.cost + price row.tail.id.place
IsNotNegative Backward price row = row.cost + price row.tail.id.place ≤ price row.head.id.place

-- a residual arc out of a settled node leads to a known one, whose label is no more than it gives
abbrev pub IsFollowed : List NodeState → Way → Row → Type 0
IsFollowed ms way row =
    settled ms (start_of way row).id.place ≡ true → IsOpen way row
    → (known ms (end_of way row).id.place ≡ true) × IsNotNegative way (label ms) row

-- those out of all settled nodes
abbrev pub AllFollowed : Net → List NodeState → Type 0
AllFollowed net ms = (way : Way) (id : ArcId) (row : Row) → row_at net id ≡ Some row → IsFollowed ms way row

-- those out of `u`, read in one way
abbrev pub NodeFollowed : Net → List NodeState → ℕ → Way → Type 0
NodeFollowed net ms u way =
    (id : ArcId) (row : Row) → row_at net id ≡ Some row → (start_of way row).id.place ≡ u → IsFollowed ms way row

-- labels only fall, those of settled nodes stay, and what was reached stays so
pub record IsLowered (old new : List NodeState) : Type 0 where
  pub kept : (v : ℕ) → known old v ≡ true → known new v ≡ true
  pub falls : (v : ℕ) → known old v ≡ true → label new v ≤ label old v
  pub fixed : (v : ℕ) → settled old v ≡ true → label new v ≡ label old v
  pub settled : (v : ℕ) → settled new v ≡ settled old v
  pub length : length new ≡ length old

-- no label is higher after these visits: each adds at most what an arc costs
abbrev pub highest_label : (ℕ → ℕ) → ℕ → List Visit → ℕ
highest_label price from vs = price from + 3000000 * length vs

-- the search stands at a node that was visited, is settled and lies at the distance `near`
pub record IsAt (net : Net) (price : ℕ → ℕ) (from near : ℕ) (current : Current) (vs : List Visit)
    (ms : List NodeState) : Type 0 where
  pub labelled : IsLabelled net price from near (highest_label price from vs) vs ms
  pub number : current.number < length vs
  pub place : (visit vs current.number).place ≡ current.place
  pub distance : label ms current.place ≡ price current.place + near
  pub room : label ms current.place + 3000000 ≤ highest_label price from vs
  pub small : highest_label price from vs < 2 ^ 63

-- it stands there, wherever it began
abbrev pub IsStanding : Net → (ℕ → ℕ) → Current → List Visit → List NodeState → Type 0
IsStanding net price current vs ms = (from : ℕ) × (near : ℕ) × IsAt net price from near current vs ms

-- `u` lies nearest of the nodes that are known and not settled
pub record IsNearest (price : ℕ → ℕ) (ms : List NodeState) (u : ℕ) : Type 0 where
  pub is_known : known ms u ≡ true
  pub is_open : settled ms u ≡ false
  pub nearest : (v : ℕ) → known ms v ≡ true → settled ms v ≡ false → label ms u - price u ≤ label ms v - price v

-- the prices after the settled ones were raised to their labels, and those no higher than the goal's by `distance`
pub record AreRaised (old : List ℕ) (ms : List NodeState) (goal distance : ℕ) (new : List ℕ) : Type 0 where
  pub at_settled : (v : ℕ) → v < length old → settled ms v ≡ true → label ms v ≤ slice_index old goal + distance
      → slice_index new v ≡ label ms v
  pub at_others : (v : ℕ) → v < length old → settled ms v ≡ false → slice_index old v ≤ slice_index old goal
      → slice_index new v ≡ slice_index old v + distance

-- valid prices that rose, of which the goal's is the highest and rose no more than the longest path can cost
pub record IsRaised (net : Net) (old new : List ℕ) (goal : ℕ) : Type 0 where
  pub valid : AreValid (arcs_of net) (slice_index new)
  pub highest : IsHighest net (slice_index new) goal
  pub rises : (n : NodeId) → IsNode net n → slice_index old n.id.place ≤ slice_index new n.id.place
  pub bound : slice_index new goal ≤ slice_index old goal + 4095 * 3000000

-- the search stays where it stands, and the row is followed from there
abbrev pub Looks : Net → (ℕ → ℕ) → Current → List Visit → Way → Row → List NodeState → List NodeState → Type 0
Looks net price current vs way row old new =
    (from near : ℕ) → IsAt net price from near current vs old
    → IsAt net price from near current vs new × IsFollowed new way row

-- the same of all rows that leave the node in one way
abbrev pub LooksAll : Net → (ℕ → ℕ) → Current → List Visit → Way → List NodeState → List NodeState → Type 0
LooksAll net price current vs way old new =
    (from near : ℕ) → IsAt net price from near current vs old
    → IsAt net price from near current vs new × NodeFollowed net new current.place way

-- the same of those that leave it in either way
abbrev pub LooksBoth : Net → (ℕ → ℕ) → Current → List Visit → List NodeState → List NodeState → Type 0
LooksBoth net price current vs old new =
    (from near : ℕ) → IsAt net price from near current vs old
    → IsAt net price from near current vs new × ((way : Way) → NodeFollowed net new current.place way)

-- the goal is the nearest open node, it was visited last, and all that was settled was followed
pub record IsReached (net : Net) (price : ℕ → ℕ) (from goal : ℕ) (ms : List NodeState) (vs : List Visit)
    (number : ℕ) : Type 0 where
  pub near_by : (v : ℕ) → IsNearBy net price (label ms goal - price goal) (price from + 4095 * 3000000) v (state ms v)
  pub followed : AllFollowed net ms
  pub is_known : known ms goal ≡ true
  pub is_open : settled ms goal ≡ false
  pub tree : IsTree net (label ms) [] vs from
  pub visited : (i : ℕ) → i < length vs → (settled ms (visit vs i).place ≡ true) ⊎ ((visit vs i).place ≡ goal)
  pub last : (number < length vs) × ((visit vs number).place ≡ goal)
  pub few : length vs ≤ length ms

-- no residual arc leads from a known node to an unknown one, the start is known and the goal is not
pub record IsEnd (net : Net) (from goal : ℕ) (ms : List NodeState) : Type 0 where
  pub followed : (way : Way) (id : ArcId) (row : Row) → row_at net id ≡ Some row
      → known ms (start_of way row).id.place ≡ true → IsOpen way row → known ms (end_of way row).id.place ≡ true
  pub from_in : known ms from ≡ true
  pub goal_out : known ms goal ≡ false

-- the goal was visited as this number
pub record IsReachedBy (net : Net) (price : ℕ → ℕ) (barred : List ArcId) (from goal : ℕ) (vs : List Visit)
    (number : ℕ) : Type 0 where
  pub tree : IsTree net price barred vs from
  pub last : (number < length vs) × ((visit vs number).place ≡ goal)
