-- A unit sent round a cycle of residual arcs of reduced cost 0. No public clause cites this module.
use Rattle.std.specs.Prelude.{◌≡◌, ◌≢◌, ℕ, ◌+◌, ◌<◌, ◌≤◌, Bool, List, [], ◌++◌, All, Option, Some, None, map, ◌⊎◌}
use Rattle.firm_net.specs.Row.{Row}
use Rattle.firm_net.specs.Net.{Net, row_at}
use Rattle.firm_net.specs.declared.row.ArcId.{ArcId}
use Rattle.firm_paths.specs.Network.{AreValid, Tight}
use Rattle.firm_paths.specs.NetArcs.{arc_of, arcs_of, residual_of}
use Rattle.firm_paths.specs.Paths.{IsTightCut}
use Rattle.firm_paths.specs.declared.search.Step.{Step}
use Rattle.firm_flow.specs.Flow.{IsWithinBounds, cost_of, carried}
use Rattle.firm_flow.specs.Balance.{Balanced, OnTheWay}
use Rattle.firm_graph.specs.View.{low_of_row, flow_of_row}

-- a flow within its bounds that is conserved, under valid prices
pub record IsWhole (net : Net) (price : ℕ → ℕ) (sources : List ℕ) (sink : ℕ) : Type 0 where
  pub valid : AreValid (arcs_of net) price
  pub within : IsWithinBounds (arcs_of net) carried
  pub balanced : Balanced (arcs_of net) sources sink carried

-- each arc needs as much flow as before
abbrev pub SameLows : Net → Net → Type 0
SameLows old new = (b : ArcId) → low_of_row (row_at new b) ≡ low_of_row (row_at old b)

-- an arc off the steps has the row that it had
abbrev pub SameOff : Net → Net → List Step → Type 0
SameOff old new steps = (b : ArcId) → All (λ step. step.arc ≢ b) steps → row_at new b ≡ row_at old b

-- pushes along the steps bring a unit that much further on its way
abbrev pub CarriesOn : Net → List Step → Net → Type 0
CarriesOn old steps new =
    (found : Net) (price : ℕ → ℕ) (sources : List ℕ) (sink origin at to before : ℕ) (rest : List Step)
    → OnTheWay (arcs_of old) price sources sink origin at to before (map (residual_of found) (steps ++ rest))
    → (here : ℕ) × OnTheWay (arcs_of new) price sources sink origin here to before (map (residual_of found) rest)

-- the other arc is full, and leads to where the first one begins
abbrev pub IsFullInto : Net → ArcId → ArcId → Type 0
IsFullInto net arc other =
    (row : Row) → row_at net arc ≡ Some row
    → (into : Row) × (row_at net other ≡ Some into) × (into.cap ≤ into.flow) × (into.head.id.place ≡ row.tail.id.place)

-- the arc has no more flow than it must have
abbrev pub IsIdle : Net → ArcId → Type 0
IsIdle net arc = (row : Row) → row_at net arc ≡ Some row → row.flow ≤ row.low

-- one unit more flows along the arc, and no more is lost or paid; what leads to its tail and is full stays as it is
pub record Turned (old new : Net) (price : ℕ → ℕ) (arc : ArcId) : Type 0 where
  pub lows : SameLows old new
  pub more : flow_of_row (row_at new arc) ≡ flow_of_row (row_at old arc) + 1
  pub others : (b : ArcId) → b ≢ arc → IsFullInto old arc b → row_at new b ≡ row_at old b
  pub whole : (sources : List ℕ) (sink : ℕ) → IsWhole old price sources sink
      → IsWhole new price sources sink × (cost_of (arcs_of new) carried ≡ cost_of (arcs_of old) carried)

-- the reduced cost of the arc is 0
abbrev pub IsTightAt : Net → (ℕ → ℕ) → ArcId → Type 0
IsTightAt net price arc = (row : Row) → row_at net arc ≡ Some row → Tight price (arc_of arc row)

-- it is not
abbrev pub IsLooseAt : Net → (ℕ → ℕ) → ArcId → Type 0
IsLooseAt net price arc = (row : Row) → row_at net arc ≡ Some row → Tight price (arc_of arc row) → ⊥

-- the arc has room, and its reduced cost is 0
abbrev pub IsOpen : Net → (ℕ → ℕ) → ArcId → Type 0
IsOpen net price arc =
    (row : Row) → row_at net arc ≡ Some row → (row.flow < row.cap) × Tight price (arc_of arc row)

-- the arc has no room, or its reduced cost is not 0
abbrev pub IsBlocked : Net → (ℕ → ℕ) → ArcId → Type 0
IsBlocked net price arc =
    (row : Row) → row_at net arc ≡ Some row → (row.cap ≤ row.flow) ⊎ (Tight price (arc_of arc row) → ⊥)

-- so it is, or no way leads from its head to the place
abbrev pub IsClosedAt : Net → (ℕ → ℕ) → ℕ → ArcId → Type 0
IsClosedAt net price to arc =
    (row : Row) → row_at net arc ≡ Some row
    → (row.cap ≤ row.flow)
    ⊎ ((Tight price (arc_of arc row) → ⊥) ⊎ ((inside : ℕ → Bool) × IsTightCut net price [] row.head.id.place to inside))
