-- A unit on its way along a path.
use Rattle.std.specs.Prelude.{◌≡◌, ℕ, ◌+◌, ◌*◌, ◌<◌, ◌≤◌, List, [], ◌∷◌, ◌++◌, length, All}
use Rattle.firm_net.specs.Net.{Net}
use Rattle.firm_net.specs.declared.row.ArcId.{ArcId}
use Rattle.firm_paths.specs.Network.{Residual, AreValid}
use Rattle.firm_paths.specs.NetArcs.{arcs_of}
use Rattle.firm_paths.specs.Paths.{IsHighest}
use Rattle.firm_flow.specs.Flow.{IsWithinBounds, cost_of, carried}
use Rattle.firm_flow.specs.Balance.{Balanced, OnTheWay}
use Rattle.firm_flow.specs.NetFlow.{dearest_path}

-- pushes along the steps bring a unit from the start of the path to its end
abbrev pub Moves : Net → List (Residual ℕ ArcId) → Net → Type 0
Moves old steps new =
    (price : ℕ → ℕ) (sources : List ℕ) (sink origin at to before : ℕ)
    → OnTheWay (arcs_of old) price sources sink origin at to before steps
    → OnTheWay (arcs_of new) price sources sink origin to to before []

-- one unit was sent from each of the sources, at least cost
pub record IsSent (net : Net) (price : ℕ → ℕ) (sources : List ℕ) (sink : ℕ) (total : ℕ) : Type 0 where
  pub balanced : Balanced (arcs_of net) sources sink carried
  pub valid : AreValid (arcs_of net) price
  pub within : IsWithinBounds (arcs_of net) carried
  pub lows : All (λ a. a.low ≡ 0) (arcs_of net)
  pub highest : IsHighest net price sink
  pub bound : price sink ≤ length sources * dearest_path
  pub cost : cost_of (arcs_of net) carried ≡ total
  pub small : total ≤ length sources * (4096 * dearest_path)

-- some sources have sent their unit, fewer than nodes fit
abbrev pub SentSoFar : Net → (ℕ → ℕ) → ℕ → Type 0
SentSoFar net price sink = (sources : List ℕ) × (total : ℕ) × (length sources < 4096)
    × IsSent net price sources sink total

-- one unit more was sent, at this cost
abbrev pub SendsMore : Net → (ℕ → ℕ) → Net → (ℕ → ℕ) → ℕ → ℕ → ℕ → Type 0
SendsMore old p new q from sink more =
    (sources : List ℕ) (total : ℕ) → length sources < 4096 → IsSent old p sources sink total
    → IsSent new q (sources ++ from ∷ []) sink (total + more)
