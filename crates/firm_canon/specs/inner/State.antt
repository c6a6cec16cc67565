-- The state of a round's choice, and the invariant of its steps. No public clause cites this module.
use Rattle.std.specs.Prelude.{◌≡◌, ◌+◌, ◌<◌, ◌≤◌, ℕ, Bool, true, List, length, if◌then◌else◌}
use Rattle.firm_rules.specs.declared.rounds.Choice.{Choice}
use Rattle.firm_rules.specs.ArenaUse.{arena_arcs}
use Rattle.firm_paths.specs.NetArcs.{limits_of}
use Rattle.firm_paths.specs.Paths.{ArePaths}
use Rattle.firm_paths.specs.PriceTable.{price_of}
use Rattle.firm_paths.specs.Visits.{paths_of}
use Rattle.firm_paths.specs.Workspace.{HasSearched}
use Rattle.firm_graph.specs.Ids.{view_of}
use Rattle.firm_graph.specs.View.{View, flows, spot_of}
use Rattle.firm_graph.specs.Network.{demand}
use Rattle.firm_graph.specs.declared.network.Node.TheVariants.{Hub, Task}
use Rattle.firm_canon.specs.inner.Graphs.{IsSameGraph}
use Rattle.firm_canon.specs.inner.Choosing.{Keeps, IsSpent, best}
use Rattle.firm_canon.specs.declared.choosing.Choosing.{Choosing}
use Rattle.firm_canon.specs.declared.reads.Wishes.{Wishes}
use Rattle.firm_graph.specs.declared.network.Key.TheVariants.{Through, Wide}

-- what the net of the graph shows, the prices of its places, and the choices so far
abbrev pub view : Choosing → View
view s = view_of s.graph.now

abbrev pub price : Choosing → ℕ → ℕ
price s = price_of s.prices.now

abbrev pub prefix : Choosing → List Choice
prefix s = s.chosen.now.items

-- the flow is least and holds the choices so far
pub record IsReady (s : Choosing) : Type 0 where
  pub prices_fit : s.prices.now.limits ≡ limits_of s.graph.now.net
  pub scratch_fits : s.scratch.now.limits ≡ limits_of s.graph.now.net
  pub keeps : Keeps (view s) (price s) (prefix s)
  pub spent : (j : ℕ) → j < s.spent → IsSpent (view s).case (prefix s) (best (view s) (prefix s)) (Through j)

-- the state is ready for the next task, whose machines were read
pub record IsReadyFor (s : Choosing) (wishes : Wishes) : Type 0 where
  pub ready : IsReady s
  pub next : length (prefix s) < length (view s).case.tasks
  pub home : wishes.home ≡ (demand (view s).case (length (prefix s))).home
  pub places : wishes.places.items ≡ (demand (view s).case (length (prefix s))).preferred

-- the last search found the ways to a place
abbrev pub HasWays : Choosing → ℕ → Type 0
HasWays s to = ArePaths s.graph.now.net (price s) to (paths_of s.scratch.now.visits)

-- the place of the hub, or of a task
abbrev pub root : View → ℕ → Bool → ℕ
root v i at_hub = if at_hub then spot_of v Hub else spot_of v (Task i)

-- if there was a search it found the ways to the next task or, where its unit is at the hub, to the hub
pub record HasWaysBack (s : Choosing) (at_hub : Bool) : Type 0 where
  pub ways : s.searched ≡ true → HasWays s (root (view s) (length (prefix s)) at_hub)
  pub hub : at_hub ≡ true → flows (view s) (Wide (length (prefix s))) ≡ 1

-- how many searches may still be made for the choice under way
abbrev pub left : Choosing → ℕ
left s = if s.searched then 0 else 1

-- of the graph the flow alone has changed, at no cost, and no choice was made; the searches that were made, with those
-- left, are at most `most` more than were left before
pub record GoesOn (old new : Choosing) (most : ℕ) : Type 0 where
  pub same : IsSameGraph old.graph.now new.graph.now
  pub graph : new.graph.ghost_name ≡ old.graph.ghost_name
  pub scratch : new.scratch.ghost_name ≡ old.scratch.ghost_name
  pub prices : new.prices ≡ old.prices
  pub chosen : new.chosen ≡ old.chosen
  pub best : best (view new) (prefix new) ≡ best (view old) (prefix old)
  pub made : ℕ
  pub few : made + left new ≤ most + left old
  pub searched : HasSearched old.scratch.now new.scratch.now made (arena_arcs old.graph.now.rows)
  pub ready : IsReady new

-- no unit was sent
abbrev pub IsUnchanged : Choosing → Choosing → Type 0
IsUnchanged old new = new.graph.now ≡ old.graph.now
