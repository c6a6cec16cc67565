-- Numbers of searches and of their looks.
use Rattle.std.specs.Prelude.{ℕ, ◌+◌, ◌*◌, ◌^◌, ◌≤◌}
use Rattle.firm_paths.specs.Workspace.{Workspace, HasSearched}

-- at most `most` searches were made in a net of `arcs` arcs, each with at most two looks for each arc
pub record HasMadeUpTo (old new : Workspace) (most arcs : ℕ) : Type 0 where
  pub made : ℕ
  pub few : made ≤ most
  pub searched : HasSearched old new made arcs

-- looks in a net of `arcs` arcs: at most two at each arc in each of `whole` searches, and in all others together no
-- more than in one such search for each binary digit of the number of arcs, and in two more
pub record HasLookedUpTo (old new : Workspace) (whole arcs : ℕ) : Type 0 where
  pub few : (digits : ℕ) → arcs ≤ 2 ^ digits → new.looks ≤ old.looks + (whole + digits + 2) * (2 * arcs)
