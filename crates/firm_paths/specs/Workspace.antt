-- The value of a `Scratch` in contracts, and its counts of searches.
use Rattle.std.specs.Prelude.{◌≡◌, ℕ, List, ◌+◌, ◌-◌, ◌*◌, ◌^◌, ◌<◌, ◌≤◌}
use Rattle.firm_paths.specs.declared.search.Visit.{Visit}

-- the limits of the net for whose searches the room was reserved, how often `begin` was called, how many searches and
-- looks were counted since, and the visits of the last search for tight paths
pub record Workspace : Type 0 where
  pub limits : ℕ × ℕ
  pub begins : ℕ
  pub searches : ℕ
  pub looks : ℕ
  pub visits : List Visit

-- a counter grew by this number where there was room for it below 2^64; else it stands at 2^64 - 1, and did not fall
pub record HasCounted (old new more : ℕ) : Type 0 where
  pub exact : old + more < 2 ^ 64 → new ≡ old + more
  pub full : old < 2 ^ 64 → 2 ^ 64 ≤ old + more → new ≡ 2 ^ 64 - 1
  pub kept : old ≤ new
  pub no_more : new ≤ old + more

-- `made` searches were made in a net of `arcs` arcs: each counts one, with at most two looks for each arc
pub record HasSearched (old new : Workspace) (made arcs : ℕ) : Type 0 where
  pub limits : new.limits ≡ old.limits
  pub begins : new.begins ≡ old.begins
  pub searches : HasCounted old.searches new.searches made
  pub looks_kept : old.looks ≤ new.looks
  pub looks : new.looks ≤ old.looks + made * (2 * arcs)
