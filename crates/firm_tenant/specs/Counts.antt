-- The counts of a tenant's rounds.
use Rattle.std.specs.Prelude.{ℕ, ◌+◌, ◌*◌, ◌≤◌}
use Rattle.firm_paths.specs.Workspace.{Workspace}
use Rattle.firm_rules.specs.Book.{Book}
use Rattle.firm_rules.specs.Limits.{TenantLimits}

-- few searches, each with at most two looks for each arc, as of a round of some tasks and machines within the limits
pub record IsOfOneRound (limits : TenantLimits) (space : Workspace) : Type 0 where
  pub tasks : ℕ
  pub machines : ℕ
  pub nodes : tasks + machines ≤ limits.nodes
  pub searches : space.searches ≤ tasks * (machines + 4)
  pub looks : space.looks ≤ tasks * (machines + 4) * (2 * limits.arcs)

-- a count was begun for no more rounds than commands were given, and what was counted since is of one round
pub record HasCountedWithin (book : Book) (space : Workspace) : Type 0 where
  pub begins : space.begins ≤ book.given
  pub last : IsOfOneRound book.rows.limits space
