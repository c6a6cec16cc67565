-- The order of placements in words, above its test.
use Rattle.std.specs.Prelude.{◌≡◌, ℕ, zero, suc, ◌<◌, true, List, [], ◌∷◌, length, take, Option, None, slice_index_or}
use Rattle.firm_rules.specs.declared.rounds.Choice.{Choice}
use Rattle.firm_rules.specs.declared.rounds.Choice.TheVariants.{Wait}
use Rattle.firm_rules.specs.Placement.{Demand, Case, IsLegal, rank, comes_before}

-- the place of the machine that the i-th of these tasks runs on, if it runs
abbrev pub home_at : List Demand → ℕ → Option ℕ
home_at [] i = None
home_at (task ∷ tasks) zero = task.home
home_at (task ∷ tasks) (suc i) = home_at tasks i

-- two placements give the tasks before this one the same choices, and its own choice ranks first in the first placement
pub record DiffersFirst (machines : ℕ) (tasks : List Demand) (p q : List Choice) : Type 0 where
  pub task : ℕ
  pub there : task < length tasks
  pub same : take task p ≡ take task q
  pub ranks : rank machines (home_at tasks task) (slice_index_or p task Wait)
      < rank machines (home_at tasks task) (slice_index_or q task Wait)

-- the test says yes exactly where there is such a task
pub record IsOrdered (case : Case) (p q : List Choice) : Type 0 where
  pub yes : comes_before (length case.slots) case.tasks p q ≡ true → DiffersFirst (length case.slots) case.tasks p q
  pub only : DiffersFirst (length case.slots) case.tasks p q → comes_before (length case.slots) case.tasks p q ≡ true

abbrev pub FirstDifferenceDecides : Type 0
FirstDifferenceDecides = (case : Case) (p q : List Choice) → IsLegal case p → IsLegal case q → IsOrdered case p q
