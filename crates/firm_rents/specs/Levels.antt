-- Rents in levels: an amount, followed by a number at each time; and their proof that a placement is the round's.
use Rattle.std.specs.Prelude.{◌≡◌, ℕ, zero, suc, ◌+◌, ◌-◌, ◌*◌, ◌<◌, ◌≤◌, ◌==◌, List, length, slice_index}
use Rattle.std.specs.Prelude.{if◌then◌else◌}
use Rattle.firm_rules.specs.declared.rounds.Choice.{Choice}
use Rattle.firm_rules.specs.declared.rounds.Choice.TheVariants.{On, Wait}
use Rattle.firm_rules.specs.Placement.{Case, load, IsPlace, IsLegal, slot_cost, task_cost, rank}
use Rattle.firm_rules.specs.Round.{IsRound}
use Rattle.firm_rules.specs.Placement.{task_at, choice_at}

-- a number at each level, compared lexicographically: one is at most another where it has the lesser number at the
-- first level at which they differ
abbrev pub IsAtMost : (ℕ → ℕ) → (ℕ → ℕ) → Type 0
IsAtMost one other = (level : ℕ) → ((before : ℕ) → before < level → one before ≡ other before) → one level ≤ other level

-- the time of a task's choice: tasks in order, and for each its choices as they rank
abbrev pub time : Case → ℕ → Choice → ℕ
time case i choice = i * (length case.slots + 2) + rank (length case.slots) (task_at case i).home choice

-- an amount, followed by nothing
abbrev pub amount : ℕ → ℕ → ℕ
amount n zero = n
amount n (suc t) = 0

-- a task's cost of a choice, followed by 1 at each time but the choice's own: so that of two the one that ranks
-- first is cheaper
abbrev pub cost_by_level : Case → ℕ → Choice → ℕ → ℕ
cost_by_level case i choice zero = task_cost case (task_at case i) choice
cost_by_level case i choice (suc t) = if t == time case i choice then 0 else 1

-- the same with the choice's rent: that of its machine, or that of waiting; only differences of rents count
abbrev pub paid_by_level : Case → (Choice → ℕ → ℕ) → ℕ → Choice → ℕ → ℕ
paid_by_level case rents i choice level = cost_by_level case i choice level + rents choice level

-- what the slot behind this number of tasks on a machine costs, with the rent of waiting
abbrev pub slot_by_level : Case → (Choice → ℕ → ℕ) → ℕ → ℕ → ℕ
slot_by_level case rents others level = amount (slot_cost case.spread others) level + rents Wait level

-- each task's choice is its cheapest, each machine's last task is paid for, and a free slot is worth no more than it
-- would cost, level by level
pub record SuitByLevel (case : Case) (rents : Choice → ℕ → ℕ) (placement : List Choice) : Type 0 where
  pub cheapest : (i : ℕ) → i < length case.tasks → (other : Choice) → IsPlace (length case.slots) other
      → IsAtMost (paid_by_level case rents i (choice_at placement i)) (paid_by_level case rents i other)
  pub worth : (j : ℕ) → j < length case.slots → 0 < load placement j
      → IsAtMost (slot_by_level case rents (load placement j - 1)) (rents (On j))
  pub free : (j : ℕ) → j < length case.slots → load placement j < slice_index case.slots j
      → IsAtMost (rents (On j)) (slot_by_level case rents (load placement j))

-- a legal placement that rents suit level by level is the round's
abbrev pub RentsShowFirst : Type 0
RentsShowFirst = (case : Case) (rents : Choice → ℕ → ℕ) (placement : List Choice) → IsLegal case placement
    → SuitByLevel case rents placement → IsRound case placement
