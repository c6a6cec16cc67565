-- Rents: a number for each machine, and what they prove of the cost of placements.
use Rattle.std.specs.Prelude.{◌≡◌, ℕ, zero, suc, ◌+◌, ◌-◌, ◌*◌, ◌^◌, ◌<◌, ◌≤◌, ◌↔◌, min, max, List, [], ◌∷◌, length}
use Rattle.std.specs.Prelude.{slice_index}
use Rattle.firm_rules.specs.declared.rounds.Choice.{Choice}
use Rattle.firm_rules.specs.declared.rounds.Choice.TheVariants.{On, Wait}
use Rattle.firm_rules.specs.Placement.{Demand, Case, total, load, IsPlace, IsLegal, task_cost, load_cost, slot_cost}
use Rattle.firm_rules.specs.Placement.{choice_at, placement_cost, task_at}

-- one rent for each machine, none of them huge
pub record AreRents (machines : ℕ) (rents : List ℕ) : Type 0 where
  pub one_each : length rents ≡ machines
  pub small : (j : ℕ) → slice_index rents j ≤ 2 ^ 40

-- none of the rents is above its bound
abbrev pub IsBelow : List ℕ → List ℕ → Type 0
IsBelow rents bounds = (j : ℕ) → slice_index rents j ≤ slice_index bounds j

-- the rent of a choice: that of its machine, and 0 for waiting
abbrev pub rent : List ℕ → Choice → ℕ
rent rents (On j) = slice_index rents j
rent rents Wait = 0

-- what a choice costs the task with its rent
abbrev pub paid : Case → List ℕ → Demand → Choice → ℕ
paid case rents task choice = task_cost case task choice + rent rents choice

-- the least that the task can pay: to wait, or on one of the first machines
abbrev pub least_on : Case → List ℕ → Demand → ℕ → ℕ
least_on case rents task zero = paid case rents task Wait
least_on case rents task (suc j) = min (least_on case rents task j) (paid case rents task (On j))

-- the least that the task can pay
abbrev pub least_paid : Case → List ℕ → Demand → ℕ
least_paid case rents task = least_on case rents task (length case.slots)

-- the least that each of these tasks can pay, together
abbrev pub all_least : Case → List ℕ → List Demand → ℕ
all_least case rents [] = 0
all_least case rents (task ∷ tasks) = least_paid case rents task + all_least case rents tasks

-- what n tasks on one machine bring in rent beyond what they cost as a load; 0 if they bring less
abbrev pub takings : ℕ → ℕ → ℕ → ℕ
takings spread rent n = n * rent - load_cost spread n

-- a machine's gain: the most that any number of tasks, up to its slots, can bring
abbrev pub gain : ℕ → ℕ → ℕ → ℕ
gain spread rent zero = 0
gain spread rent (suc n) = max (gain spread rent n) (takings spread rent (suc n))

-- the gains of all machines
abbrev pub gains : Case → List ℕ → ℕ
gains case rents =
    total (λ j. gain case.spread (slice_index rents j) (slice_index case.slots j)) (length case.slots)

-- whatever the rents are, no legal placement costs less than what the tasks pay at least, less the gains
abbrev pub RentsBound : Type 0
RentsBound = (case : Case) (rents : List ℕ) (placement : List Choice) → IsLegal case placement
    → all_least case rents case.tasks ≤ placement_cost case placement + gains case rents

-- the rents show that the placement is least: its cost plus the gains equals the least that the tasks pay
abbrev pub Show : Case → List ℕ → List Choice → Type 0
Show case rents placement =
    placement_cost case placement + gains case rents ≡ all_least case rents case.tasks

abbrev pub RentsShowLeast : Type 0
RentsShowLeast = (case : Case) (rents : List ℕ) (placement : List Choice) → Show case rents placement
    → (other : List Choice) → IsLegal case other → placement_cost case placement ≤ placement_cost case other

-- a legal placement costs more than the bound by no less than what its choice for a task costs that task, with rent,
-- beyond the least that the task can pay
abbrev pub EachChoiceCostsItsExcess : Type 0
EachChoiceCostsItsExcess = (case : Case) (rents : List ℕ) (placement : List Choice) → IsLegal case placement
    → (i : ℕ) → i < length case.tasks
    → all_least case rents case.tasks + paid case rents (task_at case i) (choice_at placement i)
    ≤ placement_cost case placement + gains case rents + least_paid case rents (task_at case i)

-- each legal placement in which the task of this number has the choice costs at least this much more than this one
abbrev pub CostsAtLeast : Case → List Choice → ℕ → Choice → ℕ → Type 0
CostsAtLeast case placement i choice more = (another : List Choice) → IsLegal case another
    → choice_at another i ≡ choice → placement_cost case placement + more ≤ placement_cost case another

-- the same, compared with each legal placement that the rents show and in which the task has the chosen one
abbrev pub CostsMore : Case → List ℕ → ℕ → Choice → Choice → ℕ → Type 0
CostsMore case rents i chosen other more = (placement : List Choice) → IsLegal case placement
    → Show case rents placement → choice_at placement i ≡ chosen → CostsAtLeast case placement i other more

-- what makes rents show the placement: each task pays its least, each machine's last task is paid for, and a free slot
-- is worth no more than it would cost
pub record Suit (case : Case) (rents : List ℕ) (placement : List Choice) : Type 0 where
  pub cheapest : (i : ℕ) → i < length case.tasks → (other : Choice) → IsPlace (length case.slots) other
      → paid case rents (task_at case i) (choice_at placement i) ≤ paid case rents (task_at case i) other
  pub worth : (j : ℕ) → j < length case.slots
      → slot_cost case.spread (load placement j - 1) ≤ slice_index rents j
  pub free : (j : ℕ) → j < length case.slots → load placement j < slice_index case.slots j
      → slice_index rents j ≤ slot_cost case.spread (load placement j)

-- rents that show a legal placement to be least are those that suit it
abbrev pub RentsThatShowSuit : Type 0
RentsThatShowSuit = (case : Case) (rents : List ℕ) (placement : List Choice) → IsLegal case placement
    → Show case rents placement ↔ Suit case rents placement
