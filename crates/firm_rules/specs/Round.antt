-- The placement of a round, and what it changes.
use Rattle.std.specs.Prelude.{◌≡◌, ℕ, ◌+◌, ◌<◌, ◌≤◌, ◌==◌, not, false, min, List, [], ◌∷◌, ◌++◌, length, map, filter}
use Rattle.std.specs.Prelude.{Option, Some, None, if◌then◌else◌, bytes_eq, position, slice_index_or}
use Rattle.std.specs.List.{All, flat_map, position_or_len}
use Rattle.firm_rules.specs.Book.{TenantRows, machine_names, job_names, name_at}
use Rattle.firm_rules.specs.Placement.{Demand, Case, numbers, IsLegal, is_legal, placement_cost, runs_at, comes_before}
use Rattle.firm_rules.specs.declared.book.Machine.{Machine}
use Rattle.firm_rules.specs.declared.book.Task.{Task}
use Rattle.firm_rules.specs.declared.book.NewTask.{NewTask}
use Rattle.firm_rules.specs.declared.rounds.Choice.{Choice}
use Rattle.firm_rules.specs.declared.rounds.Choice.TheVariants.{On, Wait}
use Rattle.firm_rules.specs.declared.rounds.Change.{Change}
use Rattle.firm_rules.specs.declared.rounds.Change.TheVariants.{Start, Move, Preempt}

-- the round's placement: legal, no legal one costs less, and no legal one that costs as much comes before it
pub record IsRound (case : Case) (placement : List Choice) : Type 0 where
  pub legal : IsLegal case placement
  pub least : (other : List Choice) → IsLegal case other → placement_cost case placement ≤ placement_cost case other
  pub first : (other : List Choice) → IsLegal case other → placement_cost case other ≡ placement_cost case placement
      → comes_before (length case.slots) case.tasks other placement ≡ false

-- a task's choices in their order: its own machine if it runs, the other machines as they stand, waiting
abbrev pub choices : ℕ → Option ℕ → List Choice
choices machines home =
    map On (filter (runs_at home) (numbers machines))
    ++ (map On (filter (λ j. not (runs_at home j)) (numbers machines)) ++ Wait ∷ [])

-- all lists of choices, one for each task, in their order
abbrev pub placements : ℕ → List Demand → List (List Choice)
placements machines [] = [] ∷ []
placements machines (task ∷ tasks) =
    flat_map (λ choice. map (λ rest. choice ∷ rest) (placements machines tasks)) (choices machines task.home)

-- the legal placements in their order
abbrev pub legal_placements : Case → List (List Choice)
legal_placements case = filter (is_legal case) (placements (length case.slots) case.tasks)

-- the smallest of some numbers
abbrev pub smallest : List ℕ → ℕ
smallest [] = 0
smallest (n ∷ []) = n
smallest (n ∷ more ∷ rest) = min n (smallest (more ∷ rest))

-- what the cheapest legal placements cost
abbrev pub least_cost : Case → ℕ
least_cost case = smallest (map (placement_cost case) (legal_placements case))

-- the first of some lists
abbrev pub first_list : {X : Type 0} → List (List X) → List X
first_list [] = []
first_list (x ∷ _) = x

-- the first of the cheapest legal placements
abbrev pub round_placement : Case → List Choice
round_placement case =
    first_list (filter (λ placement. placement_cost case placement == least_cost case) (legal_placements case))

-- this placement, and no other, is the round's
pub record IsTheRound (case : Case) (placement : List Choice) : Type 0 where
  pub is : IsRound case placement
  pub alone : (other : List Choice) → IsRound case other → other ≡ placement

abbrev pub TheRoundIsTheFirst : Type 0
TheRoundIsTheFirst = (case : Case) → IsTheRound case (round_placement case)

-- the place of the machine of this name
abbrev pub place_of : TenantRows → List ℕ → ℕ
place_of rows name = position_or_len (bytes_eq name) (machine_names rows)

-- the place of the machine that a task runs on, if it runs
abbrev pub machine_place : TenantRows → Option (List ℕ) → Option ℕ
machine_place rows None = None
machine_place rows (Some name) = Some (place_of rows name)

-- the place of a task's job
abbrev pub job_place : TenantRows → Task → ℕ
job_place rows task = position_or_len (bytes_eq task.job) (job_names rows)

-- the weight of the job at a place
abbrev pub weight_at : TenantRows → ℕ → ℕ
weight_at rows place = slice_index_or (map (λ job. job.weight) rows.jobs) place 0

-- what a task brings to a round of these rows
abbrev pub demand_of : TenantRows → Task → Demand
demand_of rows task =
    record {
      home = machine_place rows task.machine;
      preferred = map (place_of rows) task.preferred;
      delay = weight_at rows (job_place rows task) + task.waited;
      job = job_place rows task;
    }

-- the job and the machines of a task that is to be added stand at these places
pub record IsFound (rows : TenantRows) (task : NewTask) : Type 0 where
  pub owner : position (bytes_eq task.job) (job_names rows) ≡ Some task.owner
  pub machines : task.machines.items ≡ map (place_of rows) task.preferred
  pub below : All (λ place. place < length rows.machines) task.machines.items

-- what a round of these rows is about
abbrev pub case_of : TenantRows → Case
case_of rows =
    record {
      spread = rows.limits.spread;
      churn = rows.limits.churn;
      remote = rows.limits.remote;
      slots = map (λ machine. machine.slots) rows.machines;
      jobs = length rows.jobs;
      limit = rows.limits.nodes;
      tasks = map (demand_of rows) rows.tasks;
    }

-- the name of the machine at a place
abbrev pub machine_at : TenantRows → ℕ → List ℕ
machine_at rows place = name_at (machine_names rows) place

-- what the choice changes for a task: where it waits it starts; where it runs it moves to another machine or is
-- preempted
abbrev pub changed : (ℕ → List ℕ) → List ℕ → Option (List ℕ) → Choice → List Change
changed machine_at name None (On j) = Start name (machine_at j) ∷ []
changed machine_at name None Wait = []
changed machine_at name (Some home) (On j) =
    if bytes_eq home (machine_at j) then [] else Move name home (machine_at j) ∷ []
changed machine_at name (Some home) Wait = Preempt name home ∷ []

-- the changes of one task
abbrev pub task_changes : TenantRows → Task → Choice → List Change
task_changes rows task choice = changed (machine_at rows) task.name task.machine choice

-- a task settled among these machines: on the one of its choice with no wait behind it, or left waiting once more,
-- which counts up to the patience
abbrev pub settled : ℕ → List Machine → Task → Choice → Task
settled patience machines task (On j) =
    record task { machine = Some (name_at (map (λ machine. machine.name) machines) j); waited = 0 }
settled patience machines task Wait = record task { machine = None; waited = min patience (task.waited + 1) }

-- the task after the round
abbrev pub task_after : TenantRows → Task → Choice → Task
task_after rows = settled rows.limits.patience rows.machines

-- what `f` makes of the elements of two lists, one by one
abbrev pub zipped : {A B C : Type 0} → (A → B → C) → List A → List B → List C
zipped f [] ys = []
zipped f (x ∷ xs) [] = []
zipped f (x ∷ xs) (y ∷ ys) = f x y ∷ zipped f xs ys

-- the changes of a placement, in order of submission
abbrev pub changes_made : TenantRows → List Choice → List Change
changes_made rows placement = flat_map (λ some. some) (zipped (task_changes rows) rows.tasks placement)

-- the rows after a placement
abbrev pub rows_after : TenantRows → List Choice → TenantRows
rows_after rows placement = record rows { tasks = zipped (task_after rows) rows.tasks placement }
