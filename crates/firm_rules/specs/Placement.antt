-- Placements of tasks on machines: which are legal, what they cost, and their order.
use Rattle.std.specs.Prelude.{◌≡◌, ℕ, zero, suc, not, ◌+◌, ◌-◌, ◌*◌, ◌/◌, ◌<◌, ◌≤◌, ◌==◌, ◌&&◌, ◌||◌, Bool, true, false}
use Rattle.std.specs.Prelude.{nat_lt, nat_le, ⊤, List, [], ◌∷◌, ◌++◌, length, count_by, slice_index, Option, Some, None}
use Rattle.std.specs.Prelude.{if◌then◌else◌, slice_index_or}
use Rattle.std.specs.List.{All, list_all, list_any}
use Rattle.firm_rules.specs.declared.rounds.Choice.{Choice}
use Rattle.firm_rules.specs.declared.rounds.Choice.TheVariants.{On, Wait}

-- what a task brings to a round: the place of the machine that it runs on, if it runs, the places of the machines that
-- it prefers, what a wait costs apart from churn, and the place of its job, which the network alone reads
pub record Demand : Type 0 where
  pub home : Option ℕ
  pub preferred : List ℕ
  pub delay : ℕ
  pub job : ℕ

-- what a round is about: what each further task on a machine costs more than the one before, what it costs to take
-- a running task from its machine and to place a task with preferences on none of them, the slots of each machine, the
-- tasks in order of submission; and how many jobs there are and the tenant's limit of nodes, which the network alone
-- reads: no placement's legality, cost or order rests on them
pub record Case : Type 0 where
  pub spread : ℕ
  pub churn : ℕ
  pub remote : ℕ
  pub slots : List ℕ
  pub jobs : ℕ
  pub limit : ℕ
  pub tasks : List Demand

-- the task of this number; past the last, one that waits and asks for nothing
abbrev pub task_at : Case → ℕ → Demand
task_at case i = slice_index_or case.tasks i (record { home = None; preferred = []; delay = 0; job = 0 })

-- the choice of the task of this number; past the last, to wait
abbrev pub choice_at : List Choice → ℕ → Choice
choice_at placement i = slice_index_or placement i Wait

-- the choice of a task to stay where it is
abbrev pub home_choice : Option ℕ → Choice
home_choice (Some home) = On home
home_choice None = Wait

-- the numbers below n
abbrev pub numbers : ℕ → List ℕ
numbers zero = []
numbers (suc n) = numbers n ++ n ∷ []

-- the sum of `f j` over the numbers below n
abbrev pub total : (ℕ → ℕ) → ℕ → ℕ
total f zero = 0
total f (suc n) = total f n + f n

-- the choice goes to this machine
abbrev pub goes_to : ℕ → Choice → Bool
goes_to j (On k) = k == j
goes_to j Wait = false

-- how many tasks a placement has on a machine
abbrev pub load : List Choice → ℕ → ℕ
load placement j = count_by (goes_to j) placement

-- the choice is a machine among this number of them, or to wait
abbrev pub IsPlace : ℕ → Choice → Type 0
IsPlace machines (On j) = j < machines
IsPlace machines Wait = ⊤

-- one choice for each task, each of them a machine of the case or to wait, and no machine with more tasks than slots
pub record IsLegal (case : Case) (placement : List Choice) : Type 0 where
  pub one_each : length placement ≡ length case.tasks
  pub places : All (IsPlace (length case.slots)) placement
  pub room : (j : ℕ) → j < length case.slots → load placement j ≤ slice_index case.slots j

-- the same, as a test
abbrev pub is_place : ℕ → Choice → Bool
is_place machines (On j) = nat_lt j machines
is_place machines Wait = true

abbrev pub is_legal : Case → List Choice → Bool
is_legal case placement =
    (length placement == length case.tasks)
    && list_all (is_place (length case.slots)) placement
    && list_all (λ j. nat_le (load placement j) (slice_index case.slots j)) (numbers (length case.slots))

-- the test says yes to the legal placements and to no others
pub record IsJudged (case : Case) (placement : List Choice) : Type 0 where
  pub yes : is_legal case placement ≡ true → IsLegal case placement
  pub only : IsLegal case placement → is_legal case placement ≡ true

abbrev pub LegalityIsJudged : Type 0
LegalityIsJudged = (case : Case) (placement : List Choice) → IsJudged case placement

-- whether a task runs on this machine
abbrev pub runs_at : Option ℕ → ℕ → Bool
runs_at None j = false
runs_at (Some home) j = home == j

-- whether the choice takes a running task from its machine
abbrev pub leaves : Option ℕ → Choice → Bool
leaves None choice = false
leaves (Some home) (On j) = not (home == j)
leaves (Some home) Wait = true

-- whether the choice keeps a running task on its machine
abbrev pub stays : Option ℕ → Choice → Bool
stays home (On j) = runs_at home j
stays home Wait = false

-- whether the task prefers this machine
abbrev pub prefers : Demand → ℕ → Bool
prefers task j = list_any (λ k. k == j) task.preferred

-- whether this machine is remote for the task: it has preferences, this is none of them, and it does not run there
abbrev pub is_remote : Demand → ℕ → Bool
is_remote task j = nat_lt 0 (length task.preferred) && not (prefers task j) && not (runs_at task.home j)

-- what the choice costs the task itself: churn where it is taken from its machine, its delay where it waits, and the
-- tenant's `remote` where it is placed on a machine that is remote for it
abbrev pub task_cost : Case → Demand → Choice → ℕ
task_cost case task (On j) =
    (if leaves task.home (On j) then case.churn else 0) + (if is_remote task j then case.remote else 0)
task_cost case task Wait = task.delay + (if leaves task.home Wait then case.churn else 0)

-- what their choices cost these tasks
abbrev pub tasks_cost : Case → List Demand → List Choice → ℕ
tasks_cost case [] placement = 0
tasks_cost case (task ∷ tasks) [] = 0
tasks_cost case (task ∷ tasks) (choice ∷ placement) = task_cost case task choice + tasks_cost case tasks placement

-- what a task costs in the slot of this number, counted from 0, of those that a machine fills one after the other:
-- nothing in the first, in each further one `spread` more than in the one before
abbrev pub slot_cost : ℕ → ℕ → ℕ
slot_cost spread k = k * spread

-- what n tasks on one machine cost: nothing for the first, for each further one `spread` more than for the one before
abbrev pub load_cost : ℕ → ℕ → ℕ
load_cost spread n = spread * (n * (n - 1) / 2)

-- the cost of a placement: the loads of the machines, and what the choices cost the tasks
abbrev pub placement_cost : Case → List Choice → ℕ
placement_cost case placement =
    total (λ j. load_cost case.spread (load placement j)) (length case.slots) + tasks_cost case case.tasks placement

-- how a task's choices rank: its own machine, the other machines as they stand, waiting
abbrev pub rank : ℕ → Option ℕ → Choice → ℕ
rank machines home (On j) = if runs_at home j then 0 else suc j
rank machines home Wait = suc machines

-- the first of two placements comes before: at the first task on which they differ, its choice ranks first
abbrev pub comes_before : ℕ → List Demand → List Choice → List Choice → Bool
comes_before machines [] p q = false
comes_before machines (task ∷ tasks) [] q = false
comes_before machines (task ∷ tasks) (a ∷ p) [] = false
comes_before machines (task ∷ tasks) (a ∷ p) (b ∷ q) =
    nat_lt (rank machines task.home a) (rank machines task.home b)
    || (rank machines task.home a == rank machines task.home b && comes_before machines tasks p q)
