-- What a round gains where it preempts a task for another.
use Rattle.std.specs.Prelude.{◌≡◌, ℕ, ◌+◌, ◌<◌, ◌≤◌, ◌⊎◌, false, List, Some, slice_get, if◌then◌else◌}
use Rattle.firm_rules.specs.Book.{TenantRows}
use Rattle.firm_rules.specs.Placement.{Demand, Case, load, runs_at, is_remote, slot_cost}
use Rattle.firm_rules.specs.Round.{IsRound, case_of, demand_of, job_place, weight_at}
use Rattle.firm_rules.specs.Sound.{AreSound}
use Rattle.firm_rules.specs.SoundBook.{AreInForm}
use Rattle.firm_rules.specs.declared.book.Task.{Task}
use Rattle.firm_rules.specs.declared.rounds.Choice.{Choice}
use Rattle.firm_rules.specs.declared.rounds.Choice.TheVariants.{On, Wait}

-- the task at this place runs on the machine, and the placement lets it wait
pub record IsPreempted (case : Case) (placement : List Choice) (machine place : ℕ) (task : Demand) : Type 0 where
  pub there : slice_get case.tasks place ≡ Some task
  pub home : task.home ≡ Some machine
  pub waits : slice_get placement place ≡ Some Wait

-- the task at this place runs on another machine or waits, and the placement brings it to this one
pub record IsBrought (case : Case) (placement : List Choice) (machine place : ℕ) (task : Demand) : Type 0 where
  pub there : slice_get case.tasks place ≡ Some task
  pub elsewhere : runs_at task.home machine ≡ false
  pub placed : slice_get placement place ≡ Some (On machine)

-- what it costs to preempt the one task and to bring the other to its machine, apart from the churn of the other
abbrev pub exchange_cost : Case → ℕ → Demand → Demand → ℕ
exchange_cost case machine preempted brought =
    preempted.delay + case.churn + (if is_remote brought machine then case.remote else 0)

-- that is at most what the other's wait would cost, and less where the other was submitted later
pub record IsGain (case : Case) (machine from : ℕ) (preempted : Demand) (to : ℕ) (brought : Demand) : Type 0 where
  pub gain : exchange_cost case machine preempted brought ≤ brought.delay
  pub tie : exchange_cost case machine preempted brought ≡ brought.delay → to < from

abbrev pub PreemptionsGain : Type 0
PreemptionsGain =
    (case : Case) (placement : List Choice) → IsRound case placement
    → (machine from to : ℕ) (preempted brought : Demand)
    → IsPreempted case placement machine from preempted → IsBrought case placement machine to brought
    → IsGain case machine from preempted to brought

-- the weight of a task's job
abbrev pub task_weight : TenantRows → Task → ℕ
task_weight rows task = weight_at rows (job_place rows task)

-- the weight of the one task and churn are at most the weight of the other and the patience, and less where the other
-- was submitted later
pub record IsWithinPatience (rows : TenantRows) (from : ℕ) (preempted : Task) (to : ℕ) (brought : Task) : Type 0 where
  pub gain : task_weight rows preempted + rows.limits.churn ≤ task_weight rows brought + rows.limits.patience
  pub tie : task_weight rows preempted + rows.limits.churn ≡ task_weight rows brought + rows.limits.patience → to < from

-- a round of sound rows in form preempts a task for another only so
abbrev pub PatienceBoundsPreemptions : Type 0
PatienceBoundsPreemptions =
    (rows : TenantRows) (placement : List Choice) → AreSound rows → AreInForm rows → IsRound (case_of rows) placement
    → (machine from to : ℕ) (preempted brought : Task)
    → slice_get rows.tasks from ≡ Some preempted → slice_get rows.tasks to ≡ Some brought
    → IsPreempted (case_of rows) placement machine from (demand_of rows preempted)
    → IsBrought (case_of rows) placement machine to (demand_of rows brought)
    → IsWithinPatience rows from preempted to brought

-- a task that the placement brings to the machine, and its place
pub record SomeBrought (case : Case) (placement : List Choice) (machine : ℕ) : Type 0 where
  pub place : ℕ
  pub task : Demand
  pub brought : IsBrought case placement machine place task

-- a round of sound rows in form preempts a task only where a slot for one more task on its machine costs more than its
-- weight and churn, or where it brings another to the machine
abbrev pub PreemptionsHaveCauses : Type 0
PreemptionsHaveCauses =
    (rows : TenantRows) (placement : List Choice) → AreSound rows → AreInForm rows → IsRound (case_of rows) placement
    → (machine place : ℕ) (task : Task) → slice_get rows.tasks place ≡ Some task
    → IsPreempted (case_of rows) placement machine place (demand_of rows task)
    → (task_weight rows task + rows.limits.churn < slot_cost rows.limits.spread (load placement machine))
    ⊎ SomeBrought (case_of rows) placement machine
