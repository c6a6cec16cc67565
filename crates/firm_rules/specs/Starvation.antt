-- What a round does that leaves a task waiting which has waited long.
use Rattle.std.specs.Prelude.{◌≡◌, ℕ, ◌+◌, ◌<◌, ◌≤◌, max, List, length, Some, None, slice_get, slice_index}
use Rattle.std.specs.List.{All}
use Rattle.firm_rules.specs.Limits.{TenantLimits}
use Rattle.firm_rules.specs.Book.{TenantRows}
use Rattle.firm_rules.specs.Placement.{Case, load, slot_cost}
use Rattle.firm_rules.specs.Round.{IsRound, case_of}
use Rattle.firm_rules.specs.Sound.{AreSound}
use Rattle.firm_rules.specs.SoundBook.{AreInForm}
use Rattle.firm_rules.specs.declared.book.Task.{Task}
use Rattle.firm_rules.specs.declared.rounds.Choice.{Choice}
use Rattle.firm_rules.specs.declared.rounds.Choice.TheVariants.{On, Wait}

-- no job weighs more than this
abbrev pub WeighAtMost : ℕ → TenantRows → Type 0
WeighAtMost most rows = All (λ job. job.weight ≤ most) rows.jobs

-- a wait so long that a round passes it over only for tasks that have waited too, where no job weighs more than `most`
abbrev pub long_wait : TenantLimits → ℕ → ℕ
long_wait limits most = limits.remote + max (slot_cost limits.spread 63) (most + limits.churn)

-- the task at this place has waited that long, and the placement lets it wait
pub record IsPassedOver (rows : TenantRows) (placement : List Choice) (most place : ℕ) (task : Task) : Type 0 where
  pub there : slice_get rows.tasks place ≡ Some task
  pub long : long_wait rows.limits most ≤ task.waited
  pub waits : slice_get placement place ≡ Some Wait

-- each machine has as many tasks as slots
abbrev pub AreFull : Case → List Choice → Type 0
AreFull case placement = (j : ℕ) → j < length case.slots → load placement j ≡ slice_index case.slots j

-- each task that is placed was waiting too, for more rounds than the one passed over less `most` and `remote`
abbrev pub HaveWaited : TenantRows → List Choice → ℕ → Task → Type 0
HaveWaited rows placement most passed =
    (place machine : ℕ) (task : Task) → slice_get rows.tasks place ≡ Some task
    → slice_get placement place ≡ Some (On machine)
    → (task.machine ≡ None) × (passed.waited < task.waited + most + rows.limits.remote)

-- a round of sound rows in form passes over a wait of that length only where each machine is full of such tasks
abbrev pub LongWaitsYieldToLongWaits : Type 0
LongWaitsYieldToLongWaits =
    (rows : TenantRows) (placement : List Choice) (most : ℕ) → AreSound rows → AreInForm rows → WeighAtMost most rows
    → IsRound (case_of rows) placement
    → (place : ℕ) (task : Task) → IsPassedOver rows placement most place task
    → AreFull (case_of rows) placement × HaveWaited rows placement most task
