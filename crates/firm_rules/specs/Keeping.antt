-- What keeps the rows of a tenant sound and in form.
use Rattle.std.specs.Prelude.{◌≡◌, ℕ, ◌≤◌, true, false, List, length, bytes_eq}
use Rattle.std.specs.List.{All, IsDistinct}
use Rattle.firm_rules.specs.Names.{is_name, is_among}
use Rattle.firm_rules.specs.Preferences.{most_preferences}
use Rattle.firm_rules.specs.Book.{TenantRows, machine_names, job_names, task_names, with_machine, with_job, with_task}
use Rattle.firm_rules.specs.Book.{without_machine, without_job, without_task, has_tasks}
use Rattle.firm_rules.specs.ArenaUse.{FitsLimits}
use Rattle.firm_rules.specs.Placement.{IsLegal}
use Rattle.firm_rules.specs.Round.{case_of, rows_after}
use Rattle.firm_rules.specs.Sound.{AreSound}
use Rattle.firm_rules.specs.SoundBook.{AreInForm}
use Rattle.firm_rules.specs.declared.rounds.Choice.{Choice}

-- the rows are sound and in form
pub record AreSoundInForm (rows : TenantRows) : Type 0 where
  pub sound : AreSound rows
  pub form : AreInForm rows

-- the rows with a new machine, job or task of a name in form, within its range and the limits
abbrev pub MachinesCome : TenantRows → Type 0
MachinesCome rows =
    (name : List ℕ) (slots : ℕ) → is_name name ≡ true → is_among (machine_names rows) name ≡ false
    → 1 ≤ slots → slots ≤ 64 → FitsLimits (with_machine rows name slots)
    → AreSoundInForm (with_machine rows name slots)

abbrev pub JobsCome : TenantRows → Type 0
JobsCome rows =
    (name : List ℕ) (weight : ℕ) → is_name name ≡ true → is_among (job_names rows) name ≡ false
    → 1 ≤ weight → weight ≤ 1000000 → FitsLimits (with_job rows name weight)
    → AreSoundInForm (with_job rows name weight)

abbrev pub TasksCome : TenantRows → Type 0
TasksCome rows =
    (job name : List ℕ) (preferred : List (List ℕ)) → is_name name ≡ true → is_among (task_names rows) name ≡ false
    → is_among (job_names rows) job ≡ true → All (λ machine. is_among (machine_names rows) machine ≡ true) preferred
    → length preferred ≤ most_preferences → IsDistinct bytes_eq preferred
    → FitsLimits (with_task rows job name preferred) → AreSoundInForm (with_task rows job name preferred)

-- rows that are sound and in form stay so as a machine, a job or a task comes or goes, and after a legal placement
pub record StaySoundInForm (rows : TenantRows) : Type 0 where
  pub machines : MachinesCome rows
  pub jobs : JobsCome rows
  pub tasks : TasksCome rows
  pub drained : (name : List ℕ) → AreSoundInForm (without_machine rows name)
  pub closed : (name : List ℕ) → has_tasks rows name ≡ false → AreSoundInForm (without_job rows name)
  pub done : (name : List ℕ) → AreSoundInForm (without_task rows name)
  pub placed : (placement : List Choice) → IsLegal (case_of rows) placement → AreSoundInForm (rows_after rows placement)

abbrev pub SoundRowsStaySound : Type 0
SoundRowsStaySound = (rows : TenantRows) → AreSoundInForm rows → StaySoundInForm rows
