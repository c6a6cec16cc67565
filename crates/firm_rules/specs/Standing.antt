-- What leaves each task where some round may have left it.
use Rattle.std.specs.Prelude.{◌≡◌, ℕ, ◌<◌, ◌≤◌, false, List, All}
use Rattle.firm_rules.specs.Book.{TenantRows, with_machine, with_job, with_task, without_machine, without_job}
use Rattle.firm_rules.specs.Book.{without_task, has_tasks}
use Rattle.firm_rules.specs.Round.{IsRound, case_of, rows_after}
use Rattle.firm_rules.specs.SoundBook.{MayStand, rounds_shown}
use Rattle.firm_rules.specs.Keeping.{AreSoundInForm}
use Rattle.firm_rules.specs.declared.rounds.Choice.{Choice}

-- where so many rounds may have left each task where it is, this many may have once a machine, a job or a task comes or
-- goes, and if there are more of them, after a round
pub record StayStanding (rounds more : ℕ) (rows : TenantRows) : Type 0 where
  pub same : MayStand more rows
  pub machines : (name : List ℕ) (slots : ℕ) → MayStand more (with_machine rows name slots)
  pub jobs : (name : List ℕ) (weight : ℕ) → MayStand more (with_job rows name weight)
  pub tasks : (job name : List ℕ) (preferred : List (List ℕ)) → MayStand more (with_task rows job name preferred)
  pub drained : (name : List ℕ) → MayStand more (without_machine rows name)
  pub closed : (name : List ℕ) → has_tasks rows name ≡ false → MayStand more (without_job rows name)
  pub done : (name : List ℕ) → MayStand more (without_task rows name)
  pub placed : rounds < more → (placement : List Choice) → IsRound (case_of rows) placement
      → All (λ task. rounds_shown task ≤ rounds) rows.tasks → MayStand more (rows_after rows placement)

-- no round has a task run where its wait would cost less than its slot, or than that is worth to a task that waits
abbrev pub TasksStayStanding : Type 0
TasksStayStanding =
    (rounds more : ℕ) (rows : TenantRows) → rounds ≤ more → AreSoundInForm rows → MayStand rounds rows
    → StayStanding rounds more rows
