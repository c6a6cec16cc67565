-- The places where the tasks of some rows run, as a placement.
use Rattle.std.specs.Prelude.{◌≡◌, ℕ, Option, Some, None, List, map, true}
use Rattle.firm_rules.specs.Book.{TenantRows}
use Rattle.firm_rules.specs.Placement.{is_legal}
use Rattle.firm_rules.specs.Round.{case_of, rows_after, place_of}
use Rattle.firm_rules.specs.Sound.{AreSound}
use Rattle.firm_rules.specs.declared.rounds.Choice.{Choice}
use Rattle.firm_rules.specs.declared.rounds.Choice.TheVariants.{On, Wait}

-- the choice of a task to stay where it is
abbrev pub choice_of : TenantRows → Option (List ℕ) → Choice
choice_of rows None = Wait
choice_of rows (Some name) = On (place_of rows name)

-- where each task runs, or that it waits
abbrev pub placement_of : TenantRows → List Choice
placement_of rows = map (λ task. choice_of rows task.machine) rows.tasks

-- this is the placement by which these rows came from sound ones
abbrev pub IsTheirPlacement : TenantRows → List Choice → Type 0
IsTheirPlacement rows found = (before : TenantRows) (placement : List Choice) → AreSound before
    → is_legal (case_of before) placement ≡ true → rows ≡ rows_after before placement → found ≡ placement
