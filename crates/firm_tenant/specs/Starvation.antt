-- No task starves: within how many rounds a task is placed.
use Rattle.std.specs.Prelude.{◌≡◌, ℕ, ◌+◌, ◌≤◌, Bool, true, false, ◌&&◌, nat_lt, List, [], ◌∷◌, length, count_by}
use Rattle.std.specs.Prelude.{bytes_eq, is_some, ⊤, if◌then◌else◌}
use Rattle.std.specs.List.{All, IsDistinct, list_any}
use Rattle.firm_rules.specs.Limits.{TenantLimits}
use Rattle.firm_rules.specs.Names.{is_name, is_among}
use Rattle.firm_rules.specs.Preferences.{most_preferences}
use Rattle.firm_rules.specs.Book.{Book, TenantRows, task_names}
use Rattle.firm_rules.specs.Keeping.{AreSoundInForm}
use Rattle.firm_rules.specs.Starvation.{WeighAtMost, long_wait}
use Rattle.firm_rules.specs.declared.commands.Command.{Command}
use Rattle.firm_rules.specs.declared.commands.Command.TheVariants.{AddMachine, AddJob, AddTask}
use Rattle.firm_rules.specs.declared.replies.Outcome.{Outcome}
use Rattle.firm_rules.specs.declared.replies.Outcome.TheVariants.{Round}
use Rattle.firm_tenant.specs.Step.{step}

-- the name, number and preferences of a command that adds a row are in their ranges, as those of all commands are that
-- are read
abbrev pub IsInRange : Command → Type 0
IsInRange (AddMachine name slots) = (is_name name ≡ true) × (1 ≤ slots) × (slots ≤ 64)
IsInRange (AddJob name weight) = (is_name name ≡ true) × (1 ≤ weight) × (weight ≤ 1000000)
IsInRange (AddTask job name preferred) =
    (is_name name ≡ true) × (length preferred ≤ most_preferences) × IsDistinct bytes_eq preferred
IsInRange _ = ⊤

-- the books before, between and after these commands
abbrev pub books_through : Book → List (Command × Bool) → List Book
books_through book [] = book ∷ []
books_through book (given ∷ rest) = book ∷ books_through (step book given.0 given.1).1 rest

-- whether an outcome is a round's; a round that was refused has another
abbrev pub is_round : Outcome → Bool
is_round (Round cost changes) = true
is_round _ = false

-- the rows before and after each round among these commands that was not refused
abbrev pub rounds_among : Book → List (Command × Bool) → List (TenantRows × TenantRows)
rounds_among book [] = []
rounds_among book (given ∷ rest) =
    let after = step book given.0 given.1 in
    if is_round after.0.outcome then (book.rows, after.1.rows) ∷ rounds_among after.1 rest
    else rounds_among after.1 rest

-- whether a round was over a book with a machine
abbrev pub had_machine : TenantRows × TenantRows → Bool
had_machine round = nat_lt 0 (length round.0.machines)

-- whether a task of this name runs after a round
abbrev pub runs_after : List ℕ → TenantRows × TenantRows → Bool
runs_after name round = list_any (λ task. bytes_eq name task.name && is_some task.machine) round.1.tasks

-- a task has this name, and no job weighs more than `most`
pub record HasTask (name : List ℕ) (most : ℕ) (book : Book) : Type 0 where
  pub there : is_among (task_names book.rows) name ≡ true
  pub light : WeighAtMost most book.rows

-- a number of rounds, one of which places a task, where no job weighs more than `most`
abbrev pub longest_wait : TenantLimits → ℕ → ℕ
longest_wait limits most = long_wait limits most + limits.nodes

-- a task that is there throughout some commands is placed by a round among them, if as many of their rounds were over a
-- book with a machine as `longest_wait` says, and no more rounds than the patience are among them
abbrev pub NoTaskStarves : Type 0
NoTaskStarves =
    (book : Book) (commands : List (Command × Bool)) (name : List ℕ) (most : ℕ)
    → AreSoundInForm book.rows → All (λ given. IsInRange given.0) commands
    → All (HasTask name most) (books_through book commands)
    → longest_wait book.rows.limits most ≤ count_by had_machine (rounds_among book commands)
    → length (rounds_among book commands) ≤ book.rows.limits.patience
    → list_any (runs_after name) (rounds_among book commands) ≡ true
