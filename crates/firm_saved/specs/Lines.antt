-- How a line is read as a row under a heading: as far as its words tell, and then it must be the row's own line.
use Rattle.std.specs.Prelude.{ℕ, ℤ, pos, Bool, false, List, [], ◌∷◌, ◌==◌, Option, Some, None, Result, Ok, Err}
use Rattle.std.specs.Prelude.{bytes_eq, codes}
use Rattle.std.specs.Prelude.{length, nat_le, nat_lt, option_and_then, if◌then◌else◌}
use Rattle.std.specs.List.{slice_split}
use Rattle.std.specs.Option.{ok_or}
use Rattle.firm_rules.specs.Amounts.{slots_from, weight_from}
use Rattle.firm_rules.specs.Limits.{TenantLimits, limits_of, longest_patience, with_patience}
use Rattle.firm_rules.specs.Names.{name_of}
use Rattle.firm_rules.specs.Preferences.{most_preferences, with_preference}
use Rattle.firm_rules.specs.Recent.{with_cost}
use Rattle.firm_text.specs.Commands.{◌>>=◌}
use Rattle.firm_text.specs.Numbers.{number_of}
use Rattle.firm_text.specs.declared.headings.Heading.{Heading}
use Rattle.firm_text.specs.declared.headings.Heading.TheVariants.{Plain, Extended}
use Rattle.firm_rules.specs.SoundBook.{most_cost}
use Rattle.firm_saved.specs.StateText.{row_words, words_text}
use Rattle.firm_saved.specs.declared.faults.FaultKind.{FaultKind}
use Rattle.firm_saved.specs.declared.faults.FaultKind.TheVariants as fault
use Rattle.firm_saved.specs.declared.rows.Row.{Row}
use Rattle.firm_saved.specs.declared.rows.Row.TheVariants as row

-- a space
abbrev pub is_space : ℕ → Bool
is_space byte = byte == 32

-- the pieces of what stands from a mark on that cuts
abbrev pub pieces_behind : (ℕ → Bool) → List ℕ → List (List ℕ)
pieces_behind p [] = []
pieces_behind p (mark ∷ rest) = slice_split p rest

-- the words of a line: what stands between its spaces
abbrev pub words_of : List ℕ → List (List ℕ)
words_of line = slice_split is_space line

-- the words of a rest that is empty or begins with a space
abbrev pub words_behind : List ℕ → List (List ℕ)
words_behind rest = pieces_behind is_space rest

-- a word as a name
abbrev pub name_word : List ℕ → Result (List ℕ) FaultKind
name_word word = ok_or (name_of word) fault.BadName

-- a word as a number
abbrev pub number_word : List ℕ → Result ℕ FaultKind
number_word word = ok_or (number_of word) fault.BadNumber

-- the number, if it is not above the most
abbrev pub at_most : ℕ → ℕ → Result ℕ FaultKind
at_most most number = if nat_le number most then Ok number else Err fault.BadNumber

-- the first word as a number that the check lets pass
abbrev pub checked_at : (ℕ → Option ℕ) → List (List ℕ) → Result ℕ FaultKind
checked_at check [] = Err fault.Row
checked_at check (word ∷ rest) = ok_or (option_and_then check (number_of word)) fault.BadNumber

-- the first word as a number
abbrev pub number_at : List (List ℕ) → Result ℕ FaultKind
number_at [] = Err fault.Row
number_at (word ∷ rest) = number_word word

-- the number after a label, and the words after it
abbrev pub labelled_at : List (List ℕ) → Result (ℕ × List (List ℕ)) FaultKind
labelled_at [] = Err fault.Row
labelled_at (label ∷ []) = Err fault.Row
labelled_at (label ∷ word ∷ rest) = do
  number ← number_word word
  Ok (number, rest)

-- whether the first word is the label of a patience
abbrev pub names_patience : List (List ℕ) → Bool
names_patience [] = false
names_patience (word ∷ rest) = bytes_eq word (codes "patience")

-- the patience after its label, or the longest without a label, and the words after it; no row has the label under a
-- plain heading
abbrev pub patience_at : Heading → List (List ℕ) → Result (ℕ × List (List ℕ)) FaultKind
patience_at Plain words = Ok (longest_patience, words)
patience_at Extended words = if names_patience words then labelled_at words else Ok (longest_patience, words)

-- the limits of a tenant, and the words after them
abbrev pub limits_at : Heading → List (List ℕ) → Result (TenantLimits × List (List ℕ)) FaultKind
limits_at heading words = do
  nodes ← labelled_at words
  arcs ← labelled_at nodes.1
  life ← labelled_at arcs.1
  spread ← labelled_at life.1
  churn ← labelled_at spread.1
  remote ← labelled_at churn.1
  patience ← patience_at heading remote.1
  limits ← ok_or (limits_of nodes.0 arcs.0 life.0 spread.0 churn.0 remote.0) fault.BadNumber
  patient ← ok_or (with_patience limits patience.0) fault.BadNumber
  Ok (patient, patience.1)

-- how often a place was given, behind a label
abbrev pub place_row : List (List ℕ) → Result Row FaultKind
place_row words = do
  admissions ← labelled_at words
  Ok (row.Place admissions.0)

-- the name of a tenant, its limits, and behind a label how many commands it was given
abbrev pub tenant_row : Heading → List (List ℕ) → Result Row FaultKind
tenant_row heading [] = Err fault.Row
tenant_row heading (word ∷ rest) = do
  name ← name_word word
  limits ← limits_at heading rest
  given ← labelled_at limits.1
  Ok (row.Tenant name limits.0 given.0)

-- a word as the cost of a round
abbrev pub cost_word : List ℕ → Result ℕ FaultKind
cost_word word = do
  number ← number_word word
  at_most most_cost number

-- these costs, and then those of the words
abbrev pub costs_at : List ℤ → List (List ℕ) → Result (List ℤ) FaultKind
costs_at costs [] = Ok costs
costs_at costs (word ∷ rest) = do
  cost ← cost_word word
  costs_at (with_cost costs (pos cost)) rest

-- the costs of the last rounds
abbrev pub costs_row : List (List ℕ) → Result Row FaultKind
costs_row words = do
  costs ← costs_at [] words
  Ok (row.Costs costs)

-- the name of a machine and its slots
abbrev pub machine_row : List (List ℕ) → Result Row FaultKind
machine_row [] = Err fault.Row
machine_row (word ∷ rest) = do
  name ← name_word word
  slots ← checked_at slots_from rest
  Ok (row.Machine (record { name = name; slots = slots }))

-- the name of a job and its weight
abbrev pub job_row : List (List ℕ) → Result Row FaultKind
job_row [] = Err fault.Row
job_row (word ∷ rest) = do
  name ← name_word word
  weight ← checked_at weight_from rest
  Ok (row.Job (record { name = name; weight = weight }))

-- where a task runs, if it does, and how many rounds left it waiting
abbrev pub standing_of : List ℕ → List ℕ → Result (Option (List ℕ) × ℕ) FaultKind
standing_of verb word =
    if bytes_eq verb (codes "at") then (name_word word >>= λ machine. Ok (Some machine, 0))
    else (number_word word >>= λ number. at_most longest_patience number >>= λ waited. Ok (None, waited))

-- these machines, and then those that the words name
abbrev pub names_at : List (List ℕ) → List (List ℕ) → Result (List (List ℕ)) FaultKind
names_at names [] = Ok names
names_at names (word ∷ rest) =
    if nat_lt (length names) most_preferences then
    (name_word word >>= λ name. names_at (with_preference names name) rest)
    else Err fault.Row

-- the machines after a label, if present
abbrev pub preferred_at : List (List ℕ) → Result (List (List ℕ)) FaultKind
preferred_at [] = Ok []
preferred_at (label ∷ names) = names_at [] names

-- where the words say how a task stands, and what it prefers
abbrev pub standing_at : List (List ℕ) → Result (Option (List ℕ) × ℕ × List (List ℕ)) FaultKind
standing_at [] = Err fault.Row
standing_at (verb ∷ []) = Err fault.Row
standing_at (verb ∷ word ∷ rest) = do
  standing ← standing_of verb word
  preferred ← preferred_at rest
  Ok (standing.0, standing.1, preferred)

-- the name of a task of this job, how it stands, and what it prefers
abbrev pub task_of : List ℕ → List (List ℕ) → Result Row FaultKind
task_of job [] = Err fault.Row
task_of job (word ∷ rest) = do
  name ← name_word word
  standing ← standing_at rest
  Ok (row.Task (record { name = name; job = job; preferred = standing.2; machine = standing.0; waited = standing.1 }))

-- the job of a task, and then the task
abbrev pub task_row : List (List ℕ) → Result Row FaultKind
task_row [] = Err fault.Row
task_row (word ∷ rest) = do
  job ← name_word word
  task_of job rest

-- the row of a first word and the words after it, as far as these determine it
abbrev pub verb_row : Heading → List ℕ → List (List ℕ) → Result Row FaultKind
verb_row heading verb rest =
    if bytes_eq verb (codes "place") then place_row rest
    else if bytes_eq verb (codes "tenant") then tenant_row heading rest
    else if bytes_eq verb (codes "costs") then costs_row rest
    else if bytes_eq verb (codes "machine") then machine_row rest
    else if bytes_eq verb (codes "job") then job_row rest
    else if bytes_eq verb (codes "task") then task_row rest
    else if bytes_eq verb (codes "rows") then (number_at rest >>= λ number. Ok (row.Rows number))
    else Err fault.Row

-- the row of some words under this heading, as far as they tell
abbrev pub words_row : Heading → List (List ℕ) → Result Row FaultKind
words_row heading [] = Err fault.Row
words_row heading (verb ∷ rest) = verb_row heading verb rest

-- the row, if the line is the one that it is written as
abbrev pub own_row : List ℕ → Row → Result Row FaultKind
own_row line told = if bytes_eq (words_text (row_words told)) line then Ok told else Err fault.Row

-- the row that a line is under this heading
abbrev pub row_of : Heading → List ℕ → Result Row FaultKind
row_of heading line = words_row heading (words_of line) >>= own_row line
