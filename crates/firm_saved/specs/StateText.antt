-- The text of a state.
use Rattle.std.specs.Prelude.{ℕ, List, [], ◌∷◌, ◌++◌, ◌==◌, Option, Some, None, codes, length, map, if◌then◌else◌}
use Rattle.std.specs.List.{flat_map}
use Rattle.std.specs.Fmt.{signed_decimal}
use Rattle.firm_rules.specs.Book.{Book}
use Rattle.firm_rules.specs.Limits.{TenantLimits, longest_patience}
use Rattle.firm_text.specs.Replies.{labelled, spaced}
use Rattle.firm_text.specs.declared.headings.Heading.{Heading}
use Rattle.firm_text.specs.declared.headings.Heading.TheVariants.{Plain, Extended}
use Rattle.firm_saved.specs.Saved.{SavedIs}
use Rattle.firm_saved.specs.declared.rows.Row.{Row}
use Rattle.firm_saved.specs.declared.rows.Row.TheVariants as row
use Rattle.firm_saved.specs.declared.saved.SavedPlace.{SavedPlace}

-- words with one space between them
abbrev pub words_text : List (List ℕ) → List ℕ
words_text [] = []
words_text (first ∷ rest) = first ++ flat_map spaced rest

-- the patience behind its name, unless it is the longest
abbrev pub patience_words : ℕ → List (List ℕ)
patience_words patience =
    if patience == longest_patience then [] else labelled (codes "patience") patience

-- the limits of a tenant, each behind its name
abbrev pub limits_words : TenantLimits → List (List ℕ)
limits_words limits =
    labelled (codes "nodes") limits.nodes ++ labelled (codes "arcs") limits.arcs ++ labelled (codes "life") limits.life
    ++ labelled (codes "spread") limits.spread ++ labelled (codes "churn") limits.churn
    ++ labelled (codes "remote") limits.remote ++ patience_words limits.patience

-- where a task runs, or how many rounds left it waiting
abbrev pub standing_words : Option (List ℕ) → ℕ → List (List ℕ)
standing_words (Some machine) waited = codes "at" ∷ machine ∷ []
standing_words None waited = labelled (codes "waits") waited

-- the machines that a task prefers, if there are any
abbrev pub preference_words : List (List ℕ) → List (List ℕ)
preference_words [] = []
preference_words (first ∷ others) = codes "prefers" ∷ first ∷ others

-- the words of a row
abbrev pub row_words : Row → List (List ℕ)
row_words (row.Place admissions) = codes "place" ∷ labelled (codes "admissions") admissions
row_words (row.Tenant name limits given) =
    codes "tenant" ∷ name ∷ limits_words limits ++ labelled (codes "commands") given
row_words (row.Costs costs) = codes "costs" ∷ map signed_decimal costs
row_words (row.Machine machine) = codes "machine" ∷ labelled machine.name machine.slots
row_words (row.Job job) = codes "job" ∷ labelled job.name job.weight
row_words (row.Task task) =
    codes "task" ∷ task.job ∷ task.name ∷ standing_words task.machine task.waited ++ preference_words task.preferred
row_words (row.Rows count) = labelled (codes "rows") count

-- the line of a row, with its line feed
abbrev pub row_text : Row → List ℕ
row_text line = words_text (row_words line) ++ 10 ∷ []

-- the rows of a tenant: its limits and commands, the costs, and then its machines, jobs and tasks
abbrev pub book_rows : List ℕ → Book → List Row
book_rows name book =
    row.Tenant name book.rows.limits book.given ∷ row.Costs book.costs ∷ map row.Machine book.rows.machines
    ++ map row.Job book.rows.jobs ++ map row.Task book.rows.tasks

-- the rows of the tenant of a place, if any
abbrev pub tenant_rows : Option (List ℕ × Book) → List Row
tenant_rows None = []
tenant_rows (Some tenant) = book_rows tenant.0 tenant.1

-- the rows of a place
abbrev pub place_rows : SavedPlace → List Row
place_rows place = row.Place place.admissions ∷ tenant_rows place.tenant

-- a place in front of others, or nothing where it was never given and there are no others
abbrev pub behind_place : SavedPlace → List SavedPlace → List SavedPlace
behind_place place [] = if place.admissions == 0 then [] else place ∷ []
behind_place place (next ∷ rest) = place ∷ next ∷ rest

-- the places up to the last that was ever given
abbrev pub given_places : List SavedPlace → List SavedPlace
given_places [] = []
given_places (place ∷ rest) = behind_place place (given_places rest)

-- the rows of a state
abbrev pub state_rows : List SavedPlace → List Row
state_rows places = flat_map place_rows (given_places places)

-- the first line: what the text is, the version of its format, and whether the heading is extended
abbrev pub first_line : Heading → List ℕ
first_line Plain = codes "firm state 1"
first_line Extended = codes "firm state 1 extended"

-- the text of a state: the first line, the rows, and how many rows stand between
abbrev pub state_text : SavedIs → List ℕ
state_text saved =
    let rows : List Row = state_rows saved.places in
    first_line saved.heading ++ 10 ∷ [] ++ flat_map row_text rows ++ row_text (row.Rows (length rows))
