-- The rows that a round is computed from, as comment lines in the words of a state.
use Rattle.std.specs.Prelude.{◌≡◌, ℕ, Bool, true, false, List, [], ◌++◌, Option, Result, IfOk, IfSome, codes, length}
use Rattle.std.specs.List.{flat_map}
use Rattle.std.specs.Io.KnownBytes.{Appends}
use Rattle.firm_rules.specs.Book.{Book}
use Rattle.firm_rules.specs.Placement.{Case}
use Rattle.firm_rules.specs.Round.{case_of}
use Rattle.firm_saved.specs.StateText.{book_rows, row_text}
use Rattle.firm_saved.specs.declared.rows.Row.{Row}
use Rattle.firm_saved.specs.declared.rows.Row.TheVariants as row

-- a row as a comment line
abbrev pub comment_text : Row → List ℕ
comment_text line = codes "# " ++ row_text line

-- the rows of the tenant of this name with this book, and at last how many they are
abbrev pub rows_text : List ℕ → Book → List ℕ
rows_text name book =
    flat_map comment_text (book_rows name book) ++ comment_text (row.Rows (length (book_rows name book)))

-- the same on request, else nothing
abbrev pub rows_asked : Bool → List ℕ → Book → List ℕ
rows_asked true name book = rows_text name book
rows_asked false name book = []

-- a round that is to be explained is that of this book, and these are its rows
abbrev pub AwaitsRound : {E : Type 0} → Result (Option Case) E → List ℕ → Bool → List ℕ → Book → Type 0
AwaitsRound case text has_rows name book = IfOk case (λ (found : Option Case). IfSome found (λ (case : Case).
    (case ≡ case_of book.rows) × (text ≡ rows_asked has_rows name book)))

-- what was written begins with this text
abbrev pub BeginsWith : Option (List ℕ) → Option (List ℕ) → List ℕ → Type 0
BeginsWith before after text = (rest : List ℕ) × Appends before after (text ++ rest)
