-- How the lines of a state's text are read, one after the other.
use Rattle.std.specs.Prelude.{ℕ, Bool, true, false, ◌+◌, ◌-◌, ◌==◌, List, [], ◌∷◌, Result, Ok, Err, bytes_eq}
use Rattle.std.specs.Prelude.{Option, Some, None, if◌then◌else◌}
use Rattle.std.specs.List.{slice_split}
use Rattle.firm_text.specs.Commands.{◌>>=◌}
use Rattle.firm_text.specs.Lines.{is_line_feed}
use Rattle.firm_text.specs.declared.headings.Heading.{Heading}
use Rattle.firm_text.specs.declared.headings.Heading.TheVariants.{Plain, Extended}
use Rattle.firm_saved.specs.Saved.{SavedIs, saved_with}
use Rattle.firm_saved.specs.StateText.{first_line}
use Rattle.firm_saved.specs.Drafts.{Draft, empty_draft, finished, taken}
use Rattle.firm_saved.specs.Lines.{row_of}
use Rattle.firm_saved.specs.declared.faults.FaultKind.{FaultKind}
use Rattle.firm_saved.specs.declared.faults.FaultKind.TheVariants as fault
use Rattle.firm_saved.specs.declared.faults.StateFault.{StateFault}
use Rattle.firm_saved.specs.declared.rows.Row.{Row}
use Rattle.firm_saved.specs.declared.rows.Row.TheVariants as row
use Rattle.firm_saved.specs.declared.saved.SavedPlace.{SavedPlace}

-- a fault of this line
abbrev pub fault_at : ℕ → FaultKind → StateFault
fault_at line kind = record { line = line; kind = kind }

-- what a line gives, or its fault
abbrev pub at_line : {A : Type 0} → ℕ → Result A FaultKind → Result A StateFault
at_line line (Ok value) = Ok value
at_line line (Err kind) = Err (fault_at line kind)

-- whether nothing follows the last line feed
abbrev pub is_end : List (List ℕ) → Bool
is_end ([] ∷ []) = true
is_end _ = false

-- the places, if nothing follows
abbrev pub ended : ℕ → List (List ℕ) → List SavedPlace → Result (List SavedPlace) StateFault
ended line rest places = if is_end rest then Ok places else Err (fault_at (line + 1) fault.Rows)

-- the places after the last row, which has to count those before it
abbrev pub last_row : ℕ → Draft → ℕ → List (List ℕ) → Result (List SavedPlace) StateFault
last_row line draft count rest =
    if count == line - 2 then (at_line line (finished draft) >>= ended line rest) else Err (fault_at line fault.Rows)

-- the draft once one more row is read, or with the count of the last row, which ends it
abbrev pub stepped : Draft → Row → Result (Draft × Option ℕ) FaultKind
stepped draft (row.Rows count) = Ok (draft, Some count)
stepped draft line = do
  after ← taken draft line
  Ok (after, None)

-- the same of a line under this heading
abbrev pub line_read : Heading → Draft → List ℕ → Result (Draft × Option ℕ) FaultKind
line_read heading draft line = row_of heading line >>= stepped draft

-- what is made of the lines behind, unless the last row was read
abbrev pub go_on : ℕ → List (List ℕ) → (Draft → Result (List SavedPlace) StateFault) → Draft → Option ℕ
    → Result (List SavedPlace) StateFault
go_on line rest more draft None = more draft
go_on line rest more draft (Some count) = last_row line draft count rest

-- the places of the rows so far and of the lines from this number on; the last piece is no line, since no line feed
-- ends it
abbrev pub rows_from : Heading → ℕ → Draft → List (List ℕ) → Result (List SavedPlace) StateFault
rows_from heading line draft [] = Err (fault_at line fault.Rows)
rows_from heading line draft (last ∷ []) = Err (fault_at line fault.Rows)
rows_from heading line draft (bytes ∷ next ∷ rest) =
    at_line line (line_read heading draft bytes)
    >>= λ read. go_on line (next ∷ rest) (λ after. rows_from heading (line + 1) after (next ∷ rest)) read.0 read.1

-- the state of this heading and of the lines after the first
abbrev pub headed_state : Heading → List (List ℕ) → Result SavedIs StateFault
headed_state heading rest = rows_from heading 2 empty_draft rest >>= λ places. Ok (saved_with heading places)

-- the state that the pieces between line feeds tell: the first says what its heading is
abbrev pub pieces_state : List (List ℕ) → Result SavedIs StateFault
pieces_state [] = Err (fault_at 1 fault.Version)
pieces_state (first ∷ rest) =
    if bytes_eq first (first_line Plain) then headed_state Plain rest
    else if bytes_eq first (first_line Extended) then headed_state Extended rest
    else Err (fault_at 1 fault.Version)

-- the state of a text, or its first fault
abbrev pub state_of : List ℕ → Result SavedIs StateFault
state_of text = pieces_state (slice_split is_line_feed text)
