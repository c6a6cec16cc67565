-- The operator's commands, on lines whose first word is `+`.
use Rattle.std.specs.Prelude.{ℕ, Bool, List, [], ◌∷◌, Result, Ok, Err, ◌==◌, bytes_eq, codes, if◌then◌else◌}
use Rattle.std.specs.List.{slice_split}
use Rattle.std.specs.Option.{ok_or}
use Rattle.std.specs.Result.{result_map_both}
use Rattle.firm_rules.specs.Names.{name_of}
use Rattle.firm_text.specs.Commands.{◌>>=◌}
use Rattle.firm_text.specs.Rosters.{RosterRow, told_under}
use Rattle.firm_text.specs.declared.faults.RosterFault.{RosterFault}
use Rattle.firm_text.specs.declared.faults.RosterFault.TheVariants.{BadName as RowName, BadNumber as RowNumber}
use Rattle.firm_text.specs.declared.headings.Heading.{Heading}
use Rattle.firm_text.specs.declared.operator.OperatorLine.{OperatorLine}
use Rattle.firm_text.specs.declared.operator.OperatorLine.TheVariants.{Admit, Retire, Faulty}
use Rattle.firm_text.specs.declared.operator.OperatorRefusal.{OperatorRefusal}
use Rattle.firm_text.specs.declared.operator.OperatorRefusal.TheVariants.{BadCommand, BadRow, BadName, BadNumber}

-- the word with which a line of the operator begins
abbrev pub operator_word : List ℕ
operator_word = codes "+"

-- a comma
abbrev pub is_comma : ℕ → Bool
is_comma byte = byte == 44

-- what a line is refused for whose row has this fault: a row by itself has only the faults of its count of fields, of
-- its name and of a number
abbrev pub row_refusal : RosterFault → OperatorRefusal
row_refusal RowName = BadName
row_refusal RowNumber = BadNumber
row_refusal _ = BadRow

-- the tenant that a row under this heading describes, whose fields stand between commas, or what is wrong with it
abbrev pub row_told : Heading → List ℕ → Result RosterRow OperatorRefusal
row_told heading row =
    result_map_both (λ tenant. tenant) row_refusal (told_under heading (slice_split is_comma row))

-- `admit ROW`
abbrev pub admit_line : Heading → List (List ℕ) → Result OperatorLine OperatorRefusal
admit_line heading (row ∷ []) = do
  tenant ← row_told heading row
  Ok (Admit tenant.0 tenant.1)
admit_line heading _ = Err BadCommand

-- `retire NAME`
abbrev pub retire_line : List (List ℕ) → Result OperatorLine OperatorRefusal
retire_line (tenant ∷ []) = do
  name ← ok_or (name_of tenant) BadName
  Ok (Retire name)
retire_line _ = Err BadCommand

-- what a verb and the words after it ask for, or the first fault: the count of words, then of fields, then the name,
-- then a number
abbrev pub operator_verb : Heading → List (List ℕ) → Result OperatorLine OperatorRefusal
operator_verb heading [] = Err BadCommand
operator_verb heading (verb ∷ rest) =
    if bytes_eq verb (codes "admit") then admit_line heading rest
    else if bytes_eq verb (codes "retire") then retire_line rest
    else Err BadCommand

-- a line, or the faulty line that stands for a fault
abbrev pub line_or_fault : Result OperatorLine OperatorRefusal → OperatorLine
line_or_fault (Ok line) = line
line_or_fault (Err refusal) = Faulty refusal

-- what the words after the operator's `+` ask for
abbrev pub operator_line_of : Heading → List (List ℕ) → OperatorLine
operator_line_of heading rest = line_or_fault (operator_verb heading rest)
