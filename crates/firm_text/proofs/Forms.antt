-- A line of the operator that is at fault by itself.
use Rattle.std.proofs.Common.{◌≡◌, ◌≤◌, ℕ, Bool, true, false, List, [], ◌∷◌, length, Option, Some, None, Result, Ok}
use Rattle.std.proofs.Common.{Err, arith, refl}
use Rattle.std.specs.Prelude.{nat_lt, bytes_eq, codes, if◌then◌else◌}
use Rattle.std.specs.Option.{ok_or}
use Rattle.std.specs.List.{slice_split}
use Rattle.std.specs.Result.{result_map_both}
use Rattle.firm_rules.specs.Names.{name_of}
use Rattle.firm_text.specs.Commands.{◌>>=◌, command_of}
use Rattle.firm_text.specs.Inputs.{command_for, command_to, is_comment, line_under, longest_line, words_line}
use Rattle.firm_text.specs.LineLaws.{AdmitsWhatFits, RefusesForTheForm, TenantsReadNoHeading}
use Rattle.firm_text.specs.Lines.{words}
use Rattle.firm_text.specs.OperatorLines.{admit_line, is_comma, line_or_fault, operator_line_of}
use Rattle.firm_text.specs.OperatorLines.{operator_word, retire_line, row_refusal}
use Rattle.firm_text.specs.OperatorRefusals.{operator_code}
use Rattle.firm_text.specs.Rosters.{FitsHeading, RosterRow, told_under}
use Rattle.firm_text.proofs.Fitting.{told_fits}
use Rattle.firm_text.specs.declared.faults.RosterFault.{RosterFault}
use Rattle.firm_text.specs.declared.faults.RosterFault.TheVariants as fault
use Rattle.firm_text.specs.declared.headings.Heading.{Heading}
use Rattle.firm_text.specs.declared.inputs.Line.{Line}
use Rattle.firm_text.specs.declared.inputs.Line.TheVariants.{Nothing, Long, Nameless, For, Operator}
use Rattle.firm_text.specs.declared.operator.OperatorLine.TheVariants.{Admit, Retire, Faulty}
use Rattle.firm_text.specs.declared.operator.OperatorRefusal.TheVariants.{BadCommand, BadName}

-- where the line is at fault, it is so for its form; where it admits a tenant, its limits fit the heading
abbrev IsFormal : Heading → Line → Type 0
IsFormal heading Nothing = Unit {0}
IsFormal heading Long = Unit {0}
IsFormal heading Nameless = Unit {0}
IsFormal heading (For name command) = Unit {0}
IsFormal heading (Operator (Admit name limits)) = FitsHeading heading limits
IsFormal heading (Operator (Retire name)) = Unit {0}
IsFormal heading (Operator (Faulty refusal)) = operator_code refusal ≤ 24

formal_row : (found : RosterFault) → operator_code (row_refusal found) ≤ 24
formal_row fault.Header = omega arith
formal_row fault.Row = omega arith
formal_row fault.BadName = omega arith
formal_row fault.BadNumber = omega arith
formal_row fault.Repeated = omega arith
formal_row fault.Count = omega arith
formal_row fault.Memory = omega arith

formal_admit : (heading : Heading) (rest : List (List ℕ))
    → IsFormal heading (Operator (line_or_fault (admit_line heading rest)))
formal_admit heading [] = omega arith
formal_admit heading (row ∷ []) = told (told_under heading (slice_split is_comma row)) refl
  where
    told : (tenant : Result RosterRow RosterFault) → told_under heading (slice_split is_comma row) ≡ tenant
        → IsFormal heading (Operator (line_or_fault
        (result_map_both (λ t. t) row_refusal tenant >>= (λ t. Ok (Admit t.0 t.1)))))
    told (Ok tenant) is = told_fits heading (slice_split is_comma row) tenant is
    told (Err found) is = formal_row found
formal_admit heading (row ∷ word ∷ rest) = omega arith

formal_retire : (heading : Heading) (rest : List (List ℕ))
    → IsFormal heading (Operator (line_or_fault (retire_line rest)))
formal_retire heading [] = omega arith
formal_retire heading (tenant ∷ []) = named (name_of tenant)
  where
    named : (name : Option (List ℕ))
        → IsFormal heading (Operator (line_or_fault (ok_or name BadName >>= (λ n. Ok (Retire n)))))
    named None = omega arith
    named (Some name) = tt
formal_retire heading (tenant ∷ word ∷ rest) = omega arith

formal_verb : (heading : Heading) (rest : List (List ℕ)) → IsFormal heading (Operator (operator_line_of heading rest))
formal_verb heading [] = omega arith
formal_verb heading (verb ∷ rest) = chosen (bytes_eq verb (codes "admit")) (bytes_eq verb (codes "retire"))
  where
    chosen : (admits retires : Bool)
        → IsFormal heading (Operator (line_or_fault
        (if admits then admit_line heading rest else if retires then retire_line rest else Err BadCommand)))
    chosen true retires = formal_admit heading rest
    chosen false true = formal_retire heading rest
    chosen false false = omega arith

formal_words : (heading : Heading) (line : List (List ℕ)) → IsFormal heading (words_line heading line)
formal_words heading [] = tt
formal_words heading (first ∷ rest) = chosen (bytes_eq first operator_word) (name_of first)
  where
    chosen : (operator : Bool) (name : Option (List ℕ))
        → IsFormal heading (if operator then Operator (operator_line_of heading rest) else command_for name
        (command_of rest))
    chosen true name = formal_verb heading rest
    chosen false None = tt
    chosen false (Some name) = tt

formal_line : (heading : Heading) (bytes : List ℕ) → IsFormal heading (line_under heading bytes)
formal_line heading bytes = chosen (is_comment bytes) (nat_lt longest_line (length bytes))
  where
    chosen : (comment long : Bool)
        → IsFormal heading (if comment then Nothing else if long then Long else words_line heading (words bytes))
    chosen true long = tt
    chosen false true = tt
    chosen false false = formal_words heading (words bytes)

pub refuses_for_the_form : RefusesForTheForm
refuses_for_the_form heading bytes refusal is = rw is at (formal_line heading bytes)

pub admits_what_fits : AdmitsWhatFits
admits_what_fits heading bytes name limits is = rw is at (formal_line heading bytes)

words_alike : (heading other : Heading) (name : List ℕ) (line : List (List ℕ))
    → command_to name (words_line heading line) ≡ command_to name (words_line other line)
words_alike heading other name [] = refl
words_alike heading other name (first ∷ rest) = chosen (bytes_eq first operator_word)
  where
    chosen : (operator : Bool)
        → command_to name (if operator then Operator (operator_line_of heading rest)
        else command_for (name_of first) (command_of rest))
        ≡ command_to name (if operator then Operator (operator_line_of other rest)
        else command_for (name_of first) (command_of rest))
    chosen true = refl
    chosen false = refl

pub tenants_read_no_heading : TenantsReadNoHeading
tenants_read_no_heading heading other bytes name = chosen (is_comment bytes) (nat_lt longest_line (length bytes))
  where
    chosen : (comment long : Bool)
        → command_to name (if comment then Nothing else if long then Long else words_line heading (words bytes))
        ≡ command_to name (if comment then Nothing else if long then Long else words_line other (words bytes))
    chosen true long = refl
    chosen false true = refl
    chosen false false = words_alike heading other name (words bytes)
