-- A command without a mark is never refused for want of memory.
use Rattle.std.proofs.Common.{◌≡◌, ◌≤◌, ℕ, List, [], ◌∷◌, refl, ap, ◌∙◌, arith}
use Rattle.std.specs.Prelude.{Bool, true, false, Option, Some, None, Result, Ok, Err, map, position, if◌then◌else◌}
use Rattle.std.specs.Option.{is_some, ok_or}
use Rattle.firm_rules.specs.declared.commands.Command.{Command}
use Rattle.firm_tenant.specs.Laws.{UnmarkedStepsAreGranted}
use Rattle.firm_rules.specs.Limits.{TenantLimits}
use Rattle.firm_text.specs.Inputs.{line_under}
use Rattle.firm_text.specs.declared.headings.Heading.{Heading}
use Rattle.firm_text.specs.LineLaws.{RefusesForTheForm}
use Rattle.firm_text.specs.Lines.{lines}
use Rattle.firm_text.specs.OperatorRefusals.{operator_code}
use Rattle.firm_text.specs.Registers.{is_free, place_for, place_in}
use Rattle.firm_text.specs.declared.inputs.Line.{Line}
use Rattle.firm_text.specs.declared.inputs.Line.TheVariants.{Nothing, Long, Nameless, For, Operator}
use Rattle.firm_text.specs.declared.operator.OperatorLine.TheVariants.{Admit, Retire, Faulty}
use Rattle.firm_text.specs.declared.operator.OperatorRefusal.{OperatorRefusal}
use Rattle.firm_text.specs.declared.operator.OperatorRefusal.TheVariants.{BadCommand, BadRow, BadName, BadNumber}
use Rattle.firm_text.specs.declared.operator.OperatorRefusal.TheVariants.{TenantExists, NoSuchTenant, Full}
use Rattle.firm_text.specs.declared.operator.OperatorRefusal.TheVariants.{Memory as NoMemory}
use Rattle.firm_text.specs.declared.operator.OperatorReply.TheVariants.{Refused}
use Rattle.firm_table.specs.Places.{Place, Stay, book_of, stay_of, register_of, admission, retirement, after_line}
use Rattle.firm_table.specs.Answers.{answer_of, answer_to_command, is_operator_memory, tells_memory}
use Rattle.firm_table.specs.Output.{answers_from, unmarked}
use Rattle.firm_table.specs.Isolation.{MayGoUnmarked}
use Rattle.firm_table.proofs.Alones.{last_reply-more}

-- this is the line of a text under some heading
abbrev pub IsOfText : Line → Type 0
IsOfText line = (heading : Heading) × (text : List ℕ) × (line_under heading text ≡ line)

refused_place : (held : Bool) (free : Option ℕ) (refusal : OperatorRefusal)
    → (if held then Err TenantExists else ok_or {E = OperatorRefusal} free Full) ≡ Err refusal
    → is_operator_memory (Refused refusal) ≡ false
refused_place true free refusal e = let same : TenantExists ≡ refusal = cc in rw (← same) refl
refused_place false None refusal e = let same : Full ≡ refusal = cc in rw (← same) refl
refused_place false (Some at) refusal e = cc

not_memory : (refusal : OperatorRefusal) → operator_code refusal ≤ 24 → is_operator_memory (Refused refusal) ≡ false
not_memory BadCommand low = refl
not_memory BadRow low = refl
not_memory BadName low = refl
not_memory BadNumber low = refl
not_memory TenantExists low = refl
not_memory NoSuchTenant low = refl
not_memory Full low = refl
not_memory NoMemory low = absurd (omega (arith, low))

module _ (granted : UnmarkedStepsAreGranted) (formal : RefusesForTheForm) where
  unmarked_command : (name : List ℕ) (command : Command) (stay : Option Stay)
      → tells_memory (answer_to_command name stay (command, false)) ≡ false
  unmarked_command name command None = refl
  unmarked_command name command (Some stay) =
      rw (last_reply-more stay (command, false))
      (granted (book_of stay) command)

  unmarked_admission : (places : List Place) (name : List ℕ) (limits : TenantLimits)
      (found : Result ℕ OperatorRefusal) → place_for (register_of places) name ≡ found
      → is_operator_memory (admission places name limits found false).0 ≡ false
  unmarked_admission places name limits (Ok at) is = refl
  unmarked_admission places name limits (Err refusal) is =
      refused_place (is_some (place_in (register_of places) name)) (position is_free (register_of places)) refusal is

  unmarked_retirement : (places : List Place) (name : List ℕ) (stay : Option Stay)
      → is_operator_memory (retirement places name stay).0 ≡ false
  unmarked_retirement places name None = refl
  unmarked_retirement places name (Some stay) = refl

  -- a line of an input is not refused for want of memory by itself
  pub unmarked_answer : (places : List Place) (line : Line) → IsOfText line
      → tells_memory (answer_of places (unmarked line)) ≡ false
  unmarked_answer places Nothing said = refl
  unmarked_answer places Long said = refl
  unmarked_answer places Nameless said = refl
  unmarked_answer places (For name command) said = unmarked_command name command (stay_of places name)
  unmarked_answer places (Operator (Admit name limits)) said =
      unmarked_admission places name limits (place_for (register_of places) name) refl
  unmarked_answer places (Operator (Retire name)) said = unmarked_retirement places name (stay_of places name)
  unmarked_answer places (Operator (Faulty refusal)) said = not_memory refusal (formal said.0 said.1 refusal said.2)

  pub go_unmarked : (heading : Heading) (places : List Place) (texts : List (List ℕ))
      → map tells_memory (answers_from places (map unmarked (map (line_under heading) texts)))
      ≡ map (λ line. false) (map (line_under heading) texts)
  go_unmarked heading places [] = refl
  go_unmarked heading places (text ∷ rest) =
      let line : Line = line_under heading text in
      ap (λ (b : Bool). b ∷ map tells_memory
      (answers_from (after_line places (unmarked line)) (map unmarked (map (line_under heading) rest))))
      (unmarked_answer places line (heading, text, refl))
      ∙ ap (λ (bs : List Bool). false ∷ bs) (go_unmarked heading (after_line places (unmarked line)) rest)

  pub may_go_unmarked : MayGoUnmarked
  may_go_unmarked heading input places = go_unmarked heading places (lines input)
