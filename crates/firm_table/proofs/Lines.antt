-- The lines of a tenant, and lines without marks.
use Rattle.std.proofs.Common.{◌≡◌, ℕ, ◌+◌, List, [], ◌∷◌, refl, sym, ap, ◌∙◌, append_assoc, append-nil}
use Rattle.std.specs.Prelude.{Bool, true, false, ◌||◌, Option, Some, None, Result, Ok, Err, map, option_map}
use Rattle.std.specs.Prelude.{position, slice_index_or}
use Rattle.std.specs.Option.{is_some}
use Rattle.std.specs.List.{list_any}
use Rattle.firm_rules.specs.declared.commands.Command.{Command}
use Rattle.firm_rules.specs.Limits.{TenantLimits}
use Rattle.firm_text.specs.Registers.{is_free, place_for, place_in}
use Rattle.firm_text.specs.declared.inputs.Line.TheVariants.{Nothing, Long, Nameless, For, Operator}
use Rattle.firm_text.specs.declared.operator.OperatorLine.TheVariants.{Admit, Retire, Faulty}
use Rattle.firm_text.specs.declared.operator.OperatorRefusal.{OperatorRefusal}
use Rattle.firm_table.specs.Places.{Given, MarkedLine, Stay, Place, new_stay, unused_place, opening_places, stay_of}
use Rattle.firm_table.specs.Places.{with_command, commanded}
use Rattle.firm_table.specs.Places.{register_of, admission, retirement, after_line, after_lines}
use Rattle.firm_table.specs.Answers.{answer_of, tells_memory}
use Rattle.firm_table.specs.declared.answers.LineAnswer.{LineAnswer}
use Rattle.firm_table.specs.declared.answers.LineAnswer.TheVariants.{ToOperator}
use Rattle.firm_table.specs.Opened.{opened_roster}
use Rattle.firm_table.specs.Output.{answers_from, output_from, unmarked}
use Rattle.firm_table.specs.Isolation.{is_operators_for, commands_to, with_commands, NoneIsOperatorsFor}
use Rattle.firm_table.specs.Isolation.{StaysHoldTheirLines, NeedsNoMarks}
use Rattle.firm_table.specs.SavedIsolation.{PlacesHoldTheirLines, PlacesNeedNoMarks}
use Rattle.firm_table.proofs.Lookups.{Which, same, other, which, eq_same, stay_of-commanded, stay_of-commanded-other}
use Rattle.firm_table.proofs.Lookups.{stay_of-left-other, stay_of-entered-other}
use Rattle.firm_table.proofs.Registering.{given_place}

both_false : (b c : Bool) → (b || c) ≡ false → (b ≡ false) × (c ≡ false)
both_false true c e = cc
both_false false c e = (refl, e)

none_more : (s : Option Stay) → option_map (with_commands []) s ≡ s
none_more None = refl
none_more (Some s) = ap (λ (cs : List Given). Some (record s { commands = cs })) (append-nil s.commands)

one_more : (s : Option Stay) (given : Given) (commands : List Given)
    → option_map (with_commands commands) (option_map (with_command given) s)
    ≡ option_map (with_commands (given ∷ commands)) s
one_more None given commands = refl
one_more (Some s) given commands =
    ap (λ (cs : List Given). Some (record s { commands = cs })) (append_assoc s.commands (given ∷ []) commands)

module _ (name : List ℕ) where
  -- what holds behind a line, holds of it
  abbrev Holds : List Place → List MarkedLine → Type 0
  Holds places lines = stay_of (after_lines places lines) name
      ≡ option_map (with_commands (commands_to name lines)) (stay_of places name)

  behind_command : (places : List Place) (tenant : List ℕ) (command : Command) (mark : Bool) (rest : List MarkedLine)
      → Which tenant name
      → Holds (map (commanded tenant (command, mark)) places) rest → Holds places ((For tenant command, mark) ∷ rest)
  behind_command places tenant command mark rest (same _) holds =
      let given : Given = (command, mark) in
      rw (eq_same name)
      (holds ∙ ap (option_map (with_commands (commands_to name rest))) (stay_of-commanded places name given)
      ∙ one_more (stay_of places name) given (commands_to name rest))
  behind_command places tenant command mark rest (other _ _ out back) holds =
      rw out
      (holds ∙ ap (option_map (with_commands (commands_to name rest)))
      (stay_of-commanded-other places tenant name (command, mark) out))

  -- a line of the operator that is refused, or is for another, leaves the tenant
  leaves_retire : (places : List Place) (tenant : List ℕ) (stay : Option Stay)
      → is_operators_for name (ToOperator (retirement places tenant stay).0) ≡ false
      → stay_of (retirement places tenant stay).1 name ≡ stay_of places name
  leaves_retire places tenant None out = refl
  leaves_retire places tenant (Some stay) out = stay_of-left-other places tenant name out

  leaves_admit : (places : List Place) (tenant : List ℕ) (limits : TenantLimits) (found : Result ℕ OperatorRefusal)
      (mark : Bool)
      → place_for (register_of places) tenant ≡ found
      → is_operators_for name (ToOperator (admission places tenant limits found mark).0) ≡ false
      → stay_of (admission places tenant limits found mark).1 name ≡ stay_of places name
  leaves_admit places tenant limits (Err refusal) mark is out = refl
  leaves_admit places tenant limits (Ok at) true is out = refl
  leaves_admit places tenant limits (Ok at) false is out =
      let free = given_place (is_some (place_in (register_of places) tenant))
      (position is_free (register_of places)) at is in
      let new : Place = record {
        admissions = (slice_index_or places at unused_place).admissions + 1;
        stay =
            Some (new_stay tenant limits);
      } in
      stay_of-entered-other places name at new free.1 out

  -- the claim of its answer about a line, and the claims about the lines after it
  parted : (places : List Place) (given : MarkedLine) (rest : List MarkedLine)
      → NoneIsOperatorsFor name (answers_from places (given ∷ rest))
      → (is_operators_for name (answer_of places given) ≡ false)
      × NoneIsOperatorsFor name (answers_from (after_line places given) rest)
  parted places given rest none =
      both_false (is_operators_for name (answer_of places given))
      (list_any (is_operators_for name) (answers_from (after_line places given) rest)) none

  pub holds_lines : (places : List Place) (lines : List MarkedLine)
      → NoneIsOperatorsFor name (answers_from places lines) → Holds places lines
  holds_lines places [] none = sym (none_more (stay_of places name))
  holds_lines places ((Nothing, mark) ∷ rest) none = holds_lines places rest none
  holds_lines places ((Long, mark) ∷ rest) none = holds_lines places rest none
  holds_lines places ((Nameless, mark) ∷ rest) none = holds_lines places rest none
  holds_lines places ((For tenant command, mark) ∷ rest) none =
      let parts = parted places (For tenant command, mark) rest none in
      behind_command places tenant command mark rest (which tenant name)
      (holds_lines (map (commanded tenant (command, mark)) places) rest parts.1)
  holds_lines places ((Operator (Admit tenant limits), mark) ∷ rest) none =
      let parts = parted places (Operator (Admit tenant limits), mark) rest none in
      holds_lines (after_line places (Operator (Admit tenant limits), mark)) rest parts.1
      ∙ ap (option_map (with_commands (commands_to name rest)))
      (leaves_admit places tenant limits (place_for (register_of places) tenant) mark refl parts.0)
  holds_lines places ((Operator (Retire tenant), mark) ∷ rest) none =
      let parts = parted places (Operator (Retire tenant), mark) rest none in
      holds_lines (after_line places (Operator (Retire tenant), mark)) rest parts.1
      ∙ ap (option_map (with_commands (commands_to name rest)))
      (leaves_retire places tenant (stay_of places tenant) parts.0)
  holds_lines places ((Operator (Faulty refusal), mark) ∷ rest) none = holds_lines places rest none

pub places_hold_their_lines : PlacesHoldTheirLines
places_hold_their_lines places lines name none = holds_lines name places lines none

pub stays_hold_their_lines : StaysHoldTheirLines
stays_hold_their_lines roster lines name none = holds_lines name (opening_places roster) lines none

unmarked_lines : (lines : List MarkedLine) (answers : List LineAnswer) → map (λ given. given.1) lines
    ≡ map tells_memory answers → list_any tells_memory answers ≡ false
    → lines ≡ map unmarked (map (λ given. given.0) lines)
unmarked_lines [] answers marks none = refl
unmarked_lines (given ∷ rest) [] marks none = cc
unmarked_lines (given ∷ rest) (answer ∷ answers) marks none =
    let parts = both_false (tells_memory answer) (list_any tells_memory answers) none in
    let mark : given.1 ≡ tells_memory answer = cc in
    let more : map (λ g. g.1) rest ≡ map tells_memory answers = cc in
    ap (λ (b : Bool). (given.0, b) ∷ rest) (mark ∙ parts.0)
    ∙ ap (λ (ls : List MarkedLine). unmarked given.0 ∷ ls) (unmarked_lines rest answers more parts.1)

pub places_need_no_marks : PlacesNeedNoMarks
places_need_no_marks opened input lines are none =
    ap (output_from opened.places)
    (unmarked_lines lines (answers_from opened.places lines) are.marks none ∙ ap (map unmarked) are.each)

pub needs_no_marks : NeedsNoMarks
needs_no_marks roster = places_need_no_marks (opened_roster roster)
