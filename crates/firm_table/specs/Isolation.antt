-- The meaning of the output to each tenant.
use Rattle.std.specs.Prelude.{◌≡◌, ℕ, Bool, false, List, [], ◌∷◌, ◌++◌, Option, Some, None, map, option_map, bytes_eq}
use Rattle.std.specs.Prelude.{if◌then◌else◌}
use Rattle.std.specs.List.{filter_map, list_any}
use Rattle.firm_rules.specs.Book.{opening_book}
use Rattle.firm_rules.specs.Limits.{TenantLimits}
use Rattle.firm_tenant.specs.Alone.{alone_marked}
use Rattle.firm_text.specs.Inputs.{command_to, input_lines}
use Rattle.firm_text.specs.Rosters.{RosterIs, RosterRow}
use Rattle.firm_text.specs.declared.headings.Heading.{Heading}
use Rattle.firm_text.specs.declared.inputs.Line.TheVariants.{For, Operator}
use Rattle.firm_text.specs.declared.operator.OperatorLine.TheVariants.{Admit}
use Rattle.firm_text.specs.declared.operator.OperatorReply.TheVariants.{Admitted, Retired, Refused}
use Rattle.firm_table.specs.Places.{Given, MarkedLine, Stay, Place, new_stay, limits_of, opening_places, after_lines}
use Rattle.firm_table.specs.Places.{stay_of}
use Rattle.firm_table.specs.Answers.{answer_of, tells_memory}
use Rattle.firm_table.specs.declared.answers.LineAnswer.{LineAnswer}
use Rattle.firm_table.specs.declared.answers.LineAnswer.TheVariants.{Silent, LineTooLong, UnknownTenant, Replied}
use Rattle.firm_table.specs.declared.answers.LineAnswer.TheVariants.{ToOperator}
use Rattle.firm_table.specs.Output.{answers_from, answers_of, output, output_of, AreLinesOf, replies_to, unmarked}

-- the limits that the roster gives the tenant of this name
abbrev pub limits_in : List RosterRow → List ℕ → Option TenantLimits
limits_in [] name = None
limits_in (tenant ∷ rest) name = if bytes_eq tenant.0 name then Some tenant.1 else limits_in rest name

-- the stay of the tenant of this name, once a service that had these places has answered these lines
abbrev pub stay_after : List Place → List MarkedLine → List ℕ → Option Stay
stay_after places lines name = stay_of (after_lines places lines) name

-- the same for a service of this roster
abbrev pub stay_in : List RosterRow → List MarkedLine → List ℕ → Option Stay
stay_in roster lines name = stay_after (opening_places roster) lines name

-- one more line is answered after the others, whose answers stay the same
abbrev pub AnswersLineByLine : Type 0
AnswersLineByLine = (roster : List RosterRow) (lines : List MarkedLine) (given : MarkedLine)
    → answers_of roster (lines ++ given ∷ [])
    ≡ answers_of roster lines ++ answer_of (after_lines (opening_places roster) lines) given ∷ []

-- in a roster's service every stay began with the opening book of its limits
abbrev pub StaysOpenWithLimits : Type 0
StaysOpenWithLimits = (roster : List RosterRow) (lines : List MarkedLine) (name : List ℕ) (stay : Stay)
    → stay_in roster lines name ≡ Some stay → stay.opening ≡ opening_book (limits_of stay)

-- a tenant's replies since admission are those of a tenant served alone
abbrev pub RepliesAreAlone : Type 0
RepliesAreAlone = (roster : List RosterRow) (lines : List MarkedLine) (name : List ℕ) (stay : Stay)
    → stay_in roster lines name ≡ Some stay
    → replies_to name (answers_of roster lines) ≡ alone_marked (limits_of stay) stay.commands

-- two stays that began with the same limits and were given the same commands have the same replies, regardless of what
-- else the two services hold and were given, earlier tenants of the place included
abbrev pub StaysAreIsolated : Type 0
StaysAreIsolated = (roster other_roster : List RosterRow) (lines other_lines : List MarkedLine) (name : List ℕ)
    (stay other : Stay)
    → stay_in roster lines name ≡ Some stay → stay_in other_roster other_lines name ≡ Some other
    → limits_of stay ≡ limits_of other → stay.commands ≡ other.commands
    → replies_to name (answers_of roster lines) ≡ replies_to name (answers_of other_roster other_lines)

-- a line that gives this tenant a command
abbrev pub line_to : List ℕ → Given → MarkedLine
line_to name given = (For name given.0, given.1)

-- and they are the replies of a service that admits only this tenant and is given only its commands
abbrev pub StaysAreServedAlone : Type 0
StaysAreServedAlone = (roster : List RosterRow) (lines : List MarkedLine) (name : List ℕ) (stay : Stay)
    → stay_in roster lines name ≡ Some stay
    → map (Replied name) (replies_to name (answers_of roster lines))
    ≡ answers_of ((name, limits_of stay) ∷ []) (map (line_to name) stay.commands)

-- the command that a line gives the tenant of this name
abbrev pub given_to : List ℕ → MarkedLine → Option Given
given_to name given = option_map (λ command. (command, given.1)) (command_to name given.0)

-- the commands that these lines give the tenant of this name
abbrev pub commands_to : List ℕ → List MarkedLine → List Given
commands_to name lines = filter_map (given_to name) lines

-- the stay, with these further commands
abbrev pub with_commands : List Given → Stay → Stay
with_commands commands stay = record stay { commands = stay.commands ++ commands }

-- whether an answer says that a line of the operator's for this tenant was obeyed: the tenant was admitted, or retired
abbrev pub is_operators_for : List ℕ → LineAnswer → Bool
is_operators_for name Silent = false
is_operators_for name LineTooLong = false
is_operators_for name UnknownTenant = false
is_operators_for name (Replied tenant reply) = false
is_operators_for name (ToOperator (Admitted tenant)) = bytes_eq tenant name
is_operators_for name (ToOperator (Retired tenant)) = bytes_eq tenant name
is_operators_for name (ToOperator (Refused refusal)) = false

-- none of these answers says so
abbrev pub NoneIsOperatorsFor : List ℕ → List LineAnswer → Type 0
NoneIsOperatorsFor name answers = list_any (is_operators_for name) answers ≡ false

-- a tenant for which no line of the operator's was obeyed was given the commands of its lines, and has the limits that
-- it had
abbrev pub StaysHoldTheirLines : Type 0
StaysHoldTheirLines = (roster : List RosterRow) (lines : List MarkedLine) (name : List ℕ)
    → NoneIsOperatorsFor name (answers_of roster lines)
    → stay_in roster lines name ≡ option_map (with_commands (commands_to name lines)) (stay_in roster [] name)

-- after these lines, this admission admitted the tenant with these limits, and no later line of the operator's for it
-- was obeyed
pub record BeginsStayFrom (places : List Place) (lines : List MarkedLine) (admission : MarkedLine)
    (later : List MarkedLine) (name : List ℕ) (limits : TenantLimits) : Type 0 where
  pub asks : admission.0 ≡ Operator (Admit name limits)
  pub admits : answer_of (after_lines places lines) admission ≡ ToOperator (Admitted name)
  pub stays : NoneIsOperatorsFor name (answers_from (after_lines places (lines ++ admission ∷ [])) later)

-- the same for a service of this roster
abbrev pub BeginsStay : List RosterRow → List MarkedLine → MarkedLine → List MarkedLine → List ℕ → TenantLimits → Type 0
BeginsStay roster = BeginsStayFrom (opening_places roster)

-- such a tenant has the limits of its admission, and was given the commands of the later lines to it
abbrev pub StaysBeginAnew : Type 0
StaysBeginAnew = (roster : List RosterRow) (lines later : List MarkedLine) (admission : MarkedLine) (name : List ℕ)
    (limits : TenantLimits)
    → BeginsStay roster lines admission later name limits
    → stay_in roster (lines ++ admission ∷ later) name
    ≡ Some (with_commands (commands_to name later) (new_stay name limits))

-- a tenant that two services admitted so, with the same limits, gets the same replies if the later lines to it are
-- equal, regardless of what precedes its admission
abbrev pub AdmissionsAreIsolated : Type 0
AdmissionsAreIsolated = (roster other_roster : List RosterRow) (lines later other_lines other_later : List MarkedLine)
    (admission other_admission : MarkedLine) (name : List ℕ) (limits : TenantLimits)
    → BeginsStay roster lines admission later name limits
    → BeginsStay other_roster other_lines other_admission other_later name limits
    → commands_to name later ≡ commands_to name other_later
    → replies_to name (answers_of roster (lines ++ admission ∷ later))
    ≡ replies_to name (answers_of other_roster (other_lines ++ other_admission ∷ other_later))

-- a tenant with the same row in two rosters, for which no line of the operator's was obeyed, gets the same replies in
-- services that are given equal lines for it
abbrev pub TenantsAreIsolated : Type 0
TenantsAreIsolated = (roster other_roster : List RosterRow) (lines other_lines : List MarkedLine) (name : List ℕ)
    (limits : TenantLimits)
    → limits_in roster name ≡ Some limits → limits_in other_roster name ≡ Some limits
    → NoneIsOperatorsFor name (answers_of roster lines) → NoneIsOperatorsFor name (answers_of other_roster other_lines)
    → commands_to name lines ≡ commands_to name other_lines
    → replies_to name (answers_of roster lines) ≡ replies_to name (answers_of other_roster other_lines)

-- if no answer says that memory was refused, the output is a function of the roster and of the bytes of the input
abbrev pub NeedsNoMarks : Type 0
NeedsNoMarks = (roster : RosterIs) (input : List ℕ) (lines : List MarkedLine) → AreLinesOf roster input lines
    → list_any tells_memory (answers_of roster.rows lines) ≡ false → output_of roster.rows lines ≡ output roster input

-- the lines of an input that are left to answer can be taken as lines to which memory is not refused
abbrev pub MayGoUnmarked : Type 0
MayGoUnmarked = (heading : Heading) (input : List ℕ) (places : List Place)
    → map tells_memory (answers_from places (map unmarked (input_lines heading input)))
    ≡ map (λ line. false) (input_lines heading input)
