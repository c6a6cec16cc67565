-- The output of a service: a function of its opening, or of its roster, and of the lines, each with its mark.
use Rattle.std.specs.Prelude.{ℕ, false, List, [], ◌∷◌, ◌++◌, ◌≡◌, map, bytes_eq, if◌then◌else◌}
use Rattle.std.specs.List.{flat_map}
use Rattle.firm_rules.specs.declared.replies.Reply.{Reply}
use Rattle.firm_text.specs.Inputs.{input_lines}
use Rattle.firm_text.specs.Rosters.{RosterIs, RosterRow}
use Rattle.firm_text.specs.declared.inputs.Line.{Line}
use Rattle.firm_text.specs.declared.operator.OperatorReply.TheVariants.{Admitted, Retired, Refused}
use Rattle.firm_table.specs.Opened.{Opened, opened_roster}
use Rattle.firm_table.specs.Places.{MarkedLine, Place, opening_places, after_line}
use Rattle.firm_table.specs.Answers.{answer_of}
use Rattle.firm_table.specs.declared.answers.LineAnswer.{LineAnswer}
use Rattle.firm_table.specs.declared.answers.LineAnswer.TheVariants.{Silent, LineTooLong, UnknownTenant, Replied}
use Rattle.firm_table.specs.declared.answers.LineAnswer.TheVariants.{ToOperator}
use Rattle.firm_table.specs.Answers.{tells_memory, text_of_answer}

-- the answers to these lines in order, with these places before them
abbrev pub answers_from : List Place → List MarkedLine → List LineAnswer
answers_from places [] = []
answers_from places (given ∷ rest) = answer_of places given ∷ answers_from (after_line places given) rest

-- the answers of a service of this roster
abbrev pub answers_of : List RosterRow → List MarkedLine → List LineAnswer
answers_of roster lines = answers_from (opening_places roster) lines

-- what a service writes for these lines: the texts of the answers, in order
abbrev pub output_from : List Place → List MarkedLine → List ℕ
output_from places lines = flat_map text_of_answer (answers_from places lines)

-- the same for a service of this roster
abbrev pub output_of : List RosterRow → List MarkedLine → List ℕ
output_of roster lines = output_from (opening_places roster) lines

-- a line that was not refused memory
abbrev pub unmarked : Line → MarkedLine
unmarked line = (line, false)

-- what a service writes for an input if memory is never refused
abbrev pub granted_output : Opened → List ℕ → List ℕ
granted_output opened input = output_from opened.places (map unmarked (input_lines opened.heading input))

-- the same for a service of this roster
abbrev pub output : RosterIs → List ℕ → List ℕ
output roster input = granted_output (opened_roster roster) input

-- the lines of this input, with marks on exactly those whose answer says that memory was refused
pub record AreLinesFrom (opened : Opened) (input : List ℕ) (lines : List MarkedLine) : Type 0 where
  pub each : map (λ given. given.0) lines ≡ input_lines opened.heading input
  pub marks : map (λ given. given.1) lines ≡ map tells_memory (answers_from opened.places lines)

-- the same for a service of this roster
abbrev pub AreLinesOf : RosterIs → List ℕ → List MarkedLine → Type 0
AreLinesOf roster = AreLinesFrom (opened_roster roster)

-- the replies to the tenant of this name, after these replies and one more answer: a new stay has none yet
abbrev pub replies_with : List ℕ → List Reply → LineAnswer → List Reply
replies_with name replies Silent = replies
replies_with name replies LineTooLong = replies
replies_with name replies UnknownTenant = replies
replies_with name replies (Replied tenant reply) = if bytes_eq tenant name then replies ++ reply ∷ [] else replies
replies_with name replies (ToOperator (Admitted tenant)) = if bytes_eq tenant name then [] else replies
replies_with name replies (ToOperator (Retired tenant)) = replies
replies_with name replies (ToOperator (Refused refusal)) = replies

-- the replies to the tenant of this name since its last admission, after these replies and then these answers
abbrev pub replies_behind : List ℕ → List Reply → List LineAnswer → List Reply
replies_behind name replies [] = replies
replies_behind name replies (answer ∷ rest) = replies_behind name (replies_with name replies answer) rest

-- the replies in these answers to the tenant of this name since its last admission
abbrev pub replies_to : List ℕ → List LineAnswer → List Reply
replies_to name answers = replies_behind name [] answers
