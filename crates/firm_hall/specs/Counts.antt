-- The number of rounds that the lines of an input request.
use Rattle.std.specs.Prelude.{◌≡◌, ℕ, ◌+◌, ◌≤◌, Bool, true, false, List, [], ◌∷◌, if◌then◌else◌}
use Rattle.firm_rules.specs.declared.commands.Command.{Command}
use Rattle.firm_rules.specs.declared.replies.Reply.{Reply}
use Rattle.firm_rules.specs.declared.replies.Outcome.{Outcome}
use Rattle.firm_rules.specs.declared.replies.Outcome.TheVariants.{Refused}
use Rattle.firm_rules.specs.declared.replies.Refusal.TheVariants.{Worn}
use Rattle.firm_tenant.specs.Step.{is_memory}
use Rattle.firm_text.specs.declared.inputs.Line.{Line}
use Rattle.firm_text.specs.declared.inputs.Line.TheVariants.{Nothing, Long, Nameless, For, Operator}
use Rattle.firm_text.specs.Rosters.{RosterIs}
use Rattle.firm_table.specs.Interleaving.{is_round}
use Rattle.firm_table.specs.Opened.{Opened, opened_roster}
use Rattle.firm_table.specs.Places.{MarkedLine}
use Rattle.firm_table.specs.Output.{answers_from}
use Rattle.firm_table.specs.Service.{Device, ServedFrom}
use Rattle.firm_table.specs.declared.answers.LineAnswer.{LineAnswer}
use Rattle.firm_table.specs.declared.answers.LineAnswer.TheVariants.{Silent, LineTooLong, UnknownTenant, Replied}
use Rattle.firm_table.specs.declared.answers.LineAnswer.TheVariants.{ToOperator}

-- whether an outcome says that no life is left
abbrev pub is_worn : Outcome → Bool
is_worn (Refused Worn) = true
is_worn _ = false

-- 1 for the round of a tenant that had life for it, and 0 for each other command
abbrev pub round_in : Command → Reply → ℕ
round_in command reply = if is_round command then (if is_worn reply.outcome then 0 else 1) else 0

-- the same for a line and its answer
abbrev pub round_of : Line → LineAnswer → ℕ
round_of Nothing answer = 0
round_of Long answer = 0
round_of Nameless answer = 0
round_of (For name command) Silent = 0
round_of (For name command) LineTooLong = 0
round_of (For name command) UnknownTenant = 0
round_of (For name command) (Replied tenant reply) = round_in command reply
round_of (For name command) (ToOperator reply) = 0
round_of (Operator request) answer = 0

-- how many rounds these lines, with these answers, ask for: those of tenants that had life for them, over all stays
abbrev pub rounds_in : List MarkedLine → List LineAnswer → ℕ
rounds_in [] answers = 0
rounds_in (given ∷ rest) [] = 0
rounds_in (given ∷ rest) (answer ∷ answers) = round_of given.0 answer + rounds_in rest answers

-- 1 for a tenant's reply saying that memory was refused, and 0 for every other answer
abbrev pub refusal_in : LineAnswer → ℕ
refusal_in Silent = 0
refusal_in LineTooLong = 0
refusal_in UnknownTenant = 0
refusal_in (Replied tenant reply) = if is_memory reply then 1 else 0
refusal_in (ToOperator reply) = 0

-- how many of these answers say that memory was refused to a tenant
abbrev pub refusals_in : List LineAnswer → ℕ
refusals_in [] = 0
refusals_in (answer ∷ answers) = refusal_in answer + refusals_in answers

-- This many rounds were requested: all that the lines ask for, except some that were refused memory.
pub record Counted (asked : ℕ) (lines : List MarkedLine) (answers : List LineAnswer) : Type 0 where
  pub least : asked ≤ rounds_in lines answers
  pub most : rounds_in lines answers ≤ asked + refusals_in answers

-- The meaning of Ok: what was written is the output for all that was read; and this many rounds were requested, all
-- that the lines ask for if no reply of a tenant says that memory was refused.
pub record ServedWithFrom (opened : Opened) (most : ℕ) (reader writer : Device) (asked : ℕ) : Type 0 where
  pub served : ServedFrom opened most reader writer
  pub counted : Counted asked served.answers.lines (answers_from opened.places served.answers.lines)
  pub exact : refusals_in (answers_from opened.places served.answers.lines) ≡ 0
      → asked ≡ rounds_in served.answers.lines (answers_from opened.places served.answers.lines)

-- the same for a service of a roster
abbrev pub ServedWith : RosterIs → ℕ → Device → Device → ℕ → Type 0
ServedWith roster = ServedWithFrom (opened_roster roster)
