-- Bytes of text of the changes in the held answers.
use Rattle.std.proofs.Common.{◌≡◌, ℕ, ◌+◌, ◌*◌, ◌≤◌, List, [], ◌∷◌, ◌++◌, length, set, get_or}
use Rattle.std.proofs.Common.{refl, ap, ◌∙◌, arith}
use Rattle.std.proofs.lemmas.List.Sums.{sum_by-cons, sum_by_push, sum_by-set}
use Rattle.firm_rules.specs.declared.replies.Outcome.{Outcome}
use Rattle.firm_rules.specs.declared.replies.Outcome.TheVariants.{Plain, Evicted, At, Waits, Shown, Costs, Round}
use Rattle.firm_rules.specs.declared.replies.Outcome.TheVariants.{Refused}
use Rattle.firm_rules.specs.declared.replies.Reply.{Reply}
use Rattle.firm_rules.specs.declared.commands.Command.{Command}
use Rattle.firm_table.specs.declared.answers.LineAnswer.{LineAnswer}
use Rattle.firm_table.specs.declared.answers.LineAnswer.TheVariants.{Silent, LineTooLong, UnknownTenant, Replied}
use Rattle.firm_table.specs.declared.answers.LineAnswer.TheVariants.{ToOperator}
use Rattle.firm_held.specs.Held.{FirstIsAt, IsWaiting, answered, bytes_in, bytes_of_answer, bytes_of_line}
use Rattle.firm_held.specs.Held.{bytes_of_outcome, bytes_of_reply}
use Rattle.firm_held.specs.declared.held.HeldAnswer.{HeldAnswer}
use Rattle.firm_held.specs.declared.held.HeldAnswer.TheVariants.{Known, Waiting}
use Rattle.firm_held.proofs.HeldAnswers.{first_waiting, first_within}

-- each answer counts for no more than 2^32
pub outcome_few : (outcome : Outcome) → bytes_of_outcome outcome ≤ 4294967296
outcome_few Plain = omega arith
outcome_few (Evicted tasks) = omega arith
outcome_few (At machine) = omega arith
outcome_few (Waits rounds) = omega arith
outcome_few (Shown machines jobs tasks running nodes nodes_limit arcs arcs_limit) = omega arith
outcome_few (Costs costs) = omega arith
outcome_few (Round cost changes) = omega arith
outcome_few (Refused refusal) = omega arith

pub answer_few : (answer : HeldAnswer) → bytes_of_answer answer ≤ 4294967296
answer_few (Known Silent) = omega arith
answer_few (Known LineTooLong) = omega arith
answer_few (Known UnknownTenant) = omega arith
answer_few (Known (Replied name reply)) = outcome_few reply.outcome
answer_few (Known (ToOperator reply)) = omega arith
answer_few (Waiting place name command) = omega arith

pub bytes_few : (answers : List HeldAnswer) → bytes_in answers ≤ length answers * 4294967296
bytes_few [] = omega arith
bytes_few (answer ∷ rest) =
    omega (arith, sum_by-cons bytes_of_answer answer rest, answer_few answer, bytes_few rest)

pub reply_few : (reply : Reply) → bytes_of_reply reply ≤ 4294967296
reply_few reply = outcome_few reply.outcome

-- with one more
pub bytes_push : (answers : List HeldAnswer) (answer : HeldAnswer)
    → bytes_in (answers ++ answer ∷ []) ≡ bytes_in answers + bytes_of_answer answer
bytes_push answers answer = sum_by_push bytes_of_answer answers answer

-- with one that becomes known
waiting_none : (place : ℕ) (command : Command) (answer : HeldAnswer) → IsWaiting place command answer
    → bytes_of_answer answer ≡ 0
waiting_none place command (Waiting other name given) is = refl
waiting_none place command (Known answer) is = absurd is

waiting_known : (place : ℕ) (command : Command) (reply : Reply) (answer : HeldAnswer) → IsWaiting place command answer
    → bytes_of_answer (answered reply answer) ≡ bytes_of_reply reply
waiting_known place command reply (Waiting other name given) is = refl
waiting_known place command reply (Known answer) is = absurd is

pub bytes_filled : (place : ℕ) (command : Command) (reply : Reply) (at : ℕ) (answers : List HeldAnswer)
    (default : HeldAnswer)
    → FirstIsAt place command at answers
    → bytes_in (set answers at (answered reply (get_or answers at default)))
    ≡ bytes_in answers + bytes_of_reply reply
bytes_filled place command reply at answers default first =
    let is : IsWaiting place command (get_or answers at default) =
    first_waiting place command at answers default first in
    let turn = sum_by-set bytes_of_answer answers at (answered reply (get_or answers at default)) default
    (first_within place command at answers first) in
    omega (
      arith,
      turn,
      waiting_none place command (get_or answers at default) is,
      waiting_known place command reply (get_or answers at default) is,
    )

-- with the first one less
pub bytes_pop : (answers rest : List HeldAnswer) (answer : LineAnswer) → answers ≡ Known answer ∷ rest
    → bytes_in answers ≡ bytes_of_line answer + bytes_in rest
bytes_pop answers rest answer is =
    ap (λ (xs : List HeldAnswer). bytes_in xs) is ∙ sum_by-cons bytes_of_answer (Known answer) rest
