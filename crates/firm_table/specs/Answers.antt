-- The answer to a line, and its text.
use Rattle.std.specs.Prelude.{ℕ, Bool, true, false, List, [], ◌∷◌, ◌++◌, codes, Option, Some, None}
use Rattle.firm_rules.specs.declared.replies.Reply.{Reply}
use Rattle.firm_tenant.specs.Step.{is_memory}
use Rattle.firm_tenant.specs.Alone.{replies_from}
use Rattle.firm_text.specs.OperatorReplies.{text_of_operator_reply}
use Rattle.firm_text.specs.Replies.{text_of_reply}
use Rattle.firm_text.specs.declared.inputs.Line.TheVariants.{Nothing, Long, Nameless, For, Operator}
use Rattle.firm_text.specs.declared.operator.OperatorRefusal.TheVariants.{Memory}
use Rattle.firm_text.specs.declared.operator.OperatorReply.{OperatorReply}
use Rattle.firm_text.specs.declared.operator.OperatorReply.TheVariants.{Refused}
use Rattle.firm_table.specs.declared.answers.LineAnswer.{LineAnswer}
use Rattle.firm_table.specs.declared.answers.LineAnswer.TheVariants.{Silent, LineTooLong, UnknownTenant, Replied}
use Rattle.firm_table.specs.declared.answers.LineAnswer.TheVariants.{ToOperator}
use Rattle.firm_table.specs.Places.{Given, MarkedLine, Stay, Place, stay_of, with_command, obeyed}

-- the last of a list
abbrev pub last_of : {X : Type 0} → List X → Option X
last_of [] = None
last_of (x ∷ []) = Some x
last_of (x ∷ y ∷ rest) = last_of (y ∷ rest)

-- the last reply of a tenant that is alone in the service, begins with this stay's book and is given what it was given
abbrev pub last_reply : Stay → Option Reply
last_reply stay = last_of (replies_from stay.opening stay.commands)

-- the reply as an answer
abbrev pub reply_answer : List ℕ → Option Reply → LineAnswer
reply_answer name None = UnknownTenant
reply_answer name (Some reply) = Replied name reply

-- the answer to a command of the tenant of this name, which has this stay
abbrev pub answer_to_command : List ℕ → Option Stay → Given → LineAnswer
answer_to_command name None given = UnknownTenant
answer_to_command name (Some stay) given = reply_answer name (last_reply (with_command given stay))

-- the answer to a line, with these places before it
abbrev pub answer_of : List Place → MarkedLine → LineAnswer
answer_of places (Nothing, mark) = Silent
answer_of places (Long, mark) = LineTooLong
answer_of places (Nameless, mark) = UnknownTenant
answer_of places (For name command, mark) = answer_to_command name (stay_of places name) (command, mark)
answer_of places (Operator request, mark) = ToOperator (obeyed places request mark).0

-- whether a reply to the operator says that memory was refused
abbrev pub is_operator_memory : OperatorReply → Bool
is_operator_memory (Refused Memory) = true
is_operator_memory _ = false

-- whether an answer says that memory was refused
abbrev pub tells_memory : LineAnswer → Bool
tells_memory Silent = false
tells_memory LineTooLong = false
tells_memory UnknownTenant = false
tells_memory (Replied name reply) = is_memory reply
tells_memory (ToOperator reply) = is_operator_memory reply

-- a text with a line feed
abbrev pub ended : List ℕ → List ℕ
ended text = text ++ 10 ∷ []

-- what is written for an answer
abbrev pub text_of_answer : LineAnswer → List ℕ
text_of_answer Silent = []
text_of_answer LineTooLong = ended (codes "! line-too-long")
text_of_answer UnknownTenant = ended (codes "! unknown-tenant")
text_of_answer (Replied name reply) = ended (text_of_reply name reply)
text_of_answer (ToOperator reply) = ended (text_of_operator_reply reply)
