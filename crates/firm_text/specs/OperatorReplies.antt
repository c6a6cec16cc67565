-- The text of a reply to the operator.
use Rattle.std.specs.Prelude.{ℕ, List, [], ◌∷◌, ◌++◌, codes}
use Rattle.std.specs.List.{flat_map}
use Rattle.firm_text.specs.OperatorLines.{operator_word}
use Rattle.firm_text.specs.OperatorRefusals.{operator_code, operator_name}
use Rattle.firm_text.specs.Replies.{labelled, spaced}
use Rattle.firm_text.specs.declared.operator.OperatorReply.{OperatorReply}
use Rattle.firm_text.specs.declared.operator.OperatorReply.TheVariants.{Admitted, Retired, Refused}

-- the words of a reply to the operator
abbrev pub operator_reply_words : OperatorReply → List (List ℕ)
operator_reply_words (Admitted name) = codes "ok" ∷ codes "admitted" ∷ name ∷ []
operator_reply_words (Retired name) = codes "ok" ∷ codes "retired" ∷ name ∷ []
operator_reply_words (Refused refusal) = labelled (codes "no") (operator_code refusal) ++ operator_name refusal ∷ []

-- the line of a reply to the operator, without its line feed
abbrev pub text_of_operator_reply : OperatorReply → List ℕ
text_of_operator_reply reply = operator_word ++ flat_map spaced (operator_reply_words reply)
