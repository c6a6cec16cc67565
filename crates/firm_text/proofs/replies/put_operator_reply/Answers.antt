use Rattle.std.proofs.lemmas.Grind.{common_steps}
use Rattle.std.proofs.Common.{arith}
use Rattle.std.proofs.Transfers.{starts_with_of_append}
use Rattle.firm_text.proofs.Puts.{kept_trans}
use Rattle.firm_text.proofs.replies.put_operator_reply.Goals as goal

pub returns-clause-kept : goal.returns-clause-kept
returns-clause-kept c =
    kept_trans _ _ _ c.put_operator_words.ensures.kept
    (starts_with_of_append _ _ _ c.in_ok-extend_from_slice.ensures.items)

pub returns-clause-added : goal.returns-clause-added
returns-clause-added c = grind (arith, common_steps)
