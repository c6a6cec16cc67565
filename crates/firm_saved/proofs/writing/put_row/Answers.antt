use Rattle.std.proofs.Common.{refl}
use Rattle.firm_saved.proofs.Puts.{kept_trans, then_added}
use Rattle.firm_saved.proofs.writing.put_row.Goals as goal

pub returns-in_err-put_words-clause-kept : goal.returns-in_err-put_words-clause-kept
returns-in_err-put_words-clause-kept c = c.put_words.ensures.kept

pub returns-clause-kept : goal.returns-clause-kept
returns-clause-kept c = kept_trans _ _ _ c.end_line.ensures.kept c.put_words.ensures.kept

pub returns-clause-added : goal.returns-clause-added
returns-clause-added c =
    then_added c.end_line.result _ _ _ _ _ _ c.in_ok-put_words.ensures.added c.end_line.ensures.added refl
