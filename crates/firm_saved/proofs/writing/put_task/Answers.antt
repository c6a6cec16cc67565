use Rattle.std.proofs.lemmas.Result.{err_from_is_err_and}
use Rattle.firm_saved.proofs.Puts.{kept_trans}
use Rattle.firm_saved.proofs.writing.put_task.Goals as goal

pub returns-in_err-put_word-clause-kept : goal.returns-in_err-put_word-clause-kept
returns-in_err-put_word-clause-kept c = kept_trans _ _ _ c.put_word.ensures.kept c.put_after.ensures.kept

pub returns-in_err-put_standing-clause-kept : goal.returns-in_err-put_standing-clause-kept
returns-in_err-put_standing-clause-kept c =
    kept_trans _ _ _ c.put_standing.ensures.kept
    (kept_trans _ _ _ c.put_word.ensures.kept c.put_after.ensures.kept)

pub returns-clause-kept : goal.returns-clause-kept
returns-clause-kept c =
    kept_trans _ _ _ c.put_preferences.ensures.kept
    (kept_trans _ _ _ c.put_standing.ensures.kept
    (kept_trans _ _ _ c.put_word.ensures.kept c.put_after.ensures.kept))

pub returns-in_err-put_after-clause-added : goal.returns-in_err-put_after-clause-added
returns-in_err-put_after-clause-added c =
    rw (err_from_is_err_and c.from_residual.result c.from_residual.ensures.1).1 tt

pub returns-in_err-put_word-clause-added : goal.returns-in_err-put_word-clause-added
returns-in_err-put_word-clause-added c =
    rw (err_from_is_err_and c.from_residual-in_err-put_word.result c.from_residual-in_err-put_word.ensures.1).1 tt

pub returns-in_err-put_standing-clause-added : goal.returns-in_err-put_standing-clause-added
returns-in_err-put_standing-clause-added c =
    rw
    (err_from_is_err_and c.from_residual-in_err-put_standing.result
    c.from_residual-in_err-put_standing.ensures.1).1 tt
