use Rattle.std.proofs.lemmas.Result.{err_from_is_err_and}
use Rattle.firm_saved.proofs.Puts.{kept_trans}
use Rattle.firm_saved.proofs.writing.put_tenant.Goals as goal

pub returns-in_err-put_limits-clause-kept : goal.returns-in_err-put_limits-clause-kept
returns-in_err-put_limits-clause-kept c = kept_trans _ _ _ c.put_limits.ensures.kept c.put_after.ensures.kept

pub returns-clause-kept : goal.returns-clause-kept
returns-clause-kept c =
    kept_trans _ _ _ c.put_labelled.ensures.kept
    (kept_trans _ _ _ c.put_limits.ensures.kept c.put_after.ensures.kept)

pub returns-in_err-put_after-clause-added : goal.returns-in_err-put_after-clause-added
returns-in_err-put_after-clause-added c =
    rw (err_from_is_err_and c.from_residual.result c.from_residual.ensures.1).1 tt

pub returns-in_err-put_limits-clause-added : goal.returns-in_err-put_limits-clause-added
returns-in_err-put_limits-clause-added c =
    rw (err_from_is_err_and c.from_residual-in_err-put_limits.result c.from_residual-in_err-put_limits.ensures.1).1 tt
