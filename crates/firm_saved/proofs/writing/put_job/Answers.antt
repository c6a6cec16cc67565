use Rattle.firm_saved.proofs.Puts.{kept_trans}
use Rattle.firm_saved.proofs.writing.put_job.Goals as goal

pub returns-clause-kept : goal.returns-clause-kept
returns-clause-kept c = kept_trans _ _ _ c.put_labelled.ensures.kept c.put_after.ensures.kept
