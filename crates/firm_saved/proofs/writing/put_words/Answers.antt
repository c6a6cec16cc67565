use Rattle.std.proofs.Common.{◌≡◌, ◌++◌, subst, sym}
use Rattle.std.specs.Prelude.{OnOk}
use Rattle.firm_saved.specs.StateText.{row_words, words_text}
use Rattle.firm_saved.specs.declared.rows.Row.{Row}
use Rattle.firm_saved.proofs.Puts.{place_added}
use Rattle.firm_saved.proofs.writing.put_words.Goals as goal

pub returns-in-Place-clause-added : goal.returns-in-Place-clause-added
returns-in-Place-clause-added c =
    subst
    (λ (r : Row). OnOk c.put_labelled.result
    (c.put_labelled.new.output.items ≡ c.args.output.now.items ++ words_text (row_words r)))
    (sym c.in-Place.is)
    (place_added c.put_labelled.result c.args.output.now.items c.put_labelled.new.output.items c.in-Place.admissions
    c.put_labelled.ensures.added)

pub returns-in-Tenant-clause-kept : goal.returns-in-Tenant-clause-kept
returns-in-Tenant-clause-kept c = c.put_tenant.ensures.kept

pub returns-in-Tenant-clause-added : goal.returns-in-Tenant-clause-added
returns-in-Tenant-clause-added c = rw c.in-Tenant.is c.put_tenant.ensures.added

pub returns-in-Machine-clause-kept : goal.returns-in-Machine-clause-kept
returns-in-Machine-clause-kept c = c.put_machine.ensures.kept

pub returns-in-Machine-clause-added : goal.returns-in-Machine-clause-added
returns-in-Machine-clause-added c = rw c.in-Machine.is c.put_machine.ensures.added

pub returns-in-Job-clause-kept : goal.returns-in-Job-clause-kept
returns-in-Job-clause-kept c = c.put_job.ensures.kept

pub returns-in-Job-clause-added : goal.returns-in-Job-clause-added
returns-in-Job-clause-added c = rw c.in-Job.is c.put_job.ensures.added

pub returns-in-Task-clause-kept : goal.returns-in-Task-clause-kept
returns-in-Task-clause-kept c = c.put_task.ensures.kept

pub returns-in-Task-clause-added : goal.returns-in-Task-clause-added
returns-in-Task-clause-added c = rw c.in-Task.is c.put_task.ensures.added
