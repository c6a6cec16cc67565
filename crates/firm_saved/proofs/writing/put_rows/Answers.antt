use Rattle.std.proofs.Common.{map, ◌∙◌, ◌++◌, List, ℕ, ap, sym, append_assoc}
use Rattle.std.specs.List.{flat_map}
use Rattle.std.proofs.lemmas.List.Concat.{flat_map-append}
use Rattle.std.proofs.lemmas.Result.{err_from_is_err_and}
use Rattle.firm_saved.specs.StateText.{row_text}
use Rattle.firm_saved.specs.declared.rows.Row.TheVariants as row
use Rattle.firm_saved.proofs.Puts.{kept_trans, three_added}
use Rattle.firm_saved.proofs.writing.put_rows.Goals as goal

pub returns-clause-added : goal.returns-clause-added
returns-clause-added c =
    let machines = map row.Machine c.args.rows.now.machines in
    let jobs = map row.Job c.args.rows.now.jobs in
    let tasks = map row.Task c.args.rows.now.tasks in
    three_added c.put_tasks.result c.args.output.now.items c.put_machines.new.output.items c.put_jobs.new.output.items
    c.put_tasks.new.output.items (flat_map row_text machines) (flat_map row_text jobs) (flat_map row_text tasks)
    (flat_map row_text (machines ++ jobs ++ tasks))
    c.in_ok-put_machines.ensures.added c.in_ok-put_jobs.ensures.added c.put_tasks.ensures.added
    (sym (flat_map-append row_text (machines ++ jobs) tasks
    ∙ ap (λ (l : List ℕ). l ++ flat_map row_text tasks) (flat_map-append row_text machines jobs)
    ∙ append_assoc (flat_map row_text machines) (flat_map row_text jobs) (flat_map row_text tasks)))

pub returns-in_err-put_jobs-clause-kept : goal.returns-in_err-put_jobs-clause-kept
returns-in_err-put_jobs-clause-kept c = kept_trans _ _ _ c.put_jobs.ensures.kept c.put_machines.ensures.kept

pub returns-clause-kept : goal.returns-clause-kept
returns-clause-kept c =
    kept_trans _ _ _ c.put_tasks.ensures.kept (kept_trans _ _ _ c.put_jobs.ensures.kept c.put_machines.ensures.kept)

pub returns-in_err-put_machines-clause-added : goal.returns-in_err-put_machines-clause-added
returns-in_err-put_machines-clause-added c =
    rw (err_from_is_err_and c.from_residual.result c.from_residual.ensures.1).1 tt

pub returns-in_err-put_jobs-clause-added : goal.returns-in_err-put_jobs-clause-added
returns-in_err-put_jobs-clause-added c =
    rw (err_from_is_err_and c.from_residual-in_err-put_jobs.result c.from_residual-in_err-put_jobs.ensures.1).1 tt
