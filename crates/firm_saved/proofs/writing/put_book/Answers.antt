use Rattle.std.proofs.Common.{◌≡◌, ◌∙◌, ◌+◌, ◌++◌, length, map, refl, sym, arith}
use Rattle.std.specs.List.{flat_map}
use Rattle.std.proofs.lemmas.List.{length-append, length-map}
use Rattle.std.proofs.lemmas.Result.{err_from_is_err_and}
use Rattle.firm_rules.specs.Book.{TenantRows}
use Rattle.firm_saved.specs.StateText.{row_text}
use Rattle.firm_saved.specs.declared.rows.Row.TheVariants as row
use Rattle.firm_saved.proofs.Puts.{kept_trans, three_joined}
use Rattle.firm_saved.proofs.writing.put_book.Goals as goal

pub returns-clause-added : goal.returns-clause-added
returns-clause-added c =
    let rows = c.args.rows.now in
    three_joined c.args.output.now.items c.put_row.new.output.items c.put_row-2.new.output.items
    c.put_rows.new.output.items (row_text (row.Tenant c.args.name c.limits.result c.args.given))
    (row_text (row.Costs c.args.costs))
    (flat_map row_text (map row.Machine rows.machines ++ map row.Job rows.jobs ++ map row.Task rows.tasks)) _
    c.in_ok-put_row.ensures.added c.in_ok-put_row-2.ensures.added c.in_ok-put_rows.ensures.added
    (rw c.limits.ensures.limits refl)

pub returns-in_err-put_row-2-clause-kept : goal.returns-in_err-put_row-2-clause-kept
returns-in_err-put_row-2-clause-kept c = kept_trans _ _ _ c.put_row-2.ensures.kept c.put_row.ensures.kept

pub returns-in_err-put_rows-clause-kept : goal.returns-in_err-put_rows-clause-kept
returns-in_err-put_rows-clause-kept c =
    kept_trans _ _ _ c.put_rows.ensures.kept (kept_trans _ _ _ c.put_row-2.ensures.kept c.put_row.ensures.kept)

pub returns-clause-kept : goal.returns-clause-kept
returns-clause-kept c =
    kept_trans _ _ _ c.put_rows.ensures.kept (kept_trans _ _ _ c.put_row-2.ensures.kept c.put_row.ensures.kept)

pub returns-in_err-put_row-clause-added : goal.returns-in_err-put_row-clause-added
returns-in_err-put_row-clause-added c = rw (err_from_is_err_and c.from_residual.result c.from_residual.ensures.1).1 tt

pub returns-in_err-put_row-clause-count : goal.returns-in_err-put_row-clause-count
returns-in_err-put_row-clause-count c = rw (err_from_is_err_and c.from_residual.result c.from_residual.ensures.1).1 tt

pub returns-in_err-put_row-clause-few : goal.returns-in_err-put_row-clause-few
returns-in_err-put_row-clause-few c = rw (err_from_is_err_and c.from_residual.result c.from_residual.ensures.1).1 tt

pub returns-in_err-put_row-2-clause-added : goal.returns-in_err-put_row-2-clause-added
returns-in_err-put_row-2-clause-added c =
    rw (err_from_is_err_and c.from_residual-in_err-put_row-2.result c.from_residual-in_err-put_row-2.ensures.1).1 tt

pub returns-in_err-put_row-2-clause-count : goal.returns-in_err-put_row-2-clause-count
returns-in_err-put_row-2-clause-count c =
    rw (err_from_is_err_and c.from_residual-in_err-put_row-2.result c.from_residual-in_err-put_row-2.ensures.1).1 tt

pub returns-in_err-put_row-2-clause-few : goal.returns-in_err-put_row-2-clause-few
returns-in_err-put_row-2-clause-few c =
    rw (err_from_is_err_and c.from_residual-in_err-put_row-2.result c.from_residual-in_err-put_row-2.ensures.1).1 tt

pub returns-in_err-put_rows-clause-added : goal.returns-in_err-put_rows-clause-added
returns-in_err-put_rows-clause-added c =
    rw (err_from_is_err_and c.from_residual-in_err-put_rows.result c.from_residual-in_err-put_rows.ensures.1).1 tt

pub returns-in_err-put_rows-clause-count : goal.returns-in_err-put_rows-clause-count
returns-in_err-put_rows-clause-count c =
    rw (err_from_is_err_and c.from_residual-in_err-put_rows.result c.from_residual-in_err-put_rows.ensures.1).1 tt

pub returns-in_err-put_rows-clause-few : goal.returns-in_err-put_rows-clause-few
returns-in_err-put_rows-clause-few c =
    rw (err_from_is_err_and c.from_residual-in_err-put_rows.result c.from_residual-in_err-put_rows.ensures.1).1 tt

count_rows : (rows : TenantRows)
    → length (map row.Machine rows.machines ++ map row.Job rows.jobs ++ map row.Task rows.tasks)
    ≡ length rows.machines + length rows.jobs + length rows.tasks
count_rows rows = simp (length-append, length-map)

pub returns-clause-count : goal.returns-clause-count
returns-clause-count c =
    let rows = c.row_count.ensures.count ∙ sym (count_rows c.args.rows.now) in
    omega (arith, rows)

pub returns-clause-few : goal.returns-clause-few
returns-clause-few c = omega (arith, c.row_count.ensures.few)
