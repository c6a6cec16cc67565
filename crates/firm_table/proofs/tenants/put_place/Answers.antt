use Rattle.std.proofs.Common.{◌≡◌, ◌∙◌, ◌++◌, List, ℕ, ap, refl}
use Rattle.std.specs.List.{flat_map}
use Rattle.firm_rules.specs.Book.{Book}
use Rattle.firm_saved.specs.StateText.{book_rows, row_text}
use Rattle.firm_saved.specs.declared.rows.Row.TheVariants as row
use Rattle.firm_table.proofs.Stating.{kept_trans, tenant_added}
use Rattle.firm_table.proofs.tenants.put_place.Goals as goal

pub returns-in-Ok-put_book-clause-added : goal.returns-in-Ok-put_book-clause-added
returns-in-Ok-put_book-clause-added c =
    let old : List ℕ = c.args.output.now.items in
    let first : List ℕ = c.put_row.new.output.items in
    let book : record { rows = c.rows.result.now; costs = c.costs.result; given = c.given.result }
    ≡ c.in-Some-Some.tenant =
    rw (c.rows.ensures, c.costs.ensures, c.given.ensures.value) refl in
    tenant_added old first c.put_book.new.output.items c.args.entry.now c.in-Some-Some.name c.in-Some-Some.tenant
    c.args.tenant.now c.in-Some-Some.is-0 c.in-Some-Some.is-1
    (c.in-Ok.ensures.added ∙ ap (λ (n : ℕ). old ++ row_text (row.Place n)) c.from.ensures)
    (c.in-Ok-put_book.ensures.added
    ∙ ap (λ (b : Book). first ++ flat_map row_text (book_rows c.in-Some-Some.name b)) book)

pub returns-in-Ok-put_book-clause-kept : goal.returns-in-Ok-put_book-clause-kept
returns-in-Ok-put_book-clause-kept c =
    kept_trans _ _ _ c.in-Ok-put_book.ensures.kept c.in-Ok.ensures.kept

pub returns-in-Err-clause-kept : goal.returns-in-Err-clause-kept
returns-in-Err-clause-kept c =
    kept_trans _ _ _ c.in-Err.ensures.kept c.in-Ok.ensures.kept

pub returns-in_default-clause-added : goal.returns-in_default-clause-added
returns-in_default-clause-added c = tt

pub returns-in_default-clause-count : goal.returns-in_default-clause-count
returns-in_default-clause-count c = tt

pub returns-in_default-clause-few : goal.returns-in_default-clause-few
returns-in_default-clause-few c = tt

pub returns-in_default-clause-sound : goal.returns-in_default-clause-sound
returns-in_default-clause-sound c = tt

pub returns-in-Err-clause-added : goal.returns-in-Err-clause-added
returns-in-Err-clause-added c = tt

pub returns-in-Err-clause-count : goal.returns-in-Err-clause-count
returns-in-Err-clause-count c = tt

pub returns-in-Err-clause-few : goal.returns-in-Err-clause-few
returns-in-Err-clause-few c = tt

pub returns-in-Err-clause-sound : goal.returns-in-Err-clause-sound
returns-in-Err-clause-sound c = tt
