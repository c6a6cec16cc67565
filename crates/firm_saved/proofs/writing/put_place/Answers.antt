use Rattle.std.proofs.Common.{◌≡◌, ◌∙◌, ◌++◌, List, ℕ, ap, refl, sym}
use Rattle.std.specs.List.{flat_map}
use Rattle.std.proofs.lemmas.Result.{err_from_is_err_and}
use Rattle.firm_rules.specs.Book.{Book}
use Rattle.firm_saved.specs.StateText.{book_rows, place_rows, row_text, tenant_rows}
use Rattle.firm_saved.specs.declared.rows.Row.{Row}
use Rattle.firm_saved.specs.declared.rows.Row.TheVariants as row
use Rattle.firm_saved.specs.declared.saved.SavedPlace.{SavedPlace}
use Rattle.firm_saved.proofs.Puts.{kept_trans, two_added}
use Rattle.firm_saved.proofs.writing.put_place.Goals as goal

pub returns-in_ok-count-in-Some-clause-added : goal.returns-in_ok-count-in-Some-clause-added
returns-in_ok-count-in-Some-clause-added c =
    let place : SavedPlace = c.args.place.now in
    let text : List ℕ = c.args.output.now.items in
    let first : List ℕ = c.put_row.new.output.items in
    let placed : first ≡ text ++ row_text (row.Place place.admissions) =
    c.in_ok-put_row.ensures.added ∙ ap (λ n. text ++ row_text (row.Place n)) c.from.ensures in
    let book : record { rows = c.rows.result.now; costs = c.costs.result; given = c.given.result } ≡ c.in-Some.book =
    rw (c.rows.ensures.value, c.costs.ensures.value, c.given.ensures.value) refl in
    let rows : tenant_rows place.tenant ≡ book_rows c.in-Some.name c.in-Some.book = ap tenant_rows c.in-Some.is in
    two_added c.put_book.new.output.items first text (row_text (row.Place place.admissions))
    (flat_map row_text (tenant_rows place.tenant)) (flat_map row_text (place_rows place)) placed
    (c.in_ok-count-in-Some.ensures.added
    ∙ ap (λ (b : Book). first ++ flat_map row_text (book_rows c.in-Some.name b)) book
    ∙ ap (λ (l : List Row). first ++ flat_map row_text l) (sym rows)) refl

pub returns-in_err-count-in-Some-clause-kept : goal.returns-in_err-count-in-Some-clause-kept
returns-in_err-count-in-Some-clause-kept c = kept_trans _ _ _ c.put_book.ensures.kept c.put_row.ensures.kept

pub returns-in_ok-count-in-Some-clause-kept : goal.returns-in_ok-count-in-Some-clause-kept
returns-in_ok-count-in-Some-clause-kept c = kept_trans _ _ _ c.put_book.ensures.kept c.put_row.ensures.kept

pub returns-in_err-put_row-clause-added : goal.returns-in_err-put_row-clause-added
returns-in_err-put_row-clause-added c = rw (err_from_is_err_and c.from_residual.result c.from_residual.ensures.1).1 tt

pub returns-in_err-put_row-clause-count : goal.returns-in_err-put_row-clause-count
returns-in_err-put_row-clause-count c = rw (err_from_is_err_and c.from_residual.result c.from_residual.ensures.1).1 tt

pub returns-in_err-put_row-clause-few : goal.returns-in_err-put_row-clause-few
returns-in_err-put_row-clause-few c = rw (err_from_is_err_and c.from_residual.result c.from_residual.ensures.1).1 tt

pub returns-in_err-count-in-Some-clause-added : goal.returns-in_err-count-in-Some-clause-added
returns-in_err-count-in-Some-clause-added c =
    rw
    (err_from_is_err_and c.from_residual-in_err-count-in-Some.result
    c.from_residual-in_err-count-in-Some.ensures.1).1 tt

pub returns-in_err-count-in-Some-clause-count : goal.returns-in_err-count-in-Some-clause-count
returns-in_err-count-in-Some-clause-count c =
    rw
    (err_from_is_err_and c.from_residual-in_err-count-in-Some.result
    c.from_residual-in_err-count-in-Some.ensures.1).1 tt

pub returns-in_err-count-in-Some-clause-few : goal.returns-in_err-count-in-Some-clause-few
returns-in_err-count-in-Some-clause-few c =
    rw
    (err_from_is_err_and c.from_residual-in_err-count-in-Some.result
    c.from_residual-in_err-count-in-Some.ensures.1).1 tt
