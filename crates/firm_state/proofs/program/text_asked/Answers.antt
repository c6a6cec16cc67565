use Rattle.std.proofs.Common.{◌≡◌, ◌∙◌, ℕ, List, arith, length}
use Rattle.std.specs.Borrow.{Bor}
use Rattle.std.proofs.lemmas.List.{length-map}
use Rattle.std.proofs.lemmas.Result.{err_from_is_err_and}
use Rattle.firm_state.proofs.Changes.{tells_changed, tells_folded}
use Rattle.firm_state.proofs.Stopping.{stops_changing}
use Rattle.firm_state.specs.CommandLine.{texts}
use Rattle.firm_state.specs.Program.{NotFolded}
use Rattle.firm_state.specs.inner.Options.{asked_by}
use Rattle.firm_state.proofs.program.text_asked.Goals as goal

pub returns-in_err-text : goal.returns-in_err-text
returns-in_err-text g c =
    let p = err_from_is_err_and c.from_residual.result c.from_residual.ensures.1 in
    rw (p.1, p.2) (NotFolded c.in_err-text.ensures)

pub returns-then-is_empty-2 : goal.returns-then-is_empty-2
returns-then-is_empty-2 g c =
    let few : length c.args.request.now.others.items ≡ 0 = grind arith in
    let none : length (texts c.args.request.now.others.items) ≡ 0 =
    length-map c.args.request.now.others.items (λ (word : Bor (List ℕ)). word.now) ∙ few in
    let nobody : length c.args.request.now.names.items ≡ 0 = grind arith in
    tells_folded _ (asked_by c.args.request.now) _ c.in_ok-text.text.items c.in_ok-text.ensures none nobody

pub returns-in_err-change : goal.returns-in_err-change
returns-in_err-change g c =
    let p = err_from_is_err_and c.from_residual-in_err-change.result c.from_residual-in_err-change.ensures.1 in
    rw (p.1, p.2) (stops_changing _ (asked_by c.args.request.now) _ c.in_ok-text.text.items _ c.in_ok-text.ensures
    c.in_err-change.ensures)

pub returns : goal.returns
returns g c =
    tells_changed _ (asked_by c.args.request.now) _ c.in_ok-text.text.items _ c.in_ok-text.ensures
    c.in_ok-change.ensures
