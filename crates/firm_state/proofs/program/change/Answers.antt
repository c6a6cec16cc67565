use Rattle.std.proofs.Common.{◌∙◌, ◌++◌, ℕ, List, ap}
use Rattle.std.proofs.lemmas.Result.{err_from_is_err_and}
use Rattle.firm_saved.specs.StateText.{state_text}
use Rattle.firm_state.specs.CommandLine.{texts}
use Rattle.firm_state.specs.Program.{NoMemoryToChange}
use Rattle.firm_state.specs.inner.Options.{asked_by}
use Rattle.firm_state.proofs.Changes.{changes, not_joined, not_there, of_memory}
use Rattle.firm_state.proofs.program.change.Goals as goal

pub returns-in_err-alone : goal.returns-in_err-alone
returns-in_err-alone g c =
    let p = err_from_is_err_and c.from_residual.result c.from_residual.ensures.1 in
    rw p.1 (λ saved sound is. NoMemoryToChange
    (p.2 ∙ of_memory _ (c.in_err-alone.ensures.only saved sound (c.deref.ensures.value ∙ is))))

pub returns-in_err-both : goal.returns-in_err-both
returns-in_err-both g c =
    let p = err_from_is_err_and c.from_residual-in_err-both.result c.from_residual-in_err-both.ensures.1 in
    rw (p.1, p.2) (λ saved sound is.
    not_joined _ (asked_by c.args.request.now) saved c.in_ok-alone.alone
    (c.in_ok-alone.ensures.only saved sound (c.deref.ensures.value ∙ is)) (texts c.deref-2.result.now)
    (ap texts c.deref-2.ensures.value) _ c.in_err-both.ensures)

pub returns-in_err-after : goal.returns-in_err-after
returns-in_err-after g c =
    let p = err_from_is_err_and c.from_residual-in_err-after.result c.from_residual-in_err-after.ensures.1 in
    rw (p.1, p.2) (λ saved sound is.
    not_there _ (asked_by c.args.request.now) saved c.in_ok-alone.alone
    (c.in_ok-alone.ensures.only saved sound (c.deref.ensures.value ∙ is)) (texts c.deref-2.result.now)
    (ap texts c.deref-2.ensures.value) c.deref-3.result.now c.in_ok-both.both _
    c.deref-3.ensures.value c.in_ok-both.ensures c.in_err-after.ensures)

pub returns : goal.returns
returns g c saved sound is =
    changes _ (asked_by c.args.request.now) saved c.in_ok-alone.alone
    (c.in_ok-alone.ensures.only saved sound (c.deref.ensures.value ∙ is)) (texts c.deref-2.result.now)
    (ap texts c.deref-2.ensures.value) c.deref-3.result.now c.in_ok-both.both
    c.in_ok-after.after _ c.deref-3.ensures.value c.in_ok-both.ensures c.in_ok-after.ensures
    c.places.ensures.sound
    (c.in_ok-put_state.ensures.added
    ∙ ap (λ (text : List ℕ). text ++ state_text c.in_ok-after.after) c.clear.ensures.items)
