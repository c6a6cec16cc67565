use Rattle.std.proofs.Common.{◌∙◌, sym}
use Rattle.std.proofs.lemmas.Result.{IfOk-weaker}
use Rattle.firm_table.proofs.Saving.{saved_at, saved_book}
use Rattle.firm_table.proofs.openings.Opening.tenant_at.Goals as goal

pub returns-in-State : goal.returns-in-State
returns-in-State c =
    let saved = c.in-State.saved.now.places in
    rw (c.in-State.is, saved_at saved c.args.place)
    (IfOk-weaker c.restored_at.result _ _ (λ tenant is. is ∙ sym (saved_book _)) c.restored_at.ensures)
