use Rattle.std.proofs.lemmas.Result.{err_from_is_err_and}
use Rattle.firm_state.proofs.Stopping.{stops_unwritten, writes_or_stops}
use Rattle.firm_state.proofs.program.write_state.Goals as goal

pub returns-in_err-text : goal.returns-in_err-text
returns-in_err-text g c =
    let p = err_from_is_err_and c.from_residual.result c.from_residual.ensures.1 in
    rw (p.1, p.2) (stops_unwritten _ _ _ _ _ _ c.requires.writer c.in_err-text.ensures)

pub returns : goal.returns
returns g c =
    writes_or_stops _ _ _ _ c.in_ok-text.text.items c.write_out.result c.in_ok-text.ensures
    (rw (← c.deref.ensures.value) c.write_out.ensures)
