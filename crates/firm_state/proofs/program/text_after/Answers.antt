use Rattle.firm_state.proofs.Stopping.{from_roster, from_state, no_roster, no_state}
use Rattle.firm_state.proofs.program.text_after.Goals as goal

pub returns-in-Ok : goal.returns-in-Ok
returns-in-Ok g c =
    rw c.in-Roster.is (from_roster _ _ _ _ c.in-Ok.ensures.read c.fold.result c.fold.ensures)

pub returns-in-Err : goal.returns-in-Err
returns-in-Err g c = rw c.in-Roster.is (no_roster _ _ _ _ c.requires _ c.in-Err.ensures.refused)

pub returns-in-Ok-read_state : goal.returns-in-Ok-read_state
returns-in-Ok-read_state g c =
    rw c.in-State.is (from_state _ _ _ _ c.in-Ok-read_state.ensures.read c.fold-in-Ok-read_state.result
    c.fold-in-Ok-read_state.ensures)

pub returns-in-Err-read_state : goal.returns-in-Err-read_state
returns-in-Err-read_state g c =
    rw c.in-State.is (no_state _ _ _ _ c.requires _ c.in-Err-read_state.ensures.refused)
