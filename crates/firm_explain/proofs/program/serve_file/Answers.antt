use Rattle.firm_program.specs.Laws.{opens_roster, opens_state, stops_at_file}
use Rattle.firm_explain.specs.Program.{StopsServing}
use Rattle.firm_explain.proofs.Naming.{explains_or_stops}
use Rattle.firm_explain.proofs.program.serve_file.Goals as goal

pub returns-in-Ok : goal.returns-in-Ok
returns-in-Ok g c =
    let files = g.R.FileSystem.bytes_at c.args.rt.now in
    rw c.in-Roster.is (explains_or_stops files _ _ _ _ (opens_roster files c.in-Roster.path _ c.in-Ok.ensures.read)
    c.serve_opening.result c.ended.result c.serve_opening.ensures.served c.serve_opening.ensures.stopped
    c.ended.ensures)

pub returns-in-Err : goal.returns-in-Err
returns-in-Err g c =
    rw c.in-Roster.is (StopsServing (stops_at_file _ _ _ _ _ _ c.requires.reader c.requires.replies _
    c.in-Err.ensures.refused))

pub returns-in-Ok-read_state : goal.returns-in-Ok-read_state
returns-in-Ok-read_state g c =
    let files = g.R.FileSystem.bytes_at c.args.rt.now in
    rw c.in-State.is (explains_or_stops files _ _ _ _
    (opens_state files c.in-State.path _ c.in-Ok-read_state.ensures.read)
    c.serve_opening-in-Ok-read_state.result c.ended-in-Ok-read_state.result
    c.serve_opening-in-Ok-read_state.ensures.served c.serve_opening-in-Ok-read_state.ensures.stopped
    c.ended-in-Ok-read_state.ensures)

pub returns-in-Err-read_state : goal.returns-in-Err-read_state
returns-in-Err-read_state g c =
    rw c.in-State.is (StopsServing (stops_at_file _ _ _ _ _ _ c.requires.reader c.requires.replies _
    c.in-Err-read_state.ensures.refused))
