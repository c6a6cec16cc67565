use Rattle.firm_state.proofs.Naming.{asks, misasks}
use Rattle.firm_state.specs.Program.{AsksAmiss, NamesNothing, Stops, Writes}
use Rattle.std.proofs.Common.{refl}
use Rattle.firm_state.proofs.program.run.Goals as goal

pub returns-in-Err : goal.returns-in-Err
returns-in-Err g c =
    NamesNothing (record { unread = refl; reads = c.requires.reader })
    (c.answer_words.ensures _ c.in-Err.ensures.faults)

pub returns-in-Err-of : goal.returns-in-Err-of
returns-in-Err-of g c =
    AsksAmiss c.in-Ok.ensures.faults c.in-Err-of.fault c.tell.ensures
    (misasks _ c.in-Ok.given _ c.in-Ok.ensures.faults c.in-Ok.ensures.given c.in-Err-of.ensures)
    (record { unread = refl; unwritten = refl; reads = c.requires.reader; writes = c.requires.writer })

pub returns-in-Ok-write_state : goal.returns-in-Ok-write_state
returns-in-Ok-write_state g c =
    Writes _ (asks _ c.in-Ok.given c.in-Ok-of.request c.in-Ok.ensures.faults c.in-Ok.ensures.given c.in-Ok-of.ensures)
    refl c.in-Ok-write_state.ensures

pub returns : goal.returns
returns g c =
    Stops _ (asks _ c.in-Ok.given c.in-Ok-of.request c.in-Ok.ensures.faults c.in-Ok.ensures.given c.in-Ok-of.ensures)
    c.in-Err-write_state.fault c.tell-in-Err-write_state.ensures c.in-Err-write_state.ensures
