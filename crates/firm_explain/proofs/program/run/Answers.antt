use Rattle.std.proofs.Common.{◌∙◌, refl}
use Rattle.firm_explain.specs.Program.{AsksAmiss, Explains, NamesNothing, Stops}
use Rattle.firm_explain.proofs.Naming.{asks, misasked, misasks}
use Rattle.firm_explain.proofs.program.run.Goals as goal

pub returns-in-Err : goal.returns-in-Err
returns-in-Err g c =
    NamesNothing (record { unread = refl; reads = c.requires.reader })
    (c.answer_words.ensures _ c.in-Err.ensures.faults)

pub returns-in-Err-of : goal.returns-in-Err-of
returns-in-Err-of g c =
    AsksAmiss c.in-Ok.ensures.faults
    (misasks _ c.in-Ok.given _ c.in-Ok.ensures.faults c.in-Ok.ensures.given c.in-Err-of.ensures.asked)
    (c.tell.ensures ∙ misasked c.in-Ok.given _ c.in-Err-of.ensures.asked)
    (record { unread = refl; unwritten = refl; reads = c.requires.reader; writes = c.requires.replies })

pub returns-in-Ok-serve_file : goal.returns-in-Ok-serve_file
returns-in-Ok-serve_file g c =
    Explains _ (asks _ c.in-Ok.given _ c.in-Ok.ensures.faults c.in-Ok.ensures.given c.in-Ok-of.ensures.asked) refl
    c.in-Ok-serve_file.ensures

pub returns-in-Err-serve_file : goal.returns-in-Err-serve_file
returns-in-Err-serve_file g c =
    Stops _ (asks _ c.in-Ok.given _ c.in-Ok.ensures.faults c.in-Ok.ensures.given c.in-Ok-of.ensures.asked)
    c.in-Err-serve_file.fault c.tell-in-Err-serve_file.ensures c.in-Err-serve_file.ensures
