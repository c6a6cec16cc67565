use Rattle.std.proofs.Common.{◌∙◌}
use Rattle.std.proofs.lemmas.Result.{err_from_is_err_and}
use Rattle.firm_table.proofs.Written.{answers_kept, all_written}
use Rattle.firm_table.proofs.reading.answer_end.Goals as goal

pub returns-in-Ok-clause-answers : goal.returns-in-Ok-clause-answers
returns-in-Ok-clause-answers g c heard written h =
    rw c.in_ok-answer_rest.ensures.opening at
    (answers_kept (g.C.Clerk.opening c.answer_rest.new.clerk) heard written (g.W.Sink.written c.finish.new.writer) _
    (c.in_ok-finish.ensures.answers heard written (c.in_ok-answer_rest.ensures.told heard written h))
    c.in-Ok.ensures.kept)

pub returns-in-Err-clause-begins : goal.returns-in-Err-clause-begins
returns-in-Err-clause-begins g c heard written h =
    rw c.in_ok-answer_rest.ensures.opening at
    (all_written (g.C.Clerk.opening c.answer_rest.new.clerk) heard written (g.W.Sink.written c.finish.new.writer) _
    (c.in_ok-finish.ensures.answers heard written (c.in_ok-answer_rest.ensures.told heard written h))
    c.flush.ensures.kept)

pub returns-in-Ok-clause-opening : goal.returns-in-Ok-clause-opening
returns-in-Ok-clause-opening g c = c.in_ok-finish.ensures.opening ∙ c.in_ok-answer_rest.ensures.opening

pub returns-in-Ok-clause-kept : goal.returns-in-Ok-clause-kept
returns-in-Ok-clause-kept g c = c.in_ok-finish.ensures.kept ∙ c.in_ok-answer_rest.ensures.kept

pub returns-in-Ok-clause-open : goal.returns-in-Ok-clause-open
returns-in-Ok-clause-open g c = c.in_ok-finish.ensures.open

pub returns-in-Err-clause-opening : goal.returns-in-Err-clause-opening
returns-in-Err-clause-opening g c = c.in_ok-finish.ensures.opening ∙ c.in_ok-answer_rest.ensures.opening

pub returns-in-Err-clause-kept : goal.returns-in-Err-clause-kept
returns-in-Err-clause-kept g c = c.in_ok-finish.ensures.kept ∙ c.in_ok-answer_rest.ensures.kept

pub returns-in-Err-clause-open : goal.returns-in-Err-clause-open
returns-in-Err-clause-open g c = c.in_ok-finish.ensures.open

pub returns-in_err-finish-clause-opening : goal.returns-in_err-finish-clause-opening
returns-in_err-finish-clause-opening g c = c.in_err-finish.ensures.opening ∙ c.in_ok-answer_rest.ensures.opening

pub returns-in_err-finish-clause-kept : goal.returns-in_err-finish-clause-kept
returns-in_err-finish-clause-kept g c = c.in_err-finish.ensures.kept ∙ c.in_ok-answer_rest.ensures.kept

pub returns-in_err-finish-clause-open : goal.returns-in_err-finish-clause-open
returns-in_err-finish-clause-open g c = c.in_err-finish.ensures.open

pub returns-in-Ok-clause-begins : goal.returns-in-Ok-clause-begins
returns-in-Ok-clause-begins g c = tt

pub returns-in-Ok-clause-cause : goal.returns-in-Ok-clause-cause
returns-in-Ok-clause-cause g c = tt

pub returns-in-Ok-clause-finished : goal.returns-in-Ok-clause-finished
returns-in-Ok-clause-finished g c = c.in_ok-finish.ensures.finished

pub returns-in-Err-clause-answers : goal.returns-in-Err-clause-answers
returns-in-Err-clause-answers g c = tt

pub returns-in-Err-clause-finished : goal.returns-in-Err-clause-finished
returns-in-Err-clause-finished g c = tt

pub returns-in-Err-clause-told : goal.returns-in-Err-clause-told
returns-in-Err-clause-told g c = tt

pub returns-in-Err-clause-well : goal.returns-in-Err-clause-well
returns-in-Err-clause-well g c = tt

pub returns-in_err-answer_rest-clause-answers : goal.returns-in_err-answer_rest-clause-answers
returns-in_err-answer_rest-clause-answers g c =
    rw (err_from_is_err_and c.from_residual.result c.from_residual.ensures.1).1 tt

pub returns-in_err-answer_rest-clause-finished : goal.returns-in_err-answer_rest-clause-finished
returns-in_err-answer_rest-clause-finished g c =
    rw (err_from_is_err_and c.from_residual.result c.from_residual.ensures.1).1 tt

pub returns-in_err-answer_rest-clause-told : goal.returns-in_err-answer_rest-clause-told
returns-in_err-answer_rest-clause-told g c =
    rw (err_from_is_err_and c.from_residual.result c.from_residual.ensures.1).1 tt

pub returns-in_err-answer_rest-clause-well : goal.returns-in_err-answer_rest-clause-well
returns-in_err-answer_rest-clause-well g c =
    rw (err_from_is_err_and c.from_residual.result c.from_residual.ensures.1).1 tt

pub returns-in_err-answer_rest-clause-cause : goal.returns-in_err-answer_rest-clause-cause
returns-in_err-answer_rest-clause-cause g c =
    let p = err_from_is_err_and c.from_residual.result c.from_residual.ensures.1 in
    rw (p.1, p.2) c.in_err-answer_rest.ensures.cause

pub returns-in_err-finish-clause-answers : goal.returns-in_err-finish-clause-answers
returns-in_err-finish-clause-answers g c =
    rw (err_from_is_err_and c.from_residual-in_err-finish.result c.from_residual-in_err-finish.ensures.1).1 tt

pub returns-in_err-finish-clause-finished : goal.returns-in_err-finish-clause-finished
returns-in_err-finish-clause-finished g c =
    rw (err_from_is_err_and c.from_residual-in_err-finish.result c.from_residual-in_err-finish.ensures.1).1 tt

pub returns-in_err-finish-clause-told : goal.returns-in_err-finish-clause-told
returns-in_err-finish-clause-told g c =
    rw (err_from_is_err_and c.from_residual-in_err-finish.result c.from_residual-in_err-finish.ensures.1).1 tt

pub returns-in_err-finish-clause-well : goal.returns-in_err-finish-clause-well
returns-in_err-finish-clause-well g c =
    rw (err_from_is_err_and c.from_residual-in_err-finish.result c.from_residual-in_err-finish.ensures.1).1 tt

pub returns-in_err-finish-clause-cause : goal.returns-in_err-finish-clause-cause
returns-in_err-finish-clause-cause g c =
    let p = err_from_is_err_and c.from_residual-in_err-finish.result c.from_residual-in_err-finish.ensures.1 in
    rw (p.1, p.2) c.in_err-finish.ensures.cause

pub returns-in_err-answer_rest-clause-begins : goal.returns-in_err-answer_rest-clause-begins
returns-in_err-answer_rest-clause-begins g c =
    rw (err_from_is_err_and c.from_residual.result c.from_residual.ensures.1).1 c.in_err-answer_rest.ensures.begins

pub returns-in_err-finish-clause-begins : goal.returns-in_err-finish-clause-begins
returns-in_err-finish-clause-begins g c =
    rw (err_from_is_err_and c.from_residual-in_err-finish.result c.from_residual-in_err-finish.ensures.1).1
    (λ heard written h. rw c.in_ok-answer_rest.ensures.opening at
    (c.in_err-finish.ensures.begins heard written (c.in_ok-answer_rest.ensures.told heard written h)))
