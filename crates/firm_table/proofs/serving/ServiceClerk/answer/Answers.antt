use Rattle.std.proofs.Common.{◌≡◌, ◌∙◌, rules, ap, take, length, ℕ}
use Rattle.std.proofs.lemmas.Result.{on_ok_weaker, on_err_weaker}
use Rattle.firm_table.proofs.Granting.{all_written_as, one_more_as}
use Rattle.firm_table.proofs.Progress.{one_more_begins, told_begins, partly_written, all_written_now}
use Rattle.firm_table.proofs.Stops.{both_ok}
use Rattle.firm_table.proofs.serving.ServiceClerk.answer.Goals as goal

pub returns-in-Err-clause-begins : goal.returns-in-Err-clause-begins
returns-in-Err-clause-begins g c =
    let before : c.len-before.result ≡ length c.args.self.now.output.items = search rules in
    let kept : c.truncate.new.self.items ≡ c.args.self.now.output.items =
    c.truncate.ensures.items ∙ ap (λ (n : ℕ). take n c.put_answer.new.output.items) before
    ∙ c.put_answer.ensures.kept in
    let part = rw kept at c.in-Err.ensures.err in
    λ text after written more told.
    one_more_begins c.unmarked_steps_are_granted.ensures c.refuses_for_the_form.ensures _ text after written _
    c.args.line (partly_written _ text written _ _ part.0 told.told part.2) more

pub returns-in-Ok-write_held-clause-begins : goal.returns-in-Ok-write_held-clause-begins
returns-in-Ok-write_held-clause-begins g c text after written more told =
    let before : c.len-before.result ≡ length c.args.self.now.output.items = search rules in
    let kept : c.truncate.new.self.items ≡ c.args.self.now.output.items =
    c.truncate.ensures.items ∙ ap (λ (n : ℕ). take n c.put_answer.new.output.items) before
    ∙ c.put_answer.ensures.kept in
    one_more_begins c.unmarked_steps_are_granted.ensures c.refuses_for_the_form.ensures _ text after written
    _ c.args.line
    (all_written_now _ text _ written _ _ told.told
    (rw kept at c.in-Ok-write_held.ensures.ok) c.in-Ok-write_held.ensures.empty) more

pub returns-clause-begins : goal.returns-clause-begins
returns-clause-begins g c =
    let answered = c.in-Ok.ensures.answered in
    on_err_weaker c.write_held-2.result (λ part text after written more told.
    told_begins _ after written _
    (partly_written _ after written _ _ part.0
    (one_more_as _ _ text after written _ _ _ c.args.line told more answered).told part.2))
    c.write_held-2.ensures.err

pub returns-clause-told : goal.returns-clause-told
returns-clause-told g c =
    let answered = c.in-Ok.ensures.answered in
    on_ok_weaker c.write_held-2.result (λ both text after written more told.
    all_written_as _ _ after _ written _ _
    (one_more_as _ _ text after written _ _ _ c.args.line told more answered) both.0 both.1)
    (both_ok c.write_held-2.result _ _ c.write_held-2.ensures.ok c.write_held-2.ensures.empty)

pub returns-then-len-lt-FULL-clause-told : goal.returns-then-len-lt-FULL-clause-told
returns-then-len-lt-FULL-clause-told g c text after written more told =
    let answered = c.in-Ok.ensures.answered in
    one_more_as _ _ text after written _ _ _ c.args.line told more answered

pub returns-in-Err-clause-told : goal.returns-in-Err-clause-told
returns-in-Err-clause-told g c = tt

pub returns-in-Err-clause-well : goal.returns-in-Err-clause-well
returns-in-Err-clause-well g c = tt

pub returns-in-Ok-write_held-clause-told : goal.returns-in-Ok-write_held-clause-told
returns-in-Ok-write_held-clause-told g c = tt

pub returns-in-Ok-write_held-clause-well : goal.returns-in-Ok-write_held-clause-well
returns-in-Ok-write_held-clause-well g c = tt

pub returns-in-Err-clause-cause : goal.returns-in-Err-clause-cause
returns-in-Err-clause-cause g c = c.in-Err.ensures.cause

pub returns-in-Ok-write_held-clause-cause : goal.returns-in-Ok-write_held-clause-cause
returns-in-Ok-write_held-clause-cause g c = c.in-Ok-write_held.ensures.well

pub returns-then-len-lt-FULL-clause-begins : goal.returns-then-len-lt-FULL-clause-begins
returns-then-len-lt-FULL-clause-begins g c = tt

pub returns-then-len-lt-FULL-clause-cause : goal.returns-then-len-lt-FULL-clause-cause
returns-then-len-lt-FULL-clause-cause g c = tt

pub returns-clause-cause : goal.returns-clause-cause
returns-clause-cause g c = c.write_held-2.ensures.cause

pub returns-clause-well : goal.returns-clause-well
returns-clause-well g c = c.write_held-2.ensures.well
