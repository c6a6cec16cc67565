use Rattle.std.proofs.Common.{◌≡◌, ◌∙◌, ◌++◌, ◌∷◌, [], ap, sym, subst}
use Rattle.std.proofs.lemmas.Result.{on_ok_weaker, on_err_weaker}
use Rattle.firm_text.specs.Inputs.{input_lines}
use Rattle.firm_table.specs.Openings.{opened}
use Rattle.firm_table.specs.declared.serving.Service.{Service}
use Rattle.firm_table.specs.inner.Granting.{ToldAs}
use Rattle.firm_table.specs.inner.Serving.{state_of}
use Rattle.firm_table.proofs.watching.WatchedClerk.answer.Goals as goal

pub returns-in-Ok-clause-told : goal.returns-in-Ok-clause-told
returns-in-Ok-clause-told g c =
    on_ok_weaker c.show_after.result (λ shown text after written more told.
    let before =
    subst (λ (s : Service). ToldAs s.all_granted (state_of s) text written (g.W.Sink.written c.args.writer.now))
    (sym c.show_before.ensures.same) told in
    let grown =
    subst (λ (s : Service). input_lines (opened s.opening).heading after
    ≡ input_lines (opened s.opening).heading text ++ c.args.line ∷ []) (sym c.show_before.ensures.same) more in
    shown after written (c.in-Ok.ensures.told text after written grown before))
    c.show_after.ensures.told

pub returns-in-Ok-clause-begins : goal.returns-in-Ok-clause-begins
returns-in-Ok-clause-begins g c =
    let before_opened = c.in-Ok.ensures.opening ∙ ap (λ (s : Service). opened s.opening) c.show_before.ensures.same in
    on_err_weaker c.show_after.result (λ begins text after written more told.
    let before =
    subst (λ (s : Service). ToldAs s.all_granted (state_of s) text written (g.W.Sink.written c.args.writer.now))
    (sym c.show_before.ensures.same) told in
    let grown =
    subst (λ (s : Service). input_lines (opened s.opening).heading after
    ≡ input_lines (opened s.opening).heading text ++ c.args.line ∷ []) (sym c.show_before.ensures.same) more in
    rw before_opened at (begins after written (c.in-Ok.ensures.told text after written grown before)))
    c.show_after.ensures.begins

pub returns-in-Ok-clause-cause : goal.returns-in-Ok-clause-cause
returns-in-Ok-clause-cause g c = c.show_after.ensures.cause

pub returns-in-Ok-clause-well : goal.returns-in-Ok-clause-well
returns-in-Ok-clause-well g c = c.show_after.ensures.well

pub returns-in-Ok-clause-opening : goal.returns-in-Ok-clause-opening
returns-in-Ok-clause-opening g c =
    c.show_after.ensures.opening ∙ c.in-Ok.ensures.opening
    ∙ ap (λ (s : Service). opened s.opening) c.show_before.ensures.same

pub returns-in-Err-clause-told : goal.returns-in-Err-clause-told
returns-in-Err-clause-told g c = tt

pub returns-in-Err-clause-begins : goal.returns-in-Err-clause-begins
returns-in-Err-clause-begins g c text after written more told =
    let before_opened = ap (λ (s : Service). opened s.opening) c.show_before.ensures.same in
    let before =
    subst (λ (s : Service). ToldAs s.all_granted (state_of s) text written (g.W.Sink.written c.args.writer.now))
    (sym c.show_before.ensures.same) told in
    let grown =
    subst (λ (s : Service). input_lines (opened s.opening).heading after
    ≡ input_lines (opened s.opening).heading text ++ c.args.line ∷ []) (sym c.show_before.ensures.same) more in
    rw before_opened at (c.in-Err.ensures.begins text after written grown before)

pub returns-in-Err-clause-cause : goal.returns-in-Err-clause-cause
returns-in-Err-clause-cause g c = c.in-Err.ensures.cause

pub returns-in-Err-clause-well : goal.returns-in-Err-clause-well
returns-in-Err-clause-well g c = tt

pub returns-in-Err-clause-opening : goal.returns-in-Err-clause-opening
returns-in-Err-clause-opening g c =
    c.in-Err.ensures.opening ∙ ap (λ (s : Service). opened s.opening) c.show_before.ensures.same
