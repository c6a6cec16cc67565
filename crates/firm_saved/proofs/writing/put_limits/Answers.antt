use Rattle.std.proofs.Common.{refl}
use Rattle.std.specs.List.{flat_map}
use Rattle.std.proofs.lemmas.Result.{err_from_is_err_and}
use Rattle.firm_text.specs.Replies.{spaced}
use Rattle.firm_saved.specs.StateText.{limits_words, patience_words}
use Rattle.firm_saved.proofs.Puts.{kept_trans, labels_added}
use Rattle.firm_saved.proofs.writing.put_limits.Goals as goal

pub returns-clause-added : goal.returns-clause-added
returns-clause-added c =
    labels_added c.put_patience.result c.args.output.now.items c.put_labelled.new.output.items
    c.put_labelled-2.new.output.items c.put_labelled-3.new.output.items c.put_labelled-4.new.output.items
    c.put_labelled-5.new.output.items c.put_labelled-6.new.output.items
    c.put_patience.new.output.items _ _ _ _ _ _ _ _ _ _ _ _ (flat_map spaced (patience_words c.patience.result))
    (flat_map spaced (limits_words c.args.limits.now))
    c.in_ok-put_labelled.ensures.added c.in_ok-put_labelled-2.ensures.added c.in_ok-put_labelled-3.ensures.added
    c.in_ok-put_labelled-4.ensures.added c.in_ok-put_labelled-5.ensures.added c.in_ok-put_labelled-6.ensures.added
    c.put_patience.ensures.added
    (rw (
      c.nodes.ensures.value,
      c.arcs.ensures.value,
      c.life.ensures.value,
      c.spread.ensures.value,
      c.churn.ensures.value,
      c.remote.ensures.value,
      c.patience.ensures.value,
    ) refl)

pub returns-in_err-put_labelled-2-clause-kept : goal.returns-in_err-put_labelled-2-clause-kept
returns-in_err-put_labelled-2-clause-kept c = kept_trans _ _ _ c.put_labelled-2.ensures.kept c.put_labelled.ensures.kept

pub returns-in_err-put_labelled-3-clause-kept : goal.returns-in_err-put_labelled-3-clause-kept
returns-in_err-put_labelled-3-clause-kept c =
    kept_trans _ _ _ c.put_labelled-3.ensures.kept
    (kept_trans _ _ _ c.put_labelled-2.ensures.kept c.put_labelled.ensures.kept)

pub returns-in_err-put_labelled-4-clause-kept : goal.returns-in_err-put_labelled-4-clause-kept
returns-in_err-put_labelled-4-clause-kept c =
    kept_trans _ _ _ c.put_labelled-4.ensures.kept
    (kept_trans _ _ _ c.put_labelled-3.ensures.kept
    (kept_trans _ _ _ c.put_labelled-2.ensures.kept c.put_labelled.ensures.kept))

pub returns-in_err-put_labelled-5-clause-kept : goal.returns-in_err-put_labelled-5-clause-kept
returns-in_err-put_labelled-5-clause-kept c =
    kept_trans _ _ _ c.put_labelled-5.ensures.kept
    (kept_trans _ _ _ c.put_labelled-4.ensures.kept
    (kept_trans _ _ _ c.put_labelled-3.ensures.kept
    (kept_trans _ _ _ c.put_labelled-2.ensures.kept c.put_labelled.ensures.kept)))

pub returns-in_err-put_labelled-6-clause-kept : goal.returns-in_err-put_labelled-6-clause-kept
returns-in_err-put_labelled-6-clause-kept c =
    kept_trans _ _ _ c.put_labelled-6.ensures.kept
    (kept_trans _ _ _ c.put_labelled-5.ensures.kept
    (kept_trans _ _ _ c.put_labelled-4.ensures.kept
    (kept_trans _ _ _ c.put_labelled-3.ensures.kept
    (kept_trans _ _ _ c.put_labelled-2.ensures.kept c.put_labelled.ensures.kept))))

pub returns-clause-kept : goal.returns-clause-kept
returns-clause-kept c =
    kept_trans _ _ _ c.put_patience.ensures.kept
    (kept_trans _ _ _ c.put_labelled-6.ensures.kept
    (kept_trans _ _ _ c.put_labelled-5.ensures.kept
    (kept_trans _ _ _ c.put_labelled-4.ensures.kept
    (kept_trans _ _ _ c.put_labelled-3.ensures.kept
    (kept_trans _ _ _ c.put_labelled-2.ensures.kept c.put_labelled.ensures.kept)))))

pub returns-in_err-put_labelled-clause-added : goal.returns-in_err-put_labelled-clause-added
returns-in_err-put_labelled-clause-added c =
    rw (err_from_is_err_and c.from_residual.result c.from_residual.ensures.1).1 tt

pub returns-in_err-put_labelled-2-clause-added : goal.returns-in_err-put_labelled-2-clause-added
returns-in_err-put_labelled-2-clause-added c =
    rw
    (err_from_is_err_and c.from_residual-in_err-put_labelled-2.result
    c.from_residual-in_err-put_labelled-2.ensures.1).1 tt

pub returns-in_err-put_labelled-3-clause-added : goal.returns-in_err-put_labelled-3-clause-added
returns-in_err-put_labelled-3-clause-added c =
    rw
    (err_from_is_err_and c.from_residual-in_err-put_labelled-3.result
    c.from_residual-in_err-put_labelled-3.ensures.1).1 tt

pub returns-in_err-put_labelled-4-clause-added : goal.returns-in_err-put_labelled-4-clause-added
returns-in_err-put_labelled-4-clause-added c =
    rw
    (err_from_is_err_and c.from_residual-in_err-put_labelled-4.result
    c.from_residual-in_err-put_labelled-4.ensures.1).1 tt

pub returns-in_err-put_labelled-5-clause-added : goal.returns-in_err-put_labelled-5-clause-added
returns-in_err-put_labelled-5-clause-added c =
    rw
    (err_from_is_err_and c.from_residual-in_err-put_labelled-5.result
    c.from_residual-in_err-put_labelled-5.ensures.1).1 tt

pub returns-in_err-put_labelled-6-clause-added : goal.returns-in_err-put_labelled-6-clause-added
returns-in_err-put_labelled-6-clause-added c =
    rw
    (err_from_is_err_and c.from_residual-in_err-put_labelled-6.result
    c.from_residual-in_err-put_labelled-6.ensures.1).1 tt
