use Rattle.std.proofs.Common.{◌∷◌, refl}
use Rattle.std.specs.Prelude.{codes}
use Rattle.std.specs.List.{flat_map}
use Rattle.firm_text.specs.Replies.{rows_words, spaced}
use Rattle.firm_text.proofs.Puts.{kept_trans, labels_added}
use Rattle.firm_text.proofs.replies.put_rows.Goals as goal

pub returns-clause-added : goal.returns-clause-added
returns-clause-added c =
    labels_added c.put_labelled-4.result c.args.text.now.items c.put_labelled.new.text.items
    c.put_labelled-2.new.text.items c.put_labelled-3.new.text.items c.put_labelled-4.new.text.items _ _ _ _ _ _ _ _
    (flat_map spaced (codes "ok" ∷ rows_words c.args.machines c.args.jobs c.args.tasks c.args.running))
    c.in_ok-put_labelled.ensures.added c.in_ok-put_labelled-2.ensures.added c.in_ok-put_labelled-3.ensures.added
    c.put_labelled-4.ensures.added refl

pub returns-in_err-put_labelled-2-clause-kept : goal.returns-in_err-put_labelled-2-clause-kept
returns-in_err-put_labelled-2-clause-kept c = kept_trans _ _ _ c.put_labelled-2.ensures.kept c.put_labelled.ensures.kept

pub returns-in_err-put_labelled-3-clause-kept : goal.returns-in_err-put_labelled-3-clause-kept
returns-in_err-put_labelled-3-clause-kept c =
    kept_trans _ _ _ c.put_labelled-3.ensures.kept
    (kept_trans _ _ _ c.put_labelled-2.ensures.kept c.put_labelled.ensures.kept)

pub returns-clause-kept : goal.returns-clause-kept
returns-clause-kept c =
    kept_trans _ _ _ c.put_labelled-4.ensures.kept
    (kept_trans _ _ _ c.put_labelled-3.ensures.kept
    (kept_trans _ _ _ c.put_labelled-2.ensures.kept c.put_labelled.ensures.kept))
