use Rattle.std.proofs.Common.{refl}
use Rattle.std.specs.List.{flat_map}
use Rattle.firm_text.specs.Replies.{use_words, spaced}
use Rattle.firm_text.proofs.Puts.{kept_trans, labels_added}
use Rattle.firm_text.proofs.replies.put_use.Goals as goal

pub returns-clause-added : goal.returns-clause-added
returns-clause-added c =
    labels_added c.put_labelled-4.result c.args.text.now.items c.put_labelled.new.text.items
    c.put_labelled-2.new.text.items c.put_labelled-3.new.text.items c.put_labelled-4.new.text.items _ _ _ _ _ _ _ _
    (flat_map spaced (use_words c.args.nodes c.args.nodes_limit c.args.arcs c.args.arcs_limit))
    c.in_ok-put_labelled.ensures.added c.in_ok-put_labelled-2.ensures.added c.in_ok-put_labelled-3.ensures.added
    c.put_labelled-4.ensures.added refl

pub returns-in_err-put_labelled-2-clause-kept : goal.returns-in_err-put_labelled-2-clause-kept
returns-in_err-put_labelled-2-clause-kept c = kept_trans _ _ _ c.put_labelled-2.ensures.kept c.put_labelled.ensures.kept

pub returns-in_err-put_labelled-3-clause-kept : goal.returns-in_err-put_labelled-3-clause-kept
returns-in_err-put_labelled-3-clause-kept c =
    kept_trans _ _ _ c.put_labelled-3.ensures.kept
    (kept_trans _ _ _ c.put_labelled-2.ensures.kept c.put_labelled.ensures.kept)

pub returns-clause-kept : goal.returns-clause-kept
returns-clause-kept c =
    kept_trans _ _ _ c.put_labelled-4.ensures.kept
    (kept_trans _ _ _ c.put_labelled-3.ensures.kept
    (kept_trans _ _ _ c.put_labelled-2.ensures.kept c.put_labelled.ensures.kept))
