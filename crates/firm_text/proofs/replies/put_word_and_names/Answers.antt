use Rattle.std.proofs.Common.{◌++◌, ◌∷◌, [], sym}
use Rattle.std.specs.List.{flat_map}
use Rattle.firm_text.specs.Replies.{spaced}
use Rattle.firm_text.proofs.Puts.{joined, kept_after, kept_trans, spaced-append}
use Rattle.firm_text.proofs.replies.put_word_and_names.Goals as goal

pub returns-clause-added : goal.returns-clause-added
returns-clause-added c =
    let first = c.args.first.now in
    let second = c.args.second.now in
    joined c.put_spaced_name-2.result (c.args.text.now.items ++ c.args.word.now) c.put_spaced_name.new.text.items
    c.put_spaced_name-2.new.text.items (flat_map spaced (first ∷ [])) (flat_map spaced (second ∷ []))
    (flat_map spaced (first ∷ second ∷ []))
    (rw (← c.in_ok-extend_from_slice.ensures.items) c.in_ok-put_spaced_name.ensures.added)
    c.put_spaced_name-2.ensures.added (sym (spaced-append (first ∷ []) (second ∷ [])))

pub returns-in_err-put_spaced_name-clause-kept : goal.returns-in_err-put_spaced_name-clause-kept
returns-in_err-put_spaced_name-clause-kept c =
    kept_after _ _ _ _ c.in_ok-extend_from_slice.ensures.items c.put_spaced_name.ensures.kept

pub returns-clause-kept : goal.returns-clause-kept
returns-clause-kept c =
    kept_trans _ _ _ c.put_spaced_name-2.ensures.kept
    (kept_after _ _ _ _ c.in_ok-extend_from_slice.ensures.items c.put_spaced_name.ensures.kept)
