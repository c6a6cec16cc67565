use Rattle.std.proofs.lemmas.Grind.{common_steps}
use Rattle.std.proofs.Common.{◌∙◌, ◌++◌, ◌∷◌, [], append_assoc, refl, sym, arith}
use Rattle.std.specs.Prelude.{codes}
use Rattle.std.specs.List.{flat_map}
use Rattle.firm_text.specs.Replies.{change_words, spaced}
use Rattle.firm_text.proofs.Puts.{joined, kept_trans, spaced-append}
use Rattle.firm_text.proofs.replies.put_change.Goals as goal

pub returns-in_ok-put_word_and_names-in-Move-clause-kept : goal.returns-in_ok-put_word_and_names-in-Move-clause-kept
returns-in_ok-put_word_and_names-in-Move-clause-kept c =
    kept_trans _ _ _ c.put_spaced_name.ensures.kept c.put_word_and_names-in-Move.ensures.kept

pub returns-in_ok-put_word_and_names-in-Move-clause-added : goal.returns-in_ok-put_word_and_names-in-Move-clause-added
returns-in_ok-put_word_and_names-in-Move-clause-added c =
    let m = c.in-Move in
    let names = flat_map spaced (m.task ∷ m.from ∷ []) in
    joined c.put_spaced_name.result c.args.text.now.items c.put_word_and_names-in-Move.new.text.items
    c.put_spaced_name.new.text.items (codes " move" ++ names) (flat_map spaced (m.to ∷ []))
    (flat_map spaced (change_words c.args.change.now))
    (c.in_ok-put_word_and_names-in-Move.ensures.added ∙ append_assoc c.args.text.now.items (codes " move") names)
    c.put_spaced_name.ensures.added
    (sym (spaced-append (codes "move" ∷ m.task ∷ m.from ∷ []) (m.to ∷ [])) ∙ rw m.is refl)

pub returns-in-Start-clause-added : goal.returns-in-Start-clause-added
returns-in-Start-clause-added c = grind (arith, common_steps)

pub returns-in-Preempt-clause-added : goal.returns-in-Preempt-clause-added
returns-in-Preempt-clause-added c = grind (arith, common_steps)
