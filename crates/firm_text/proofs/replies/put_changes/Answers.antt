use Rattle.std.proofs.lemmas.Grind.{common_steps}
use Rattle.std.proofs.Common.{refl, ◌≡◌, ◌++◌, get_or, arith}
use Rattle.std.specs.List.{flat_map}
use Rattle.firm_text.specs.Replies.{change_words, spaced}
use Rattle.firm_text.proofs.Puts.{all_added, kept_trans, step_added}
use Rattle.firm_text.proofs.replies.put_changes.Goals as goal

pub loop-change-preserved : goal.loop-change-preserved
loop-change-preserved c =
    let put : c.put_change.new.text.items ≡ c.loop-change.text.items ++ flat_map spaced (change_words
    (get_or c.args.changes.now c.loop-change.change-index c.change-item.result)) =
    rw (← c.change-item.is) c.in_ok-put_change.ensures.added in
    record {
      kept = kept_trans _ _ _ c.put_change.ensures.kept c.loop-change.invariant.kept;
      added = step_added (flat_map change_words) change_words (λ _ _. refl) c.args.changes.now
          c.loop-change.change-index _ c.loop-change-test.true _ _ _ put c.loop-change.invariant.added;
    }

pub returns-in_err-put_change-clause-kept : goal.returns-in_err-put_change-clause-kept
returns-in_err-put_change-clause-kept c = kept_trans _ _ _ c.put_change.ensures.kept c.loop-change.invariant.kept

pub returns-clause-added : goal.returns-clause-added
returns-clause-added c =
    all_added (flat_map change_words) refl c.args.changes.now c.loop-change.change-index c.loop-change-test.false
    _ _ c.loop-change.invariant.added

pub loop-change-init : goal.loop-change-init
loop-change-init c = grind (arith, common_steps)
