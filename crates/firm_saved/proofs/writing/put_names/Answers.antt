use Rattle.std.proofs.Common.{refl, ap, ◌≡◌, ◌∙◌, ◌++◌, List, ℕ, get_or}
use Rattle.std.specs.List.{flat_map}
use Rattle.firm_text.specs.Replies.{spaced}
use Rattle.firm_saved.proofs.Puts.{all_added, kept_trans, step_added}
use Rattle.firm_saved.proofs.writing.put_names.Goals as goal

pub loop-name-preserved : goal.loop-name-preserved
loop-name-preserved c =
    let put : c.put_word.new.output.items ≡ c.loop-name.output.items
    ++ spaced (get_or c.args.names.now c.loop-name.name-index c.name-item.result) =
    c.in_ok-put_word.ensures.added
    ∙ ap (λ (name : List ℕ). c.loop-name.output.items ++ spaced name) (c.as_bytes.ensures.bytes ∙ c.name-item.is) in
    record {
      kept = kept_trans _ _ _ c.put_word.ensures.kept c.loop-name.invariant.kept;
      added = step_added (flat_map spaced) spaced (λ _ _. refl) c.args.names.now c.loop-name.name-index _
          c.loop-name-test.true _ _ _ put c.loop-name.invariant.added;
    }

pub returns-in_err-put_word-clause-kept : goal.returns-in_err-put_word-clause-kept
returns-in_err-put_word-clause-kept c = kept_trans _ _ _ c.put_word.ensures.kept c.loop-name.invariant.kept

pub returns-clause-added : goal.returns-clause-added
returns-clause-added c =
    all_added (flat_map spaced) refl c.args.names.now c.loop-name.name-index c.loop-name-test.false _ _
    c.loop-name.invariant.added
