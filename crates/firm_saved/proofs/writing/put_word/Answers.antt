use Rattle.std.proofs.Common.{refl, ◌∷◌, []}
use Rattle.firm_saved.proofs.Puts.{bytes_added, bytes_kept, kept_after, then_added}
use Rattle.firm_saved.proofs.writing.put_word.Goals as goal

pub returns-clause-kept : goal.returns-clause-kept
returns-clause-kept c =
    kept_after _ _ _ _ c.in_ok-push.ensures.items
    (bytes_kept c.extend_from_slice.result _ _ _ c.extend_from_slice.ensures.items)

pub returns-clause-added : goal.returns-clause-added
returns-clause-added c =
    let first = c.push.new.self.items in
    let new = c.extend_from_slice.new.self.items in
    then_added c.extend_from_slice.result new first c.args.output.now.items (32 ∷ []) c.args.word.now
    (32 ∷ c.args.word.now) c.in_ok-push.ensures.items
    (bytes_added c.extend_from_slice.result new first c.args.word.now c.extend_from_slice.ensures.items) refl
