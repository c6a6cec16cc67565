use Rattle.std.proofs.Common.{◌≡◌, ◌++◌, ◌∷◌, [], ◌<◌, ℕ, List, length, refl, arith}
use Rattle.std.specs.Prelude.{codes}
use Rattle.std.specs.List.{flat_map}
use Rattle.std.proofs.lemmas.Grind.{common_steps}
use Rattle.firm_text.specs.Replies.{spaced}
use Rattle.firm_saved.specs.StateText.{preference_words}
use Rattle.firm_saved.proofs.Puts.{bytes_kept, kept_after, then_added}
use Rattle.firm_saved.proofs.writing.put_preferences.Goals as goal

prefers : (names : List (List ℕ)) → 0 < length names
    → codes " prefers" ++ flat_map spaced names ≡ flat_map spaced (preference_words names)
prefers [] some = absurd (omega arith)
prefers (name ∷ names) some = refl

pub returns-in_err-extend_from_slice-clause-kept : goal.returns-in_err-extend_from_slice-clause-kept
returns-in_err-extend_from_slice-clause-kept c =
    bytes_kept c.extend_from_slice.result _ _ _ c.extend_from_slice.ensures.items

pub returns-clause-kept : goal.returns-clause-kept
returns-clause-kept c = kept_after _ _ _ _ c.in_ok-extend_from_slice.ensures.items c.put_names.ensures.kept

pub returns-clause-added : goal.returns-clause-added
returns-clause-added c =
    let some : 0 < length c.args.names.now = grind (arith, common_steps) in
    then_added c.put_names.result c.put_names.new.output.items c.extend_from_slice.new.self.items
    c.args.output.now.items (codes " prefers") (flat_map spaced c.args.names.now)
    (flat_map spaced (preference_words c.args.names.now)) c.in_ok-extend_from_slice.ensures.items
    c.put_names.ensures.added (prefers c.args.names.now some)
