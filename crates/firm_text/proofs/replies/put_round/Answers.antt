use Rattle.std.proofs.Common.{◌≡◌, ◌++◌, ◌∷◌, [], rules, refl}
use Rattle.std.proofs.lemmas.List.{append-nil}
use Rattle.std.specs.Prelude.{codes}
use Rattle.std.specs.List.{flat_map}
use Rattle.std.specs.Fmt.{signed_decimal}
use Rattle.firm_text.specs.Replies.{change_words, spaced}
use Rattle.firm_text.proofs.Puts.{kept_after, kept_trans, three_added}
use Rattle.firm_text.proofs.replies.put_round.Goals as goal

pub returns-clause-added : goal.returns-clause-added
returns-clause-added c =
    let cost : c.put_cost.new.text.items ≡ c.extend_from_slice.new.self.items
    ++ flat_map spaced (signed_decimal c.args.cost ∷ []) = search rules in
    three_added c.put_changes.result c.args.text.now.items c.extend_from_slice.new.self.items c.put_cost.new.text.items
    c.put_changes.new.text.items (codes " ok round cost") (flat_map spaced (signed_decimal c.args.cost ∷ []))
    (flat_map spaced (flat_map change_words c.args.changes.now))
    (flat_map spaced (codes "ok" ∷ codes "round" ∷ codes "cost" ∷ signed_decimal c.args.cost
    ∷ flat_map change_words c.args.changes.now))
    c.in_ok-extend_from_slice.ensures.items cost c.put_changes.ensures.added
    (rw (append-nil (signed_decimal c.args.cost)) refl)

pub returns-in_err-put_cost-clause-kept : goal.returns-in_err-put_cost-clause-kept
returns-in_err-put_cost-clause-kept c =
    kept_after _ _ _ _ c.in_ok-extend_from_slice.ensures.items c.put_cost.ensures.kept

pub returns-clause-kept : goal.returns-clause-kept
returns-clause-kept c =
    kept_trans _ _ _ c.put_changes.ensures.kept
    (kept_after _ _ _ _ c.in_ok-extend_from_slice.ensures.items c.put_cost.ensures.kept)
