use Rattle.std.proofs.lemmas.Grind.{common_steps}
use Rattle.std.proofs.Common.{map, refl, ◌∷◌, [], ◌≡◌, ◌++◌, get_or, pos, rules, arith}
use Rattle.std.specs.List.{flat_map}
use Rattle.std.specs.Fmt.{signed_decimal}
use Rattle.firm_text.specs.Replies.{spaced}
use Rattle.firm_text.proofs.Puts.{all_added, kept_trans, step_added}
use Rattle.firm_text.proofs.replies.put_each_cost.Goals as goal

pub loop-cost-preserved : goal.loop-cost-preserved
loop-cost-preserved c =
    let put : c.put_cost.new.text.items ≡ c.loop-cost.text.items
    ++ flat_map spaced (signed_decimal (get_or c.args.costs.now c.loop-cost.cost-index (pos 0)) ∷ []) = search rules in
    record {
      kept = kept_trans _ _ _ c.put_cost.ensures.kept c.loop-cost.invariant.kept;
      added = step_added (map signed_decimal) (λ cost. signed_decimal cost ∷ []) (λ _ _. refl)
          c.args.costs.now c.loop-cost.cost-index _ c.loop-cost-test.true _ _ _ put c.loop-cost.invariant.added;
    }

pub returns-in_err-put_cost-clause-kept : goal.returns-in_err-put_cost-clause-kept
returns-in_err-put_cost-clause-kept c = kept_trans _ _ _ c.put_cost.ensures.kept c.loop-cost.invariant.kept

pub returns-clause-added : goal.returns-clause-added
returns-clause-added c =
    all_added (map signed_decimal) refl c.args.costs.now c.loop-cost.cost-index c.loop-cost-test.false _ _
    c.loop-cost.invariant.added

pub loop-cost-init : goal.loop-cost-init
loop-cost-init c = grind (arith, common_steps)
