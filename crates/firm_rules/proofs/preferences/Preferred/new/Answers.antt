use Rattle.std.proofs.Common.{List, ℕ, [], ◌∷◌, refl, ap, arith}
use Rattle.std.specs.List.{IsDistinct}
use Rattle.firm_rules.proofs.preferences.Preferred.new.Goals as goal

pub invariant_of-result : goal.invariant_of-result
unfolding IsDistinct
invariant_of-result c = record {
  rest = ap (λ (name : List ℕ). name ∷ name ∷ name ∷ name ∷ []) c.hyphen.ensures;
  counted = refl;
  few = omega arith;
  differ = tt;
}
