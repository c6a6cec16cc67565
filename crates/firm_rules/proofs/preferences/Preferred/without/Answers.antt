use Rattle.std.proofs.Common.{◌≡◌, ◌≤◌, ◌++◌, ◌∷◌, ◌+◌, List, ℕ, drop, length, bytes_eq, ap, sym, subst, ◌∙◌, arith}
use Rattle.std.specs.List.{IsDistinct}
use Rattle.std.proofs.lemmas.Bool.{not-true, not-false}
use Rattle.firm_rules.specs.Preferences.{without_preference}
use Rattle.firm_rules.proofs.PreferredNames.{seen_next, room_for, gathered, passed}
use Rattle.firm_rules.proofs.preferences.Preferred.without.Goals as goal
use Rattle.firm_rules.proofs.preferences.Preferred.without.Goals.{then-ne, else-ne}

pub add-requires : goal.add-requires
add-requires c =
    let names = c.as_slice-other-items.result.now in
    let few : length names ≤ 4 =
    omega (
      arith,
      ap (λ (l : List (List ℕ)). length l) c.as_slice-other-items.ensures.names,
      c.as_slice-other-items.ensures.few,
    ) in
    room_for c.args.name names c.loop-other.left c.other-item.result (drop (c.loop-other.other-index + 1) names)
    (subst (IsDistinct bytes_eq) (sym c.as_slice-other-items.ensures.names) c.as_slice-other-items.ensures.differ) few
    (seen_next c.args.name names c.loop-other.left c.loop-other.other-index c.other-item.result c.loop-other-test.true
    c.other-item.is c.loop-other.invariant)
    (not-true (bytes_eq c.args.name c.other-item.result) (sym c.ne.ensures ∙ c.if-ne.true))

pub loop-other-preserved : goal.loop-other-preserved
loop-other-preserved c =
    let names = c.as_slice-other-items.result.now in
    let few : length names ≤ 4 =
    omega (
      arith,
      ap (λ (l : List (List ℕ)). length l) c.as_slice-other-items.ensures.names,
      c.as_slice-other-items.ensures.few,
    ) in
    let rest : List (List ℕ) = drop (c.loop-other.other-index + 1) names in
    let differ : IsDistinct bytes_eq names =
    subst (IsDistinct bytes_eq) (sym c.as_slice-other-items.ensures.names) c.as_slice-other-items.ensures.differ in
    let so_far : c.loop-other.left ++ without_preference c.args.name (c.other-item.result ∷ rest)
    ≡ without_preference c.args.name names =
    seen_next c.args.name names c.loop-other.left c.loop-other.other-index c.other-item.result c.loop-other-test.true
    c.other-item.is c.loop-other.invariant in
    elim c.if-ne.branch [
      | then-ne w ↦ ap (λ (l : List (List ℕ)). l ++ without_preference c.args.name rest) (w.left-is ∙ w.add.ensures)
          ∙ gathered c.args.name names c.loop-other.left c.other-item.result rest differ few so_far
          (not-true (bytes_eq c.args.name c.other-item.result) (sym c.ne.ensures ∙ w.if-ne.true))
      | else-ne w ↦ ap (λ (l : List (List ℕ)). l ++ without_preference c.args.name rest) w.left-is
          ∙ passed c.args.name names c.loop-other.left c.other-item.result rest differ few so_far
          (not-false (bytes_eq c.args.name c.other-item.result) (sym c.ne.ensures ∙ w.if-ne.false))
    ]
