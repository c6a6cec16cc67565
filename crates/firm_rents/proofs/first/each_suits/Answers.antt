use Rattle.std.proofs.Common.{◌≡◌, ◌≤◌, ◌+◌, ℕ, suc, ap, refl, ◌∙◌, arith}
use Rattle.firm_rents.specs.Levels.{IsAtMost}
use Rattle.firm_rents.specs.inner.Classes.{offered, place_levels, place_offer}
use Rattle.firm_rents.proofs.Suiting.{as_defined, one_more}
use Rattle.firm_rents.proofs.first.each_suits.Goals as goal

pub loop-place-preserved : goal.loop-place-preserved
loop-place-preserved c =
    let rents = c.args.rents.now in
    let chosen = c.args.chosen in
    let span = c.args.span in
    let place = c.loop-place.place in
    let later : (span.begun + 1) + place ≡ span.begun + suc place = omega arith in
    let this : IsAtMost (offered rents.classes.items chosen)
    (place_levels rents span.cost place (span.begun + suc place)) =
    as_defined c.as_slice-classes.result.now rents.classes.items chosen c.offer_of-other.result chosen
    (place_offer rents span.cost place (span.begun + suc place)) c.as_slice-classes.ensures.value refl
    (c.offer_of-other.ensures.offer ∙ ap (place_offer rents span.cost place) later)
    (c.is_at_most.ensures.yes c.if-not-is_at_most.false) in
    λ j from below. one_more (λ (j : ℕ). span.from ≤ j
    → IsAtMost (offered rents.classes.items chosen) (place_levels rents span.cost j (span.begun + suc j))) place
    (λ j before from. c.loop-place.invariant j from before) (λ from. this) j below from
