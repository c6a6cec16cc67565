use Rattle.std.proofs.lemmas.Grind.{elements}
use Rattle.std.proofs.Common.{◌≡◌, ℕ, length, ap, subst, arith}
use Rattle.firm_rules.specs.Placement.{task_at}
use Rattle.firm_rents.specs.inner.Lowest.{IsCheapestSoFar}
use Rattle.firm_rules.specs.ChoiceCost.{near}
use Rattle.firm_rents.proofs.Cheapest.{so_far_all}
use Rattle.firm_rents.proofs.choices.cheapest_other.Goals as goal

pub returns : goal.returns
returns c =
    let case = c.args.case.now in
    let task = task_at case c.args.task in
    let all : c.loop-place.place-index ≡ length (near task) =
    omega (arith, ap length c.near.ensures.places, ap length c.as_slice-place-items.ensures.value) in
    so_far_all case c.args.rents.now task c.args.one c.args.other c.loop-place.best
    (subst (λ (n : ℕ). IsCheapestSoFar case c.args.rents.now task c.args.one c.args.other n c.loop-place.best)
    all c.loop-place.invariant)

pub loop-place-preserved : goal.loop-place-preserved
loop-place-preserved c = grind (arith, elements)
