use Rattle.std.proofs.Common.{◌≡◌, ◌+◌, ◌*◌, ◌<◌, ◌≤◌, suc, length, refl, ap, ◌∙◌, ⊎_elim, arith}
use Rattle.std.proofs.lemmas.Bool.{cases_lt, ltb-true}
use Rattle.firm_rules.specs.Placement.{task_at}
use Rattle.firm_rents.specs.declared.classes.Offer.{Offer}
use Rattle.firm_rents.specs.Levels.{IsAtMost}
use Rattle.firm_rules.specs.ChoiceCost.{wide_cost}
use Rattle.firm_rents.specs.inner.Classes.{offered, place_offer, place_levels}
use Rattle.firm_rents.proofs.Suiting.{alike, as_defined, least_amount, least_later, tells}
use Rattle.firm_rents.proofs.first.Kept.others_suit.Goals as goal

pub returns-then-chosen-first-clause-suits : goal.returns-then-chosen-first-clause-suits
returns-then-chosen-first-clause-suits c =
    let case = c.args.case.now in
    let rents = c.args.rents.now in
    let task = c.args.task in
    let lowest = c.args.mark.lowest in
    let first : c.offer_of-first.result
    ≡ place_offer rents (wide_cost case (task_at case task)) lowest (c.time_of-begun.result + 1) =
    c.offer_of-first.ensures.offer
    ∙ ap (λ n. place_offer rents n lowest (c.time_of-begun.result + 1)) c.wide_cost-wide.ensures.cost in
    λ e j l cost runs. least_amount case rents task c.args.chosen lowest j (c.requires.least j l)
    (omega (arith, ltb-true, ap (λ (o : Offer). o.amount) first)) cost

pub returns-then-is_at_most_parted-clause-suits : goal.returns-then-is_at_most_parted-clause-suits
returns-then-is_at_most_parted-clause-suits c =
    let case = c.args.case.now in
    let rents = c.args.rents.now in
    let task = c.args.task in
    let lowest = c.args.mark.lowest in
    let wide = wide_cost case (task_at case task) in
    let begun = task * (length case.slots + 2) in
    let same : c.time_of-begun.result + 1 ≡ begun + 1 = omega (arith, c.time_of-begun.ensures.time) in
    let first : c.offer_of-first.result ≡ place_offer rents wide lowest (begun + 1) =
    c.offer_of-first.ensures.offer
    ∙ (ap (λ n. place_offer rents n lowest (c.time_of-begun.result + 1)) c.wide_cost-wide.ensures.cost
    ∙ ap (place_offer rents wide lowest) same) in
    let told : IsAtMost (offered rents.classes.items c.args.chosen) (place_levels rents wide lowest (begun + 1)) =
    as_defined c.as_slice-classes.result.now rents.classes.items c.args.chosen c.offer_of-first.result c.args.chosen
    (place_offer rents wide lowest (begun + 1)) c.as_slice-classes.ensures.value refl first
    (c.is_at_most_parted.ensures.yes c.if-is_at_most_parted.true) in
    λ e j l cost runs. tells case rents task c.args.chosen lowest j (begun + 1) told
    (least_later rents lowest j (begun + 1) (begun + suc j) (c.requires.least j l) (omega arith)) cost runs

pub returns-then-is_at_most_parted-2-clause-suits : goal.returns-then-is_at_most_parted-2-clause-suits
returns-then-is_at_most_parted-2-clause-suits c =
    let case = c.args.case.now in
    let rents = c.args.rents.now in
    let task = c.args.task in
    let lowest = c.args.mark.lowest in
    let wide = wide_cost case (task_at case task) in
    let end = c.min-end.result in
    let begun = task * (length case.slots + 2) in
    let at = (c.time_of-begun.result + 1) + end in
    let same : at ≡ begun + (1 + end) = omega (arith, c.time_of-begun.ensures.time) in
    let first : c.offer_of-first.result ≡ place_offer rents wide lowest (c.time_of-begun.result + 1) =
    c.offer_of-first.ensures.offer
    ∙ ap (λ n. place_offer rents n lowest (c.time_of-begun.result + 1)) c.wide_cost-wide.ensures.cost in
    let last : (record c.offer_of-first.result { time = at }) ≡ place_offer rents wide lowest (begun + (1 + end)) =
    ap (λ (o : Offer). record o { time = at }) first ∙ ap (place_offer rents wide lowest) same in
    let told : IsAtMost (offered rents.classes.items c.args.chosen)
    (place_levels rents wide lowest (begun + (1 + end))) =
    as_defined c.as_slice-classes.result.now rents.classes.items c.args.chosen
    (record c.offer_of-first.result { time = at }) c.args.chosen (place_offer rents wide lowest (begun + (1 + end)))
    c.as_slice-classes.ensures.value refl last
    (c.is_at_most_parted-2.ensures.yes c.if-is_at_most_parted-2.true) in
    λ e j l cost runs. ⊎_elim (λ (h : j < end).
    ⊎_elim (λ (s : j < c.args.mark.spent).
    tells case rents task c.args.chosen lowest j (begun + (1 + end)) told
    (c.requires.spent j s (begun + (1 + end)) (begun + suc j) (omega arith) (omega arith)) cost runs)
    (λ (s : c.args.mark.spent ≤ j).
    alike case rents task c.args.chosen j c.wide_cost-wide.result c.time_of-begun.result c.wide_cost-wide.ensures.cost
    (omega (arith, c.time_of-begun.ensures.time)) (c.each_suits.ensures.suits e j s h) cost runs)
    (cases_lt j c.args.mark.spent))
    (λ (h : end ≤ j).
    tells case rents task c.args.chosen lowest j (begun + (1 + end)) told
    (least_later rents lowest j (begun + (1 + end)) (begun + suc j) (c.requires.least j l) (omega arith)) cost runs)
    (cases_lt j end)

pub returns-else-is_at_most_parted-2-clause-suits : goal.returns-else-is_at_most_parted-2-clause-suits
returns-else-is_at_most_parted-2-clause-suits c =
    λ e j l cost runs. alike c.args.case.now c.args.rents.now c.args.task c.args.chosen j c.wide_cost-wide.result
    c.time_of-begun.result c.wide_cost-wide.ensures.cost (omega (arith, c.time_of-begun.ensures.time))
    (c.each_suits-else-is_at_most_parted-2.ensures.suits e j (omega arith)
    (omega (arith, l, c.machine_count-3.ensures.count))) cost runs
