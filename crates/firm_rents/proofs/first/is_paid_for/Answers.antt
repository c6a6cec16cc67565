use Rattle.std.proofs.Common.{◌≡◌, length, ap, ◌∙◌}
use Rattle.firm_rules.specs.Placement.{slot_cost}
use Rattle.firm_rents.specs.inner.Classes.{place_offer}
use Rattle.firm_rents.proofs.Suiting.{as_defined, worth_from}
use Rattle.firm_rents.proofs.first.is_paid_for.Goals as goal

pub returns : goal.returns
returns c =
    let rents = c.args.rents.now in
    let cost = slot_cost c.args.case.now.spread c.args.others in
    let slot : c.offer_of-slot.result
    ≡ place_offer rents cost (length c.args.case.now.slots) 0 =
    c.offer_of-slot.ensures.offer
    ∙ (ap (λ n. place_offer rents n c.machine_count.result 0)
    (c.slot_cost-cost.ensures.cost ∙ ap (λ s. slot_cost s c.args.others) c.spread.ensures.spread)
    ∙ ap (λ m. place_offer rents cost m 0) c.machine_count.ensures.count) in
    λ e. worth_from c.args.case.now rents c.args.place c.args.others c.requires.levels.one_each
    (as_defined c.as_slice.result.now rents.classes.items c.offer_of-slot.result c.offer_of-rent.result
    (place_offer rents cost (length c.args.case.now.slots) 0)
    (place_offer rents 0 c.args.place 0)
    c.as_slice.ensures.value slot c.offer_of-rent.ensures.offer (c.is_at_most.ensures.yes e))
