use Rattle.firm_rents.specs.inner.Classes.{place_offer}
use Rattle.firm_rents.proofs.Suiting.{as_defined, least_kept}
use Rattle.firm_rents.proofs.first.lesser.Goals as goal

pub returns-else-is_at_most-clause-kept : goal.returns-else-is_at_most-clause-kept
returns-else-is_at_most-clause-kept c =
    let rents = c.args.rents.now in
    λ j least. least_kept rents c.args.one c.args.other j
    (as_defined c.as_slice.result.now rents.classes.items c.offer_of-second.result c.offer_of-first.result
    (place_offer rents 0 c.args.other 0) (place_offer rents 0 c.args.one 0) c.as_slice.ensures.value
    c.offer_of-second.ensures.offer c.offer_of-first.ensures.offer (c.is_at_most.ensures.no c.if-is_at_most.false))
    least
