use Rattle.std.proofs.Common.{refl}
use Rattle.firm_rules.specs.declared.rounds.Choice.TheVariants.{On}
use Rattle.firm_rules.specs.Placement.{task_cost}
use Rattle.firm_rules.specs.Placement.{task_at}
use Rattle.firm_rents.specs.Levels.{time}
use Rattle.firm_rents.specs.inner.Classes.{place_offer}
use Rattle.firm_rents.proofs.Suiting.{as_defined, no_more}
use Rattle.firm_rents.proofs.first.suits.Goals as goal

pub returns : goal.returns
returns c =
    let case = c.args.case.now in
    let rents = c.args.rents.now in
    let task = c.args.task in
    λ e. no_more case rents task c.args.chosen (On c.args.place)
    (as_defined c.as_slice.result.now rents.classes.items c.args.chosen c.offer-other.result c.args.chosen
    (place_offer rents (task_cost case (task_at case task) (On c.args.place)) c.args.place
    (time case task (On c.args.place))) c.as_slice.ensures.value refl c.offer-other.ensures.offer
    (c.is_at_most.ensures.yes e))
