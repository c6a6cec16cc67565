use Rattle.std.proofs.Common.{◌∙◌, sym, subst, length, refl}
use Rattle.firm_rules.specs.declared.rounds.Choice.{Choice}
use Rattle.firm_rules.specs.declared.rounds.Choice.TheVariants.{Wait}
use Rattle.firm_rules.specs.Placement.{task_cost}
use Rattle.firm_rules.specs.Placement.{task_at}
use Rattle.firm_rents.specs.Levels.{time}
use Rattle.firm_rents.specs.inner.Classes.{NoMore, place_of, place_offer}
use Rattle.firm_rents.proofs.Cheapest.{stays_own}
use Rattle.firm_rents.proofs.Suiting.{as_defined, no_more, no_more_itself, all_suit}
use Rattle.firm_rents.proofs.first.Kept.suits_task.Goals as goal

pub own_suits-requires-clause-own : goal.own_suits-requires-clause-own
own_suits-requires-clause-own c =
    let case = c.args.case.now in
    let rents = c.args.rents.now in
    let task = c.args.task in
    let chosen = c.chosen_offer-chosen.result in
    λ e j runs. subst (λ (o : Choice). NoMore case rents task chosen o)
    (stays_own (task_at case task).home c.args.choice j (sym c.stays-staying.ensures ∙ e) runs)
    (no_more_itself case rents task c.args.choice chosen c.chosen_offer-chosen.ensures.offer)

pub returns-clause-suits : goal.returns-clause-suits
returns-clause-suits c =
    let case = c.args.case.now in
    let rents = c.args.rents.now in
    let task = c.args.task in
    let chosen = c.chosen_offer-chosen.result in
    let waits : NoMore case rents task chosen Wait =
    no_more case rents task chosen Wait
    (as_defined c.as_slice-classes.result.now rents.classes.items chosen c.offer-waits.result chosen
    (place_offer rents (task_cost case (task_at case task) Wait) (place_of (length rents.amounts.items) Wait)
    (time case task Wait)) c.as_slice-classes.ensures.value refl c.offer-waits.ensures.offer
    (c.is_at_most.ensures.yes c.if-not-is_at_most.false)) in
    λ e. all_suit case rents task c.args.choice chosen c.chosen_offer-chosen.ensures.offer waits
    (c.own_suits.ensures c.if-not-own_suits.false) (c.preferred_suit.ensures c.if-not-preferred_suit.false)
    (c.others_suit.ensures.suits e)
