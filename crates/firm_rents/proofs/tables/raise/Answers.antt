use Rattle.std.proofs.Common.{◌≡◌, ◌+◌, ◌-◌, ◌<◌, max, length, ap, ◌∙◌, arith}
use Rattle.std.proofs.lemmas.List.{get_or_default}
use Rattle.firm_rules.specs.declared.rounds.Choice.TheVariants.{On, Wait}
use Rattle.firm_rules.specs.Placement.{task_cost}
use Rattle.firm_rents.specs.Rents.{rent}
use Rattle.firm_rules.specs.Placement.{choice_at, task_at}
use Rattle.firm_rules.specs.ChoiceCost.{wide_cost}
use Rattle.firm_rents.proofs.Bounding.{floor-le, pays-le}
use Rattle.firm_rents.proofs.tables.raise.Goals as goal

pub loop-task-preserved : goal.loop-task-preserved
loop-task-preserved c =
    let case = c.args.case.now in
    let placement = c.args.placement.now in
    let task = c.loop-task.task in
    let legal = (c.legality_is_judged.ensures case placement).yes c.requires.legal in
    let l : task < length case.tasks = omega arith in
    let inside : task < length placement = omega (arith, l, legal.one_each) in
    let cost : c.cost_of_choice.result ≡ task_cost case (task_at case task) (choice_at placement task) =
    c.cost_of_choice.ensures.cost
    ∙ ap (task_cost case (task_at case task)) (get_or_default placement task (On 0) Wait inside) in
    let rented : c.rent_of.result ≡ rent c.loop-task.rents (choice_at placement task) =
    c.rent_of.ensures ∙ ap (rent c.loop-task.rents) (get_or_default placement task (On 0) Wait inside) in
    let wide : c.wide_cost.result ≡ wide_cost case (task_at case task) = c.wide_cost.ensures.cost in
    let beyond : c.saturating_sub.result ≡ (c.cost_of_choice.result + c.rent_of.result) - c.wide_cost.result =
    c.saturating_sub.ensures in
    let floor : c.max-floor.result ≡ max c.saturating_sub.result c.loop-task.floor = c.max-floor.ensures in
    record {
      one_each = c.raise_near.ensures.one_each;
      small = c.raise_near.ensures.small;
      below = λ bounds suit before.
          (let below = c.loop-task.invariant.below bounds suit before in
          c.raise_near.ensures.below bounds
          (λ j here.
          omega (arith, cost, rented, pays-le case c.loop-task.rents bounds placement task suit below l j here)) below);
      floor = λ bounds suit before j here.
          (let below = c.loop-task.invariant.below bounds suit before in
          omega (
            arith,
            cost,
            rented,
            wide,
            beyond,
            floor,
            floor-le case c.loop-task.rents bounds placement task suit below l j here,
            c.loop-task.invariant.floor bounds suit before j here,
          ));
    }
