use Rattle.std.proofs.lemmas.Grind.{common_steps}
use Rattle.std.proofs.Common.{◌<◌, ◌≤◌, length, sym, subst, arith}
use Rattle.std.proofs.lemmas.List.{get_or_default}
use Rattle.firm_rules.specs.declared.rounds.Choice.{Choice}
use Rattle.firm_rules.specs.declared.rounds.Choice.TheVariants.{On, Wait}
use Rattle.firm_rents.specs.Rents.{paid}
use Rattle.firm_rules.specs.Placement.{task_at}
use Rattle.firm_rents.proofs.tables.lower.Goals as goal

pub loop-task-preserved : goal.loop-task-preserved
loop-task-preserved c =
    let case = c.args.case.now in
    let placement = c.args.placement.now in
    let task = c.loop-task.task in
    let legal = (c.legality_is_judged.ensures case placement).yes c.requires.legal in
    let l : task < length case.tasks = omega arith in
    let inside : task < length placement = omega (arith, l, legal.one_each) in
    record {
      one_each = c.lower_for-one.ensures.one_each;
      lowest = c.lower_for-one.ensures.lowest;
      falls = λ j. omega (arith, c.lower_for-one.ensures.falls j, c.loop-task.invariant.falls j);
      within = λ bounds less more suit fewer before. c.lower_for-one.ensures.within bounds less more fewer
          (c.loop-task.invariant.within bounds less more suit fewer before)
          (λ other place. subst
          (λ (choice : Choice).
          paid case bounds (task_at case task) choice ≤ paid case bounds (task_at case task) other)
          (sym (get_or_default placement task (On 0) Wait inside)) (suit.cheapest task l other place));
    }

pub lower_for-one-requires-clause-place : goal.lower_for-one-requires-clause-place
lower_for-one-requires-clause-place c = grind (arith, common_steps)
