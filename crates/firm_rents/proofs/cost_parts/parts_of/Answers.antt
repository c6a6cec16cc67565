use Rattle.std.proofs.Common.{◌≡◌, ◌+◌, ◌<◌, ◌≤◌, ℕ, length, take, ap, ◌∙◌, arith}
use Rattle.std.proofs.lemmas.List.{get_or_default, take_all}
use Rattle.firm_rules.specs.declared.rounds.Choice.TheVariants.{On, Wait}
use Rattle.firm_rules.specs.declared.rounds.Choice.{Choice}
use Rattle.firm_rules.specs.Placement.{Demand}
use Rattle.firm_rules.specs.Placement.{choice_at, task_at}
use Rattle.firm_rents.specs.CostParts.{move_cost, part, preemption_cost}
use Rattle.firm_rules.specs.ChoiceCost.{remote_cost, wait_cost}
use Rattle.firm_rents.proofs.CostParts.{part_more, parts_sum}
use Rattle.firm_rents.proofs.cost_parts.parts_of.Goals as goal

pub loop-task-preserved : goal.loop-task-preserved
loop-task-preserved c =
    let case = c.args.case.now in
    let placement = c.args.placement.now in
    let task = c.loop-task.task in
    let l : task < length case.tasks = omega (arith, c.loop-task-test.true, c.task_count-task-end.ensures.count) in
    let inside : task < length placement = omega (arith, l, c.requires) in
    let more : (cost : Demand → Choice → ℕ)
    → part cost (take (task + 1) case.tasks) (take (task + 1) placement)
    ≡ part cost (take task case.tasks) (take task placement) + cost (task_at case task) (choice_at placement task) =
    λ cost. part_more cost case.tasks placement task l c.requires in
    let same = get_or_default placement task (On 0) Wait inside in
    let before = c.loop-task.invariant in
    let one = c.with_choice-parts.ensures in
    record {
      loads = one.loads ∙ before.loads;
      moves = omega (
        arith,
        one.moves,
        before.moves,
        more (move_cost case),
        ap (move_cost case (task_at case task)) same,
      );
      preemptions = omega (
        arith,
        one.preemptions,
        before.preemptions,
        more (preemption_cost case),
        ap (preemption_cost case (task_at case task)) same,
      );
      waits = omega (arith, one.waits, before.waits, more wait_cost, ap (wait_cost (task_at case task)) same);
      remote = omega (
        arith,
        one.remote,
        before.remote,
        more (remote_cost case),
        ap (remote_cost case (task_at case task)) same,
      );
      few_moves = omega (arith, one.more_moves, before.few_moves);
      few_preemptions = omega (arith, one.more_preemptions, before.few_preemptions);
      few_waits = omega (arith, one.more_waits, before.few_waits);
      few_remote = omega (arith, one.more_remote, before.few_remote);
    }

pub returns-clause-cost : goal.returns-clause-cost
returns-clause-cost c =
    let case = c.args.case.now in
    let placement = c.args.placement.now in
    let n = c.loop-task.task in
    let l : length case.tasks ≤ n = omega (arith, c.loop-task-test.false, c.task_count-task-end.ensures.count) in
    let whole : (cost : Demand → Choice → ℕ)
    → part cost (take n case.tasks) (take n placement) ≡ part cost case.tasks placement =
    λ cost. ap (λ tasks. part cost tasks (take n placement)) (take_all n case.tasks l)
    ∙ ap (part cost case.tasks) (take_all n placement (omega (arith, l, c.requires))) in
    let all = c.loop-task.invariant in
    omega (
      arith,
      parts_sum case case.tasks placement,
      all.loads,
      all.moves,
      whole (move_cost case),
      all.preemptions,
      whole (preemption_cost case),
      all.waits,
      whole wait_cost,
      all.remote,
      whole (remote_cost case),
    )
