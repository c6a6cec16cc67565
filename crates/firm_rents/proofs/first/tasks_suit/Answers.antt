use Rattle.std.proofs.lemmas.Grind.{elements}
use Rattle.std.proofs.Common.{◌≡◌, ◌<◌, ◌≤◌, ◌+◌, ◌*◌, ◌^◌, ℕ, length, sym, subst, arith}
use Rattle.std.proofs.lemmas.List.{get_or_default}
use Rattle.firm_rents.proofs.Counting.{goes_on}
use Rattle.firm_rules.specs.declared.rounds.Choice.{Choice}
use Rattle.firm_rules.specs.declared.rounds.Choice.TheVariants.{On, Wait}
use Rattle.firm_rules.specs.Placement.{choice_at, IsPlace}
use Rattle.firm_rents.specs.Levels.{IsAtMost, paid_by_level}
use Rattle.firm_rents.specs.inner.Classes.{level_rents, IsLeast, IsSpent}
use Rattle.firm_rents.proofs.Suiting.{one_more}
use Rattle.firm_rents.proofs.first.tasks_suit.Goals as goal

pub loop-task-preserved : goal.loop-task-preserved
loop-task-preserved c =
    let case = c.args.case.now in
    let rents = c.args.rents.now in
    let placement = c.args.placement.now in
    let n = length case.slots in
    let task = c.loop-task.task in
    let before = c.loop-task.invariant in
    let mark = c.passed-mark.result in
    let same : c.loop-task.mark.lowest ≡ mark.lowest = sym c.passed-mark.ensures.lowest in
    record {
      lowest = subst (λ k. 0 < n → k < n) same before.lowest;
      most = subst (λ k. k ≤ n) same before.most;
      least = subst (λ k. (j : ℕ) → j < n → IsLeast rents k j) same before.least;
      spent = subst (λ k. (j : ℕ) → j < mark.spent → IsSpent rents k ((task + 1) * (n + 2)) j) same
          (λ j l a b after later. c.passed-mark.ensures.spent j l a b (omega (arith, after, c.time_of.ensures.time))
          (omega (arith, later, c.time_of.ensures.time)));
      next = subst (λ k. (t : ℕ) → mark.since ≤ t → t < 2 ^ 32 → IsSpent rents k t mark.spent) same
          c.passed-mark.ensures.next;
      waits = c.suits_task.ensures.waits;
      low = c.suits_task.ensures.low;
      suited = one_more (λ i. (other : Choice) → IsPlace n other
          → IsAtMost (paid_by_level case (level_rents rents) i (choice_at placement i))
          (paid_by_level case (level_rents rents) i other)) task before.suited
          (subst (λ choice. (other : Choice) → IsPlace n other
          → IsAtMost (paid_by_level case (level_rents rents) task choice)
          (paid_by_level case (level_rents rents) task other))
          (get_or_default placement task (On 0) Wait (omega (arith, c.requires.one_each)))
          (c.suits_task.ensures.suits c.if-not-suits_task.false));
      work = goes_on before.work c.suits_task.ensures.work;
    }

pub suits_task-requires-clause-choice : goal.suits_task-requires-clause-choice
suits_task-requires-clause-choice c = grind (arith, elements)
