use Rattle.std.proofs.Common.{◌<◌, ◌≤◌, ◌+◌, ◌*◌, ◌^◌, ℕ, length}
use Rattle.firm_levels.specs.Work.{GoesOn}
use Rattle.firm_rules.specs.declared.rounds.Choice.{Choice}
use Rattle.firm_rules.specs.Placement.{IsPlace}
use Rattle.firm_rules.specs.Placement.{choice_at}
use Rattle.firm_rents.specs.Levels.{IsAtMost, paid_by_level}
use Rattle.firm_rents.specs.inner.Classes.{level_rents, IsKnown, IsLeast, IsSpent}
use Rattle.firm_rents.proofs.first.tasks_suit.Given as goal

abbrev pub invariant-loop-task : goal.invariant-loop-task
invariant-loop-task l = record {
  lowest : 0 < length l.case.slots → l.mark.lowest < length l.case.slots;
  most : l.mark.lowest ≤ length l.case.slots;
  least : (j : ℕ) → j < length l.case.slots → IsLeast l.rents l.mark.lowest j;
  spent : (j : ℕ) → j < l.mark.spent → IsSpent l.rents l.mark.lowest (l.task * (length l.case.slots + 2)) j;
  next : (t : ℕ) → l.mark.since ≤ t → t < 2 ^ 32 → IsSpent l.rents l.mark.lowest t l.mark.spent;
  waits : IsKnown l.rents.classes.items l.kept.waits;
  low : IsKnown l.rents.classes.items l.kept.lowest;
  suited : (i : ℕ) → i < l.task → (other : Choice) → IsPlace (length l.case.slots) other
      → IsAtMost (paid_by_level l.case (level_rents l.rents) i (choice_at l.placement i))
      (paid_by_level l.case (level_rents l.rents) i other);
  work : GoesOn l.initial.work l.work;
}
