use Rattle.std.proofs.Common.{◌-◌, ◌<◌, ◌≤◌, ◌^◌, ℕ, length}
use Rattle.firm_rents.specs.inner.Classes.{IsSpent}
use Rattle.firm_rents.proofs.first.passed.Given as goal

abbrev pub invariant-loop-spent : goal.invariant-loop-spent
invariant-loop-spent l = record {
  spent : (j : ℕ) → j < l.spent → IsSpent l.rents l.mark.lowest l.begun j;
  next : (t : ℕ) → l.since ≤ t → t < 2 ^ 32 → IsSpent l.rents l.mark.lowest t l.spent;
}

abbrev pub decreases-loop-spent : goal.decreases-loop-spent
decreases-loop-spent l = length l.case.slots - l.spent
