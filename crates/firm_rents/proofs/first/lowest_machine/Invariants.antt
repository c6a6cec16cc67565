use Rattle.std.proofs.Common.{◌<◌, ◌≤◌, ℕ, length}
use Rattle.firm_rents.specs.inner.Classes.{IsLeast}
use Rattle.firm_rents.proofs.first.lowest_machine.Given as goal

abbrev pub invariant-loop-place : goal.invariant-loop-place
invariant-loop-place l = record {
  inside : 0 < length l.case.slots → l.lowest < length l.case.slots;
  most : l.lowest ≤ length l.case.slots;
  least : (j : ℕ) → j < l.place → IsLeast l.rents l.lowest j;
}
