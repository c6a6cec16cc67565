use Rattle.std.proofs.Common.{◌<◌, ℕ}
use Rattle.firm_rents.specs.inner.Classes.{class_at}
use Rattle.firm_rents.proofs.first.are_classes.Given as goal

abbrev pub invariant-loop-place : goal.invariant-loop-place
invariant-loop-place l = record {
  parents : (k : ℕ) → 0 < k → k < l.place → (class_at l.classes k).parent < k;
  times : (k : ℕ) → 0 < k → k < l.place → 0 < (class_at l.classes k).parent
      → (class_at l.classes (class_at l.classes k).parent).time < (class_at l.classes k).time;
}
