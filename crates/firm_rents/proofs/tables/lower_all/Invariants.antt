use Rattle.std.proofs.Common.{◌≡◌, ◌≤◌, ℕ, List, length}
use Rattle.firm_rents.specs.Rents.{Suit, IsBelow}
use Rattle.firm_rents.specs.inner.Bounds.{IsWithin}
use Rattle.firm_rents.proofs.tables.lower_all.Given as goal

abbrev pub invariant-loop : goal.invariant-loop
invariant-loop l = record {
  one_each : length l.rents ≡ length l.case.slots;
  falls : IsBelow l.rents l.fn.rents;
  within : (bounds : List ℕ) (less more : ℕ) → Suit l.case bounds l.placement → less ≤ more
      → IsWithin bounds l.fn.rents less more → IsWithin bounds l.rents less more;
}
