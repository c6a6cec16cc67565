use Rattle.std.proofs.Common.{◌≡◌, ◌<◌, ◌≤◌, ℕ, List, length}
use Rattle.std.specs.Prelude.{slice_index}
use Rattle.firm_rents.specs.Rents.{Suit, IsBelow}
use Rattle.firm_rents.proofs.tables.raise.Given as goal

abbrev pub invariant-loop-task : goal.invariant-loop-task
invariant-loop-task l = record {
  one_each : length l.rents ≡ length l.case.slots;
  small : (j : ℕ) → slice_index l.rents j ≤ 1099511627776;
  below : (bounds : List ℕ) → Suit l.case bounds l.placement → IsBelow l.fn.rents bounds → IsBelow l.rents bounds;
  floor : (bounds : List ℕ) → Suit l.case bounds l.placement → IsBelow l.fn.rents bounds
      → (j : ℕ) → j < length l.case.slots → l.floor ≤ slice_index bounds j;
}
