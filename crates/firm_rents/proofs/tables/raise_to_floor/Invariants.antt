use Rattle.std.proofs.Common.{◌≡◌, ◌<◌, ◌≤◌, ℕ, List, length}
use Rattle.std.specs.Prelude.{slice_index}
use Rattle.firm_rents.specs.Rents.{IsBelow}
use Rattle.firm_rents.proofs.tables.raise_to_floor.Given as goal

abbrev pub invariant-loop-place : goal.invariant-loop-place
invariant-loop-place l = record {
  one_each : length l.rents ≡ length l.fn.rents;
  small : (j : ℕ) → slice_index l.rents j ≤ 1099511627776;
  below : (bounds : List ℕ) → ((j : ℕ) → j < length l.fn.rents → l.least ≤ slice_index bounds j)
      → IsBelow l.fn.rents bounds → IsBelow l.rents bounds;
}
