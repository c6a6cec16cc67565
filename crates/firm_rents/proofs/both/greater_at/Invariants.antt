use Rattle.std.proofs.Common.{◌≡◌, ◌-◌, ◌<◌, ℕ, max, length}
use Rattle.std.specs.Prelude.{slice_index}
use Rattle.firm_rents.proofs.both.greater_at.Given as goal

abbrev pub invariant-loop-place : goal.invariant-loop-place
invariant-loop-place l = record {
  one_each : length l.table.items ≡ length l.low;
  done : (j : ℕ) → j < l.place → slice_index l.table.items j ≡ max (slice_index l.low j) (slice_index l.high j - l.gap);
}
