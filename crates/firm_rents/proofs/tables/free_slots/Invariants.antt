use Rattle.std.proofs.Common.{◌≡◌, ◌^◌, ◌<◌, ◌≤◌, ℕ, length}
use Rattle.std.specs.Prelude.{slice_index, nat_lt, if◌then◌else◌}
use Rattle.firm_rules.specs.Placement.{load, slot_cost}
use Rattle.firm_rents.proofs.tables.free_slots.Given as goal

abbrev pub invariant-loop-place : goal.invariant-loop-place
invariant-loop-place l = record {
  one_each : length l.rents.items ≡ length l.case.slots;
  rents : (j : ℕ) → j < l.place → slice_index l.rents.items j
      ≡ (if nat_lt (load l.placement j) (slice_index l.case.slots j) then slot_cost l.case.spread (load l.placement j)
      else 2 ^ 40);
  small : (j : ℕ) → slice_index l.rents.items j ≤ 1099511627776;
}
