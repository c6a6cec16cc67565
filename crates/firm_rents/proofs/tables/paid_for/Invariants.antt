use Rattle.std.proofs.Common.{◌≡◌, ◌-◌, ◌<◌, ◌≤◌, ℕ, length}
use Rattle.std.specs.Prelude.{slice_index}
use Rattle.firm_rules.specs.Placement.{load, slot_cost}
use Rattle.firm_rents.proofs.tables.paid_for.Given as goal

abbrev pub invariant-loop-place : goal.invariant-loop-place
invariant-loop-place l = record {
  one_each : length l.rents.items ≡ length l.case.slots;
  rents : (j : ℕ) → j < l.place → slice_index l.rents.items j ≤ slot_cost l.case.spread (load l.placement j - 1);
  small : (j : ℕ) → slice_index l.rents.items j ≤ 1099511627776;
}
