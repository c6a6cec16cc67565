use Rattle.std.proofs.Common.{◌≡◌, ◌≤◌, map, take}
use Rattle.std.specs.List.{All}
use Rattle.firm_rules.proofs.cases.slot_counts.Given as goal

abbrev pub invariant-loop-place : goal.invariant-loop-place
invariant-loop-place l = record {
  slots : l.slots.items ≡ map (λ machine. machine.slots) (take l.place l.rows.machines);
  most : All (λ n. n ≤ 64) l.slots.items;
}
