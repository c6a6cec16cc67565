use Rattle.std.proofs.Common.{ℕ, ◌≡◌, ◌<◌, length, take, slice_index}
use Rattle.firm_rules.specs.Placement.{load}
use Rattle.firm_rules.proofs.placements.loads_of.Given as goal

abbrev pub invariant-loop-task : goal.invariant-loop-task
invariant-loop-task l =
    (length l.loads ≡ 4096)
    × ((j : ℕ) → j < 4096 → slice_index l.loads j ≡ load (take l.task l.placement) j)
