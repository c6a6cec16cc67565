use Rattle.std.proofs.Common.{◌≡◌, ◌<◌, ◌≤◌, ℕ, List, length}
use Rattle.std.specs.Prelude.{slice_index}
use Rattle.firm_rules.specs.declared.rounds.Choice.TheVariants.{On}
use Rattle.firm_rents.specs.Rents.{paid, IsBelow}
use Rattle.firm_rules.specs.Placement.{task_at}
use Rattle.firm_rents.proofs.tables.raise_near.Given as goal

abbrev pub invariant-loop-place : goal.invariant-loop-place
invariant-loop-place l = record {
  one_each : length l.rents ≡ length l.case.slots;
  small : (j : ℕ) → slice_index l.rents j ≤ 1099511627776;
  below : (bounds : List ℕ)
      → ((j : ℕ) → j < length l.case.slots → l.pays ≤ paid l.case bounds (task_at l.case l.task) (On j))
      → IsBelow l.fn.rents bounds → IsBelow l.rents bounds;
}
