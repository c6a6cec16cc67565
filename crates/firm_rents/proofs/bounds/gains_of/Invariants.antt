use Rattle.std.proofs.Common.{◌≡◌, ◌*◌, ◌≤◌}
use Rattle.std.specs.Prelude.{slice_index}
use Rattle.firm_rules.specs.Placement.{total}
use Rattle.firm_rents.specs.Rents.{gain}
use Rattle.firm_rents.proofs.bounds.gains_of.Given as goal

abbrev pub invariant-loop-place : goal.invariant-loop-place
invariant-loop-place l =
    (l.gains ≡ total (λ j. gain l.case.spread (slice_index l.rents j) (slice_index l.case.slots j)) l.place)
    × (l.gains ≤ l.place * 140737488355328)
