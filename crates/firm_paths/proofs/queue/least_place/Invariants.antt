use Rattle.std.proofs.Common.{◌≡◌, ◌*◌, ◌-◌, ◌<◌, ◌≤◌}
use Rattle.std.specs.Prelude.{slice_index}
use Rattle.firm_paths.proofs.queue.least_place.Given as goal

abbrev pub invariant-loop-at : goal.invariant-loop-at
invariant-loop-at l = record {
  above : 1 ≤ l.at;
  below : l.at < 2 * l.places;
  top : slice_index l.keys l.at ≡ l.top;
}

abbrev pub decreases-loop-at : goal.decreases-loop-at
decreases-loop-at l = l.places - l.at
