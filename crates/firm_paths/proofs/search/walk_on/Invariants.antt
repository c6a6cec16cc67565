use Rattle.std.proofs.Common.{◌≡◌, ◌+◌, ◌<◌, ◌≤◌, ◌++◌, length, vec_len, vec_capacity}
use Rattle.firm_paths.specs.Visits.{steps_on}
use Rattle.firm_paths.proofs.search.walk_on.Given as goal

abbrev pub invariant-loop-at : goal.invariant-loop-at
invariant-loop-at l = record {
  listed : l.at < length l.visits;
  within : vec_len l.steps + l.at ≤ l.start;
  capacity : vec_capacity l.steps ≡ vec_capacity l.fn.steps;
  walked : l.steps.items ++ steps_on l.visits l.at ≡ steps_on l.visits l.start;
}

abbrev pub decreases-loop-at : goal.decreases-loop-at
decreases-loop-at l = l.at
