use Rattle.std.proofs.Common.{◌≡◌, ◌<◌, ℕ, length}
use Rattle.std.specs.Prelude.{slice_index}
use Rattle.firm_paths.specs.Visits.{visit}
use Rattle.firm_paths.proofs.tight.number_visits.Given as goal

abbrev pub invariant-loop-number : goal.invariant-loop-number
invariant-loop-number l = record {
  size : length l.numbers.items ≡ length l.initial.numbers.items;
  numbered : (k : ℕ) → k < l.number → slice_index l.numbers.items (visit l.visits.items k).place ≡ k;
}
