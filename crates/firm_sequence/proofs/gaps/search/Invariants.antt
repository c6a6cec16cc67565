use Rattle.std.proofs.Common.{◌-◌, ◌+◌, ◌<◌, ◌≤◌, length, ℕ}
use Rattle.std.specs.Prelude.{slice_index_or}
use Rattle.firm_sequence.proofs.gaps.search.Given as goal

abbrev pub invariant-loop-low : goal.invariant-loop-low
invariant-loop-low l =
    (l.low ≤ l.high) × (l.high ≤ length l.gaps)
    × ((i : ℕ) → i < l.low → slice_index_or l.gaps i 0 ≤ l.place + i)
    × ((i : ℕ) → l.high ≤ i → i < length l.gaps → l.place + i < slice_index_or l.gaps i 0)

abbrev pub decreases-loop-low : goal.decreases-loop-low
decreases-loop-low l = l.high - l.low
