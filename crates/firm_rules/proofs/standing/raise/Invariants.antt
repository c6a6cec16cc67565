use Rattle.std.proofs.Common.{ℕ, ◌≡◌, ◌==◌, ◌<◌, max, length, slice_index, if◌then◌else◌, take}
use Rattle.std.specs.List.{list_any}
use Rattle.firm_rules.proofs.standing.raise.Given as goal

abbrev pub invariant-loop-place : goal.invariant-loop-place
invariant-loop-place l =
    (length l.bids ≡ 4096)
    × ((j : ℕ) → j < 4096
    → slice_index l.bids j
    ≡ max (slice_index l.initial.bids j)
    (if list_any (λ place. place == j) (take l.place-index l.places) then l.bid else 0))
