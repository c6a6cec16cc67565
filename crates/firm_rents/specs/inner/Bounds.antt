-- Bounds of rents.
use Rattle.std.specs.Prelude.{ℕ, ◌+◌, ◌<◌, ◌≤◌, List, length, slice_index}

-- each of the rents is no more than its bound plus what `more` is beyond `less`
abbrev pub IsWithin : List ℕ → List ℕ → ℕ → ℕ → Type 0
IsWithin rents bounds less more =
    (j : ℕ) → j < length bounds → slice_index rents j + less ≤ slice_index bounds j + more
