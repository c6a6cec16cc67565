-- Slots, some of which are gaps, and the list of the items in the others.
use Rattle.std.specs.Prelude.{◌≡◌, ℕ, suc, zero, ◌+◌, ◌<◌, ◌≤◌, List, [], ◌∷◌, remove}

-- numbers of slots that rise, from the first of these on and below the second
abbrev pub AreGaps : ℕ → ℕ → List ℕ → Type 0
AreGaps first end [] = first ≤ end
AreGaps first end (gap ∷ gaps) = (first ≤ gap) × AreGaps (gap + 1) end gaps

-- the items of the slots that are no gaps
abbrev pub kept : {T : Type 0} → List T → List ℕ → List T
kept slots [] = slots
kept slots (gap ∷ gaps) = remove (kept slots gaps) gap

-- the first gaps, of this number, lie at or before the slot of a place, and the others after it
abbrev pub Splits : List ℕ → ℕ → ℕ → Type 0
Splits [] place count = count ≡ 0
Splits (gap ∷ gaps) place zero = (place < gap) × Splits gaps place zero
Splits (gap ∷ gaps) place (suc count) = (gap ≤ place) × Splits gaps (suc place) count
