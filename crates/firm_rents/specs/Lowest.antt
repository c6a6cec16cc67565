-- The machine with the lowest number, apart from two.
use Rattle.std.specs.Prelude.{◌≡◌, ℕ, ◌<◌, ◌≤◌, false}
use Rattle.firm_rules.specs.declared.rounds.Choice.{Choice}
use Rattle.firm_rules.specs.declared.rounds.Choice.TheVariants.{On, Wait}
use Rattle.firm_rules.specs.Placement.{goes_to}

-- the machine is neither of these
pub record IsNeither (a b : Choice) (j : ℕ) : Type 0 where
  pub first : goes_to j a ≡ false
  pub second : goes_to j b ≡ false

-- of the first n machines apart from these two, this one has the lowest number, or there is none
abbrev pub IsLowest : (ℕ → ℕ) → ℕ → Choice → Choice → Choice → Type 0
IsLowest number n a b (On k) =
    (k < n) × IsNeither a b k × ((j : ℕ) → j < n → IsNeither a b j → number k ≤ number j)
IsLowest number n a b Wait = (j : ℕ) → j < n → IsNeither a b j → ⊥
