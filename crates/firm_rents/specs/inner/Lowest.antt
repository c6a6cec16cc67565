-- The search for the machine with the lowest number.
use Rattle.std.specs.Prelude.{ℕ, ◌+◌, ◌<◌, ◌≤◌, Bool, true, not, ◌&&◌, ◌^◌, List, length, slice_index}
use Rattle.firm_rules.specs.declared.rounds.Choice.{Choice}
use Rattle.firm_rules.specs.declared.rounds.Choice.TheVariants.{On, Wait}
use Rattle.firm_rules.specs.Placement.{Demand, Case, goes_to}
use Rattle.firm_rules.specs.ChoiceCost.{wide_cost, near}
use Rattle.firm_rents.specs.Lowest.{IsLowest, IsNeither}
use Rattle.firm_rents.specs.Rents.{paid}
use Rattle.firm_rents.specs.declared.rents.Rents.TheInside.{Inside}

-- the choice is neither of these machines
abbrev pub is_neither : Choice → Choice → Choice → Bool
is_neither a b (On k) = not (goes_to k a) && not (goes_to k b)
is_neither a b Wait = true

-- rents, with the three lowest of them
pub record RentsFit (rents : Inside) : Type 0 where
  pub small : (j : ℕ) → slice_index rents.table.items j ≤ 2 ^ 40
  pub few : length rents.table.items ≤ 4096
  pub first : IsLowest (slice_index rents.table.items) (length rents.table.items) Wait Wait rents.first
  pub second : IsLowest (slice_index rents.table.items) (length rents.table.items) rents.first Wait rents.second
  pub third : IsLowest (slice_index rents.table.items) (length rents.table.items) rents.first rents.second rents.third

-- how far the search for the cheapest machine but two has come, after this many of the near ones: the choice costs no
-- more than any machine at the wide cost, nor than any of those near ones
abbrev pub IsCheapestSoFar : Case → List ℕ → Demand → Choice → Choice → ℕ → Choice → Type 0
IsCheapestSoFar case rents task a b n (On k) =
    (k < length case.slots) × IsNeither a b k
    × ((j : ℕ) → j < length case.slots → IsNeither a b j
    → paid case rents task (On k) ≤ wide_cost case task + slice_index rents j)
    × ((i : ℕ) → i < n → IsNeither a b (slice_index (near task) i)
    → paid case rents task (On k) ≤ paid case rents task (On (slice_index (near task) i)))
IsCheapestSoFar case rents task a b n Wait = (j : ℕ) → j < length case.slots → IsNeither a b j → ⊥
