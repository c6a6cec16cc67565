-- Bounds by the low and the high rents of a round together.
use Rattle.std.specs.Prelude.{◌≡◌, ℕ, ◌-◌, max, List, length, slice_index}
use Rattle.firm_rules.specs.declared.rounds.Choice.{Choice}
use Rattle.firm_rules.specs.Placement.{Demand, Case}
use Rattle.firm_rents.specs.Rents.{paid}

-- how much more a choice costs the task than the chosen one: the greater number of the two tables
abbrev pub more_by_both : Case → List ℕ → List ℕ → Demand → Choice → Choice → ℕ
more_by_both case low high task chosen other =
    max (paid case low task other - paid case low task chosen) (paid case high task other - paid case high task chosen)

-- for each machine the low rent, or the high one less the gap, whichever is greater
pub record AreAtGap (low high : List ℕ) (gap : ℕ) (rents : List ℕ) : Type 0 where
  pub one_each : length rents ≡ length low
  pub greater : (j : ℕ) → slice_index rents j ≡ max (slice_index low j) (slice_index high j - gap)
