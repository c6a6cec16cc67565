-- The machine that costs least more by two tables of rents.
use Rattle.std.proofs.Common.{◌≡◌, ℕ, ◌+◌, ◌-◌, ◌≤◌, max, List, sym, arith}
use Rattle.std.specs.Prelude.{slice_index}
use Rattle.firm_rules.specs.declared.rounds.Choice.{Choice}
use Rattle.firm_rules.specs.declared.rounds.Choice.TheVariants.{On, Wait}
use Rattle.firm_rules.specs.Placement.{Demand, Case, task_cost}
use Rattle.firm_rents.specs.Rents.{rent, paid}
use Rattle.firm_rents.specs.TwoTables.{more_by_both, AreAtGap}
use Rattle.firm_rents.specs.Lowest.{IsLowest}

-- a machine costs more by both tables as it does by the greater rents alone
at_gap : (cost low high own least gap : ℕ)
    → max ((cost + low) - (own + least)) ((cost + high) - (own + (least + gap)))
    ≡ (cost + max low (high - gap)) - (own + least)
at_gap cost low high own least gap = omega arith

pub nearest : (case : Case) (low high both : List ℕ) (gap : ℕ) (task : Demand) (chosen home found : Choice) (n : ℕ)
    → AreAtGap low high gap both → rent low chosen + gap ≡ rent high chosen
    → IsLowest (λ j. paid case both task (On j)) n chosen home found
    → IsLowest (λ j. more_by_both case low high task chosen (On j)) n chosen home found
nearest case low high both gap task chosen home Wait n at apart h = h
nearest case low high both gap task chosen home (On k) n at apart h = (
  h.0,
  h.1,
  λ j l neither. (let less : paid case both task (On k) ≤ paid case both task (On j) = h.2 j l neither in
      omega (arith, less, more k, more j)),
)
  where
    more : (j : ℕ) → more_by_both case low high task chosen (On j)
        ≡ paid case both task (On j) - (task_cost case task chosen + rent low chosen)
    more j =
        rw (at.greater j)
        (rw (sym apart)
        (at_gap (task_cost case task (On j)) (slice_index low j) (slice_index high j) (task_cost case task chosen)
        (rent low chosen) gap))
