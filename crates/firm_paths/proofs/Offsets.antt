-- Prices as what they lack to a base.
use Rattle.std.proofs.Common.{◌≡◌, ℕ, ◌+◌, ◌-◌, ◌<◌, ◌≤◌, true, false, List, length, arith, ⊎_elim}
use Rattle.std.specs.Prelude.{slice_index, map}
use Rattle.std.proofs.lemmas.Bool.{cases_lt}
use Rattle.std.proofs.lemmas.List.{get_or-map, get_or_past, length-map}
use Rattle.firm_paths.specs.inner.Search.{settled, label, AreRaised}
use Rattle.firm_paths.specs.declared.search.NodeState.{NodeState}

-- the prices
abbrev pub below : ℕ → List ℕ → List ℕ
below base less = map (λ (l : ℕ). base - l) less

pub below_at : (base : ℕ) (less : List ℕ) (v : ℕ) → v < length less
    → slice_index (below base less) v ≡ base - slice_index less v
below_at base less v l = get_or-map (λ (l : ℕ). base - l) less v 0 0 l

pub below_zero : (less : List ℕ) (v : ℕ) → slice_index (below 0 less) v ≡ 0
below_zero less v =
    ⊎_elim
    (λ (l : v < length less). omega (arith, below_at 0 less v l))
    (λ (p : length less ≤ v). get_or_past (below 0 less) v 0 (omega (arith, p, length-map less (λ (l : ℕ). 0 - l))))
    (cases_lt v (length less))

pub raised_below : (base new_base distance goal : ℕ) (less new_less : List ℕ) (ms : List NodeState)
    → length new_less ≡ length less → goal < length less
    → ((v : ℕ) → slice_index less v ≤ base)
    → ((v : ℕ) → v < length less → settled ms v ≡ true → label ms v ≤ base - slice_index less goal + distance
    → new_base - slice_index new_less v ≡ label ms v)
    → ((v : ℕ) → v < length less → settled ms v ≡ false → slice_index less goal ≤ slice_index less v
    → new_base - slice_index new_less v ≡ base - slice_index less v + distance)
    → AreRaised (below base less) ms goal distance (below new_base new_less)
raised_below base new_base distance goal less new_less ms lengths listed within at_settled at_others =
    let size : length (below base less) ≡ length less = length-map less (λ (l : ℕ). base - l) in
    record {
      at_settled = λ v l s low.
          omega (
            arith,
            below_at new_base new_less v (omega (arith, l, lengths, size)),
            at_settled v (omega (arith, l, size)) s (omega (arith, low, below_at base less goal listed)),
          );
      at_others = λ v l s low.
          omega (
            arith,
            below_at new_base new_less v (omega (arith, l, lengths, size)),
            below_at base less v (omega (arith, l, size)),
            at_others v (omega (arith, l, size)) s
                (omega (
                  arith,
                  low,
                  below_at base less goal listed,
                  below_at base less v (omega (arith, l, size)),
                  within v,
                  within goal,
                )),
          );
    }
