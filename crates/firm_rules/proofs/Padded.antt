-- Tables of a fixed length, filled up past what they hold.
use Rattle.std.proofs.Common.{◌≡◌, ℕ, suc, ◌+◌, ◌-◌, ◌<◌, List, [], ◌∷◌, ◌++◌, length, take, append_assoc, sym, ap, ◌∙◌}
use Rattle.std.proofs.Common.{arith}
use Rattle.std.specs.Prelude.{replicate, slice_set}
use Rattle.std.proofs.Math.Seq.{set-append_seam, take-append_seam}
use Rattle.std.proofs.lemmas.List.{length-append}

module _ {X : Type 0} (most : ℕ) (fill : X) where
  abbrev pub filled : List X → List X
  filled xs = xs ++ replicate (most - length xs) fill

  -- written over the first that fills, an element stands behind the others
  set_filled : (xs : List X) (x : X) → length xs < most → slice_set (filled xs) (length xs) x ≡ filled (xs ++ x ∷ [])
  set_filled xs x few =
      let room : most - length xs ≡ suc (most - suc (length xs)) = omega arith in
      let left : most - suc (length xs) ≡ most - length (xs ++ x ∷ []) = omega (arith, length-append xs (x ∷ [])) in
      ap (λ n. slice_set (xs ++ replicate n fill) (length xs) x) room
      ∙ set-append_seam xs fill (replicate (most - suc (length xs)) fill) x
      ∙ ap (λ n. xs ++ x ∷ replicate n fill) left
      ∙ sym (append_assoc xs (x ∷ []) (replicate (most - length (xs ++ x ∷ [])) fill))

  -- a table that holds `count` elements, and one more behind them
  module _ (table : List X) (count : ℕ) (x : X) (rest : table ≡ filled (take count table))
      (counted : length (take count table) ≡ count)
      (few : count < most) where
    pub written : slice_set table count x ≡ filled (take count table ++ x ∷ [])
    written =
        ap (λ t. slice_set t count x) rest ∙ ap (λ n. slice_set (filled (take count table)) n x) (sym counted)
        ∙ set_filled (take count table) x (omega (arith, counted))

    pub long : length (take count table ++ x ∷ []) ≡ count + 1
    long = omega (arith, length-append (take count table) (x ∷ []), counted)

    pub taken : take (count + 1) (slice_set table count x) ≡ take count table ++ x ∷ []
    taken =
        ap (take (count + 1)) written ∙ ap (λ n. take n (filled (take count table ++ x ∷ []))) (sym long)
        ∙ take-append_seam (take count table ++ x ∷ [])
        (replicate (most - length (take count table ++ x ∷ [])) fill)
