-- How a row is cut at its first comma.
use Rattle.std.proofs.Common.{◌≡◌, ◌≢◌, ◌≤◌, ◌-◌, ◌∙◌, ℕ, Bool, List, [], ◌∷◌, length, take, drop, refl, sym, ap}
use Rattle.std.proofs.Common.{arith}
use Rattle.std.specs.List.{slice_split, position_or_len}
use Rattle.std.proofs.lemmas.List.{take_all}
use Rattle.std.proofs.lemmas.List.Splits.{length-slice_split}
use Rattle.firm_text.proofs.Cuts.{later_pieces, slice_split-first}

module _ (p : ℕ → Bool) (xs front back : List ℕ) (first : front ≡ take (position_or_len p xs) xs) (behind : back
    ≡ drop (position_or_len p xs) xs) where
  both : slice_split p xs ≡ front ∷ later_pieces p back
  both = rw (first, behind) (slice_split-first p xs)

  -- nothing follows the first piece
  pub cut-last : length back ≡ 0 → slice_split p xs ≡ front ∷ []
  cut-last none = both ∙ ap (λ (more : List (List ℕ)). front ∷ more) (no_more back none)
    where
      no_more : (back : List ℕ) → length back ≡ 0 → later_pieces p back ≡ []
      no_more [] none = refl
      no_more (mark ∷ rest) none = absurd (omega arith)

  -- or the mark and the other pieces
  pub cut-more : 1 ≤ length back → slice_split p xs ≡ front ∷ slice_split p (take (length back - 1) (drop 1 back))
  cut-more some = both ∙ ap (λ (more : List (List ℕ)). front ∷ more) (more back some)
    where
      more : (back : List ℕ) → 1 ≤ length back → later_pieces p back
          ≡ slice_split p (take (length back - 1) (drop 1 back))
      more [] some = absurd (omega arith)
      more (mark ∷ rest) some =
          let all : length (mark ∷ rest) - 1 ≡ length rest = omega arith in
          rw all (ap (slice_split p) (sym (take_all (length rest) rest (omega arith))))

-- a text has one piece at least
pub some_piece : (p : ℕ → Bool) (xs : List ℕ) → length (slice_split p xs) ≢ 0
some_piece p xs none = let pieces = length-slice_split p xs in absurd (omega (arith, pieces, none))
