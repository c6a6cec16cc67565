-- How bytes are cut at their first mark.
use Rattle.std.proofs.Common.{◌≡◌, ◌≤◌, ◌+◌, ◌-◌, ℕ, Bool, true, false, List, [], ◌∷◌, take, drop, length, refl, sym}
use Rattle.std.proofs.Common.{ap, arith}
use Rattle.std.proofs.lemmas.List.{take_all}
use Rattle.std.proofs.Math.Numerals.{one-add}
use Rattle.std.specs.List.{slice_split, position_or_len}
use Rattle.firm_saved.specs.Lines.{pieces_behind}

-- the first piece ends at the first mark
pub first_piece : (p : ℕ → Bool) (xs : List ℕ)
    → slice_split p xs ≡ take (position_or_len p xs) xs ∷ pieces_behind p (drop (position_or_len p xs) xs)
first_piece p [] = refl
first_piece p (x ∷ xs) = by (p x) refl (first_piece p xs)
  where
    by : (b : Bool) → p x ≡ b
        → slice_split p xs ≡ take (position_or_len p xs) xs ∷ pieces_behind p (drop (position_or_len p xs) xs)
        → slice_split p (x ∷ xs)
        ≡ take (position_or_len p (x ∷ xs)) (x ∷ xs) ∷ pieces_behind p (drop (position_or_len p (x ∷ xs)) (x ∷ xs))
    by true e h = rw e refl
    by false e h = rw (e, one-add, h) refl

-- the pieces behind a mark that is there, or where none is
pub behind_mark : (p : ℕ → Bool) (back : List ℕ) → 1 ≤ length back
    → pieces_behind p back ≡ slice_split p (take (length back - 1) (drop 1 back))
behind_mark p [] some = absurd (omega arith)
behind_mark p (mark ∷ rest) some =
    let all : length (mark ∷ rest) - 1 ≡ length rest = omega arith in
    rw all (ap (slice_split p) (sym (take_all (length rest) rest (omega arith))))

pub behind_none : (p : ℕ → Bool) (back : List ℕ) → length back ≡ 0 → pieces_behind p back ≡ []
behind_none p [] none = refl
behind_none p (mark ∷ rest) none = absurd (omega arith)

pub length_behind : (back : List ℕ) → 1 ≤ length back → length (take (length back - 1) (drop 1 back)) + 1 ≡ length back
length_behind [] some = absurd (omega arith)
length_behind (mark ∷ rest) some =
    let all : length (mark ∷ rest) - 1 ≡ length rest = omega arith in
    rw all (omega (arith, ap (λ (l : List ℕ). length l) (take_all (length rest) rest (omega arith))))
