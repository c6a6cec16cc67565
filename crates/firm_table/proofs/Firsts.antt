-- The first element of a list that passes a test.
use Rattle.std.proofs.Common.{◌≡◌, ℕ, zero, suc, ◌+◌, List, ◌∷◌, refl, sym, ap, ◌∙◌, length, arith}
use Rattle.std.specs.Prelude.{Bool, true, false, nat_lt, Option, Some, None, option_map, if◌then◌else◌}
use Rattle.std.specs.List.{position, position_or_len}
use Rattle.std.proofs.lemmas.Bool.Decides.{nat_tests}

-- it stands at the front
pub position-here : {X : Type 0} (p : X → Bool) (x : X) (xs : List X) → p x ≡ true → position p (x ∷ xs) ≡ Some 0
position-here p x xs here = rw (here, is_first) refl
  where
    is_first : nat_lt 0 (length (x ∷ xs)) ≡ true
    is_first = grind (arith, nat_tests)

position_behind : (n m : ℕ) → (if nat_lt (1 + n) (suc m) then Some (1 + n) else None)
    ≡ option_map (λ i. suc i) (if nat_lt n m then Some n else None)
position_behind n m = chosen (nat_lt (1 + n) (suc m)) (nat_lt n m) refl refl
  where
    chosen : (b c : Bool) → nat_lt (1 + n) (suc m) ≡ b → nat_lt n m ≡ c → (if b then Some (1 + n) else None)
        ≡ option_map (λ i. suc i) (if c then Some n else None)
    chosen true true e f = ap (λ (i : ℕ). Some i) (omega arith)
    chosen false false e f = refl
    chosen true false e f = absurd (grind (arith, nat_tests))
    chosen false true e f = absurd (grind (arith, nat_tests))

-- or after the front
pub position-behind : {X : Type 0} (p : X → Bool) (x : X) (xs : List X) → p x ≡ false → position p (x ∷ xs)
    ≡ option_map (λ i. suc i) (position p xs)
position-behind p x xs there = rw there (position_behind (position_or_len p xs) (length xs))

-- where it stands
pub data FirstAt {X : Type 0} (p : X → Bool) (x : X) (xs : List X) : ℕ → Type 0 where
  here : p x ≡ true → FirstAt p x xs zero
  behind : (n : ℕ) → p x ≡ false → position p xs ≡ Some n → FirstAt p x xs (suc n)

pub first : {X : Type 0} (p : X → Bool) (x : X) (xs : List X) (at : ℕ) → position p (x ∷ xs) ≡ Some at
    → FirstAt p x xs at
first p x xs at e = elim (p x) as (λ b. p x ≡ b → FirstAt p x xs at) [
  | true ↦ λ passes. let front : zero ≡ at = cc (position-here p x xs passes, e) in rw (← front) (here passes)
  | false ↦ λ fails. further (position p xs) refl fails (sym (position-behind p x xs fails) ∙ e)
] refl
  where
    further : (o : Option ℕ) → position p xs ≡ o → p x ≡ false → option_map (λ i. suc i) o ≡ Some at → FirstAt p x xs at
    further None is fails f = cc
    further (Some n) is fails f = let same : suc n ≡ at = cc in rw (← same) (behind n fails is)

-- where none passes, the front does not
pub none_first : {X : Type 0} (p : X → Bool) (x : X) (xs : List X) → position p (x ∷ xs) ≡ None → (p x ≡ false)
    × (position p xs ≡ None)
none_first p x xs e = elim (p x) as (λ b. p x ≡ b → (p x ≡ false) × (position p xs ≡ None)) [
  | true ↦ λ passes. absurd (cc (position-here p x xs passes, e))
  | false ↦ λ fails. (fails, none_behind (position p xs) (sym (position-behind p x xs fails) ∙ e))
] refl
  where
    none_behind : (o : Option ℕ) → option_map (λ i. suc i) o ≡ None → o ≡ None
    none_behind None f = refl
    none_behind (Some n) f = cc
