-- Laws for callers that turn the passes of a list one by one, and weigh them. No contract names these laws, and each is
-- proved here.
use Rattle.std.proofs.Common.{◌≡◌, ℕ, zero, suc, ◌+◌, ◌<◌, List, [], ◌∷◌, ◌++◌, map, length, get_or, set, take, drop}
use Rattle.std.proofs.Common.{sym, refl, ap, ◌∙◌, arith, add-one}
use Rattle.firm_rounds.specs.Rounds.{weigh}

module _ {A : Type 0} (f : A → A) where
  abbrev pub turned : ℕ → List A → List A
  turned i xs = map f (take i xs) ++ drop i xs

  pub turned_at : (i : ℕ) (xs : List A) (d : A) → i < length xs → get_or (turned i xs) i d ≡ get_or xs i d
  turned_at i [] d low = absurd (omega arith)
  turned_at zero (x ∷ xs) d low = refl
  turned_at (suc i) (x ∷ xs) d low = turned_at i xs d (omega arith)

  turned_suc : (i : ℕ) (xs : List A) (d : A) → i < length xs
      → set (turned i xs) i (f (get_or xs i d)) ≡ turned (suc i) xs
  turned_suc i [] d low = absurd (omega arith)
  turned_suc zero (x ∷ xs) d low = refl
  turned_suc (suc i) (x ∷ xs) d low = ap (λ (ys : List A). f x ∷ ys) (turned_suc i xs d (omega arith))

  pub turned_set : (i : ℕ) (xs : List A) (d : A) → i < length xs
      → set (turned i xs) i (f (get_or xs i d)) ≡ turned (i + 1) xs
  turned_set i xs d low = turned_suc i xs d low ∙ ap (λ (j : ℕ). turned j xs) (sym (add-one i))

  pub turned_wide : (i : ℕ) (xs : List A) → length (turned i xs) ≡ length xs
  turned_wide zero [] = refl
  turned_wide (suc i) [] = refl
  turned_wide zero (x ∷ xs) = refl
  turned_wide (suc i) (x ∷ xs) = ap suc (turned_wide i xs)

  pub turned_all : (i : ℕ) (xs : List A) → i ≡ length xs → turned i xs ≡ map f xs
  turned_all zero [] e = refl
  turned_all (suc i) [] e = refl
  turned_all zero (x ∷ xs) e = absurd (omega arith)
  turned_all (suc i) (x ∷ xs) e = ap (λ (ys : List A). f x ∷ ys) (turned_all i xs (omega arith))

module _ {A : Type 0} (g : A → ℕ) where
  pub weigh-append : (xs ys : List A) → weigh g (xs ++ ys) ≡ weigh g xs + weigh g ys
  weigh-append [] ys = omega arith
  weigh-append (x ∷ xs) ys = omega (arith, weigh-append xs ys)

  take_suc : (i : ℕ) (xs : List A) (d : A) → i < length xs
      → weigh g (take (suc i) xs) ≡ weigh g (take i xs) + g (get_or xs i d)
  take_suc i [] d low = absurd (omega arith)
  take_suc zero (x ∷ xs) d low = omega arith
  take_suc (suc i) (x ∷ xs) d low = omega (arith, take_suc i xs d (omega arith))

  pub weigh_more : (i : ℕ) (xs : List A) (d : A) → i < length xs
      → weigh g (take (i + 1) xs) ≡ weigh g (take i xs) + g (get_or xs i d)
  weigh_more i xs d low = ap (λ (j : ℕ). weigh g (take j xs)) (add-one i) ∙ take_suc i xs d low

  pub weigh_all : (i : ℕ) (xs : List A) → i ≡ length xs → weigh g (take i xs) ≡ weigh g xs
  weigh_all zero [] e = refl
  weigh_all (suc i) [] e = refl
  weigh_all zero (x ∷ xs) e = absurd (omega arith)
  weigh_all (suc i) (x ∷ xs) e = omega (arith, weigh_all i xs (omega arith))
