-- A property of each element of a list, as a loop takes one off its front, or puts one at its back.
use Rattle.std.proofs.Common.{◌≡◌, ◌∙◌, zero, suc, List, [], ◌∷◌, ◌++◌, All, map, ap, sym, subst, arith, append_assoc}
use Rattle.std.proofs.lemmas.List.Elements.{All-append}

module _ {A : Type 0} (P : A → Type 0) where
  pub all_head : (all rest : List A) (x : A) → all ≡ x ∷ rest → All P all → P x
  all_head all rest x e every = subst (All P) e every 0 x (omega arith)

  pub all_rest : (all rest : List A) (x : A) → all ≡ x ∷ rest → All P all → All P rest
  all_rest all rest x e every k d low = subst (All P) e every (suc k) d (omega arith)

  all_one : (x : A) → P x → All P (x ∷ [])
  all_one x p zero d low = p
  all_one x p (suc k) d low = absurd (omega arith)

  pub all_push : (old new : List A) (x : A) → new ≡ old ++ x ∷ [] → All P old → P x → All P new
  all_push old new x e every p = subst (All P) (sym e) (All-append P old (x ∷ []) every (all_one x p))

-- one element more is turned, off the front of those that are left
module _ {A B : Type 0} (f : A → B) where
  pub one_turned : (old new whole : List B) (y : B) (x : A) (all rest : List A) → all ≡ x ∷ rest → y ≡ f x
      → new ≡ old ++ y ∷ []
      → old ++ map f all ≡ whole → new ++ map f rest ≡ whole
  one_turned old new whole y x all rest steps is pushed before =
      ap (λ (ys : List B). ys ++ map f rest) (pushed ∙ ap (λ (z : B). old ++ z ∷ []) is)
      ∙ append_assoc old (f x ∷ []) (map f rest)
      ∙ sym (ap (λ (xs : List A). old ++ map f xs) steps)
      ∙ before
