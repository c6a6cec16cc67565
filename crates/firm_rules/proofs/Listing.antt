-- Elements of lists, and lists whose later elements stand in a relation to each earlier one.
use Rattle.std.proofs.Common.{◌≡◌, ℕ, zero, suc, ◌<◌, ◌≤◌, Bool, true, false, min, List, [], ◌∷◌, ◌++◌, refl, sym, ap}
use Rattle.std.proofs.Common.{subst, ◌∙◌, arith, inl, inr, ◌⊎◌, ⊎_elim}
use Rattle.std.specs.Prelude.{⊤, map}
use Rattle.std.specs.List.{filter, flat_map}
use Rattle.std.proofs.lemmas.Bool.{cases_Bool, cases_lt, cond-true, cond-false}
use Rattle.firm_rules.specs.Placement.{numbers}
use Rattle.firm_rules.specs.Round.{smallest, first_list}

abbrev pub Each : {X : Type 0} → (X → Type 0) → List X → Type 0
Each P [] = ⊤
Each P (x ∷ xs) = P x × Each P xs

abbrev pub Among : {X : Type 0} → List X → X → Type 0
Among [] x = ⊥
Among (y ∷ ys) x = (y ≡ x) ⊎ Among ys x

abbrev pub Rises : {X : Type 0} → (X → X → Type 0) → List X → Type 0
Rises R [] = ⊤
Rises R (x ∷ xs) = Each (R x) xs × Rises R xs

pub each_at : {X : Type 0} (P : X → Type 0) (xs : List X) (x : X) → Each P xs → Among xs x → P x
each_at P [] x h a = absurd a
each_at P (y ∷ ys) x h a = ⊎_elim (λ (e : y ≡ x). subst P e h.0) (λ (b : Among ys x). each_at P ys x h.1 b) a

pub each_from : {X : Type 0} (P : X → Type 0) (xs : List X) → ((x : X) → Among xs x → P x) → Each P xs
each_from P [] h = tt
each_from {X} P (x ∷ xs) h = (h x (inl refl), each_from P xs (λ y a. h y (inr a)))

pub among_left : {X : Type 0} (xs ys : List X) (x : X) → Among xs x → Among (xs ++ ys) x
among_left [] ys x a = absurd a
among_left (y ∷ xs) ys x a = ⊎_elim (λ (e : y ≡ x). inl e) (λ (b : Among xs x). inr (among_left xs ys x b)) a

pub among_right : {X : Type 0} (xs ys : List X) (x : X) → Among ys x → Among (xs ++ ys) x
among_right [] ys x a = a
among_right (y ∷ xs) ys x a = inr (among_right xs ys x a)

pub among_either : {X : Type 0} (xs ys : List X) (x : X) → Among (xs ++ ys) x → Among xs x ⊎ Among ys x
among_either [] ys x a = inr a
among_either (y ∷ xs) ys x a =
    ⊎_elim (λ (e : y ≡ x). inl (inl e))
    (λ (b : Among (xs ++ ys) x). ⊎_elim (λ (c : Among xs x). inl (inr c)) (λ (c : Among ys x). inr c)
    (among_either xs ys x b)) a

each_both : {X : Type 0} (P : X → Type 0) (xs ys : List X) → Each P xs → Each P ys → Each P (xs ++ ys)
each_both P [] ys h k = k
each_both P (x ∷ xs) ys h k = (h.0, each_both P xs ys h.1 k)

pub rises_both : {X : Type 0} (R : X → X → Type 0) (xs ys : List X) → Rises R xs → Rises R ys
    → ((x y : X) → Among xs x → Among ys y → R x y) → Rises R (xs ++ ys)
rises_both R [] ys h k across = k
rises_both {X} R (x ∷ xs) ys h k across = (
  each_both (R x) xs ys h.0 (each_from (R x) ys (λ y a. across x y (inl refl) a)),
  rises_both R xs ys h.1 k (λ z y a b. across z y (inr a) b),
)

pub among_map : {X Y : Type 0} (f : X → Y) (xs : List X) (x : X) → Among xs x → Among (map f xs) (f x)
among_map f [] x a = absurd a
among_map f (y ∷ xs) x a = ⊎_elim (λ (e : y ≡ x). inl (ap f e)) (λ (b : Among xs x). inr (among_map f xs x b)) a

pub from_map : {X Y : Type 0} (f : X → Y) (xs : List X) (y : Y) → Among (map f xs) y → (x : X) × Among xs x × (f x ≡ y)
from_map f [] y a = absurd a
from_map {X} {Y} f (x ∷ xs) y a =
    ⊎_elim (λ (e : f x ≡ y). (x, inl refl, e)) (λ (b : Among (map f xs) y). let r =
    from_map f xs y b in (r.0, inr r.1, r.2)) a

pub rises_map : {X Y : Type 0} (f : X → Y) (R : Y → Y → Type 0) (xs : List X) → Rises (λ x y. R (f x) (f y)) xs
    → Rises R (map f xs)
rises_map f R [] h = tt
rises_map {X} {Y} f R (x ∷ xs) h = (
  each_from (R (f x)) (map f xs) (λ y a. let r =
      from_map f xs y a in subst (R (f x)) r.2 (each_at (λ z. R (f x) (f z)) xs r.0 h.0 r.1)),
  rises_map f R xs h.1,
)

module _ {X : Type 0} (p : X → Bool) where
  pub among_filter : (xs : List X) (x : X) → Among xs x → p x ≡ true → Among (filter p xs) x
  among_filter [] x a t = absurd a
  among_filter (y ∷ ys) x a t =
      ⊎_elim
      (λ (e : y ≡ x).
      let here : filter p (y ∷ ys) ≡ y ∷ filter p ys = cond-true (p y) (y ∷ filter p ys) (filter p ys) (ap p e ∙ t) in
      subst (λ l. Among l x) (sym here) (inl e))
      (λ (b : Among ys x).
      let rest : Among (filter p ys) x = among_filter ys x b t in
      ⊎_elim
      (λ (q : p y ≡ true). subst (λ l. Among l x) (sym (cond-true (p y) (y ∷ filter p ys) (filter p ys) q)) (inr rest))
      (λ (q : p y ≡ false). subst (λ l. Among l x) (sym (cond-false (p y) (y ∷ filter p ys) (filter p ys) q)) rest)
      (cases_Bool (p y))) a

  pub from_filter : (xs : List X) (x : X) → Among (filter p xs) x → (p x ≡ true) × Among xs x
  from_filter [] x a = absurd a
  from_filter (y ∷ ys) x a =
      ⊎_elim
      (λ (q : p y ≡ true).
      let there : Among (y ∷ filter p ys) x =
      subst (λ l. Among l x) (cond-true (p y) (y ∷ filter p ys) (filter p ys) q) a in
      ⊎_elim (λ (e : y ≡ x). (ap p (sym e) ∙ q, inl e)) (λ (b : Among (filter p ys) x). let r =
      from_filter ys x b in (r.0, inr r.1)) there)
      (λ (q : p y ≡ false).
      let r = from_filter ys x (subst (λ l. Among l x) (cond-false (p y) (y ∷ filter p ys) (filter p ys) q) a) in
      (r.0, inr r.1))
      (cases_Bool (p y))

  pub rises_filter : (R S : X → X → Type 0) (xs : List X) → Rises R xs
      → ((x y : X) → R x y → p x ≡ true → p y ≡ true → S x y)
      → Rises S (filter p xs)
  rises_filter R S [] h k = tt
  rises_filter R S (x ∷ xs) h k =
      let rest : Rises S (filter p xs) = rises_filter R S xs h.1 k in
      ⊎_elim
      (λ (q : p x ≡ true).
      subst (Rises S) (sym (cond-true (p x) (x ∷ filter p xs) (filter p xs) q)) (
        each_from (S x) (filter p xs) (λ y a. let r =
            from_filter xs y a in k x y (each_at (R x) xs y h.0 r.1) q r.0),
        rest,
      ))
      (λ (q : p x ≡ false). subst (Rises S) (sym (cond-false (p x) (x ∷ filter p xs) (filter p xs) q)) rest)
      (cases_Bool (p x))

pub among_flat : {X Y : Type 0} (f : X → List Y) (xs : List X) (x : X) (y : Y) → Among xs x → Among (f x) y
    → Among (flat_map f xs) y
among_flat f [] x y a b = absurd a
among_flat {X} {Y} f (z ∷ xs) x y a b =
    ⊎_elim (λ (e : z ≡ x). among_left (f z) (flat_map f xs) y (subst (λ v. Among (f v) y) (sym e) b))
    (λ (c : Among xs x). among_right (f z) (flat_map f xs) y (among_flat f xs x y c b)) a

pub from_flat : {X Y : Type 0} (f : X → List Y) (xs : List X) (y : Y) → Among (flat_map f xs) y
    → (x : X) × Among xs x × Among (f x) y
from_flat f [] y a = absurd a
from_flat {X} {Y} f (x ∷ xs) y a =
    ⊎_elim (λ (b : Among (f x) y). (x, inl refl, b))
    (λ (b : Among (flat_map f xs) y). let r =
    from_flat f xs y b in (r.0, inr r.1, r.2)) (among_either (f x) (flat_map f xs) y a)

pub rises_flat : {X Y : Type 0} (R : X → X → Type 0) (S : Y → Y → Type 0) (f : X → List Y) (xs : List X) → Rises R xs
    → ((x : X) → Rises S (f x)) → ((x y : X) (a b : Y) → R x y → Among (f x) a → Among (f y) b → S a b)
    → Rises S (flat_map f xs)
rises_flat R S f [] h each across = tt
rises_flat {X} {Y} R S f (x ∷ xs) h each across =
    rises_both S (f x) (flat_map f xs) (each x) (rises_flat R S f xs h.1 each across)
    (λ a b in_x in_rest. let r = from_flat f xs b in_rest in across x r.0 a b (each_at (R x) xs r.0 h.0 r.1) in_x r.2)

-- the numbers below n
pub among_numbers : (n i : ℕ) → i < n → Among (numbers n) i
among_numbers zero i l = absurd (omega arith)
among_numbers (suc n) i l =
    ⊎_elim (λ (h : i < n). among_left (numbers n) (n ∷ []) i (among_numbers n i h))
    (λ (h : n ≤ i). among_right (numbers n) (n ∷ []) i (inl (omega arith))) (cases_lt i n)

pub below_numbers : (n i : ℕ) → Among (numbers n) i → i < n
below_numbers zero i a = absurd a
below_numbers (suc n) i a =
    ⊎_elim (λ (b : Among (numbers n) i). omega (arith, below_numbers n i b))
    (λ (b : Among (n ∷ []) i). ⊎_elim (λ (e : n ≡ i). omega arith) (λ (v : ⊥). absurd v) b)
    (among_either (numbers n) (n ∷ []) i a)

pub rises_numbers : (n : ℕ) → Rises (λ i j. i < j) (numbers n)
rises_numbers zero = tt
rises_numbers (suc n) =
    rises_both (λ (i j : ℕ). i < j) (numbers n) (n ∷ []) (rises_numbers n) (tt, tt)
    (λ i j a b. ⊎_elim (λ (e : n ≡ j). omega (arith, below_numbers n i a)) (λ (v : ⊥). absurd v) b)

-- the smallest number, and the first of some lists
pub smallest-le : (ns : List ℕ) (n : ℕ) → Among ns n → smallest ns ≤ n
smallest-le [] n a = absurd a
smallest-le (m ∷ []) n a = ⊎_elim (λ (e : m ≡ n). omega arith) (λ (v : ⊥). absurd v) a
smallest-le (m ∷ k ∷ ns) n a =
    ⊎_elim (λ (e : m ≡ n). omega (arith, e)) (λ (b : Among (k ∷ ns) n). omega (arith, smallest-le (k ∷ ns) n b)) a

pub smallest_among : (ns : List ℕ) (n : ℕ) → Among ns n → Among ns (smallest ns)
smallest_among [] n a = absurd a
smallest_among (m ∷ []) n a = inl refl
smallest_among (m ∷ k ∷ ns) n a =
    ⊎_elim (λ (l : m < smallest (k ∷ ns)). inl (omega (arith, l)))
    (λ (l : smallest (k ∷ ns) ≤ m).
    let e : smallest (k ∷ ns) ≡ min m (smallest (k ∷ ns)) = omega (arith, l) in
    inr (subst (Among (k ∷ ns)) e (smallest_among (k ∷ ns) k (inl refl))))
    (cases_lt m (smallest (k ∷ ns)))

pub first_among : {X : Type 0} (R : List X → List X → Type 0) (xs : List (List X)) (y : List X) → Among xs y
    → Rises R xs
    → Among xs (first_list xs) × ((z : List X) → Among xs z → (z ≡ first_list xs) ⊎ R (first_list xs) z)
first_among R [] y a h = absurd a
first_among {X} R (x ∷ xs) y a h = (
  inl refl,
  λ z b. ⊎_elim (λ (e : x ≡ z). inl (sym e)) (λ (c : Among xs z). inr (each_at (R x) xs z h.0 c)) b,
)
