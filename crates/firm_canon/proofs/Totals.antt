-- Sums over the numbers below n.
use Rattle.std.proofs.Common.{◌≡◌, ℕ, zero, suc, ◌+◌, ◌*◌, ◌<◌, ◌≤◌, Bool, cond, eqb, ltb, List}
use Rattle.std.proofs.Common.{arith, refl, sym, ap, subst, ◌∙◌, inl, inr, ◌⊎◌, ⊎_elim}
use Rattle.std.specs.List.{sum_by}
use Rattle.std.proofs.lemmas.List.Sums.{sum_by-append}
use Rattle.std.proofs.lemmas.Bool.{cases_lt, cases_eq, cond-true, cond-false, eq-eqb, ne_eqb, lt-ltb, le-ltb}
use Rattle.std.proofs.Math.Nat.{mul-add, mul-zero}
use Rattle.firm_rules.specs.Placement.{total, load_cost, slot_cost}
use Rattle.firm_rules.specs.SlotCosts.{LoadsAreSumsOfSlots, LaterSlotsCostNoLess}
use Rattle.firm_graph.specs.Network.{gather}

pub total_zero : (f : ℕ → ℕ) (n : ℕ) → ((i : ℕ) → i < n → f i ≡ 0) → total f n ≡ 0
total_zero f zero h = refl
total_zero f (suc n) h = omega (arith, total_zero f n (λ i l. h i (omega arith)), h n (omega arith))

pub total_same : (f g : ℕ → ℕ) (n : ℕ) → ((i : ℕ) → i < n → f i ≡ g i) → total f n ≡ total g n
total_same f g zero h = refl
total_same f g (suc n) h = omega (arith, total_same f g n (λ i l. h i (omega arith)), h n (omega arith))

pub total-le : (f g : ℕ → ℕ) (n : ℕ) → ((i : ℕ) → i < n → f i ≤ g i) → total f n ≤ total g n
total-le f g zero h = omega arith
total-le f g (suc n) h = omega (arith, total-le f g n (λ i l. h i (omega arith)), h n (omega arith))

-- equal sums of terms that are no larger have equal terms
pub total_tight : (f g : ℕ → ℕ) (n : ℕ) → ((i : ℕ) → i < n → f i ≤ g i) → total g n ≤ total f n → (i : ℕ) → i < n
    → f i ≡ g i
total_tight f g zero h e i l = absurd (omega arith)
total_tight f g (suc n) h e i l =
    let sums : total f n ≤ total g n = total-le f g n (λ i l. h i (omega arith)) in
    let last : f n ≤ g n = h n (omega arith) in
    ⊎_elim (λ (q : i ≡ n). subst (λ j. f j ≡ g j) (sym q) (omega (arith, last, sums, e)))
    (λ (ne : i ≡ n → ⊥). total_tight f g n (λ i l. h i (omega arith)) (omega (arith, last, sums, e)) i (omega arith))
    (cases_eq i n)

pub total-add : (f g : ℕ → ℕ) (n : ℕ) → total (λ i. f i + g i) n ≡ total f n + total g n
total-add f g zero = refl
total-add f g (suc n) = omega (arith, total-add f g n)

pub total-mul : (a : ℕ) (f : ℕ → ℕ) (n : ℕ) → total (λ i. a * f i) n ≡ a * total f n
total-mul a f zero = sym (mul-zero a)
total-mul a f (suc n) = omega (arith, total-mul a f n, mul-add a (total f n) (f n))

pub term-le-total : (f : ℕ → ℕ) (n i : ℕ) → i < n → f i ≤ total f n
term-le-total f zero i l = absurd (omega arith)
term-le-total f (suc n) i l =
    ⊎_elim (λ (q : i ≡ n). subst (λ j. f j ≤ total f n + f n) (sym q) (omega arith))
    (λ (ne : i ≡ n → ⊥). omega (arith, term-le-total f n i (omega arith)))
    (cases_eq i n)

-- the first term apart
pub total_front : (f : ℕ → ℕ) (n : ℕ) → total f (suc n) ≡ f 0 + total (λ i. f (suc i)) n
total_front f zero = omega arith
total_front f (suc n) = omega (arith, total_front f n)

-- one term alone
pub total_at : (f : ℕ → ℕ) (n e : ℕ) → e < n → total (λ i. cond (eqb e i) (f i) 0) n ≡ f e
total_at f zero e l = absurd (omega arith)
total_at f (suc n) e l =
    ⊎_elim (λ (q : e ≡ n).
    omega (
      arith,
      total_zero (λ (i : ℕ). cond (eqb e i) (f i) 0) n
          (λ i h. cond-false (eqb e i) (f i) 0 (ne_eqb e i (λ (r : e ≡ i). omega arith))),
      cond-true (eqb e n) (f n) 0 (eq-eqb e n q),
      ap f q,
    ))
    (λ (ne : e ≡ n → ⊥). omega (arith, total_at f n e (omega arith), cond-false (eqb e n) (f n) 0 (ne_eqb e n ne)))
    (cases_eq e n)

-- an amount where a test passes
pub cond_zero : (b : Bool) (x : ℕ) → x ≡ 0 → cond b x 0 ≡ 0
cond_zero b x e = grind arith

pub times_cond : (b : Bool) (a x : ℕ) → a * cond b x 0 ≡ cond b (a * x) 0
times_cond b a x = grind arith

-- amounts at places below m, summed by place
pub total_regroup : (w : ℕ → ℕ) (e g : ℕ → ℕ) (m n : ℕ) → ((i : ℕ) → i < n → (e i < m) ⊎ (g i ≡ 0))
    → total (λ i. w (e i) * g i) n ≡ total (λ j. w j * total (λ i. cond (eqb (e i) j) (g i) 0) n) m
total_regroup w e g m zero h = sym (total_zero (λ (j : ℕ). w j * 0) m (λ j l. mul-zero (w j)))
total_regroup w e g m (suc n) h =
    let one : total (λ j. w j * cond (eqb (e n) j) (g n) 0) m ≡ w (e n) * g n =
    total_same (λ (j : ℕ). w j * cond (eqb (e n) j) (g n) 0) (λ (j : ℕ). cond (eqb (e n) j) (w j * g n) 0) m
    (λ j k. times_cond (eqb (e n) j) (w j) (g n))
    ∙ ⊎_elim (λ (l : e n < m). total_at (λ (j : ℕ). w j * g n) m (e n) l)
    (λ (z : g n ≡ 0).
    total_zero (λ (j : ℕ). cond (eqb (e n) j) (w j * g n) 0) m
    (λ j k. cond_zero (eqb (e n) j) (w j * g n) (ap (λ x. w j * x) z ∙ mul-zero (w j)))
    ∙ sym (ap (λ x. w (e n) * x) z ∙ mul-zero (w (e n))))
    (h n (omega arith)) in
    let split : total (λ j. w j * (total (λ i. cond (eqb (e i) j) (g i) 0) n + cond (eqb (e n) j) (g n) 0)) m
    ≡ total (λ j. w j * total (λ i. cond (eqb (e i) j) (g i) 0) n + w j * cond (eqb (e n) j) (g n) 0) m =
    total_same (λ (j : ℕ). w j * (total (λ i. cond (eqb (e i) j) (g i) 0) n + cond (eqb (e n) j) (g n) 0))
    (λ (j : ℕ). w j * total (λ i. cond (eqb (e i) j) (g i) 0) n + w j * cond (eqb (e n) j) (g n) 0) m
    (λ j k. mul-add (w j) (total (λ i. cond (eqb (e i) j) (g i) 0) n) (cond (eqb (e n) j) (g n) 0)) in
    omega (
      arith,
      total_regroup w e g m n (λ i l. h i (omega arith)),
      total-add (λ (j : ℕ). w j * total (λ i. cond (eqb (e i) j) (g i) 0) n)
          (λ (j : ℕ). w j * cond (eqb (e n) j) (g n) 0) m,
    )

-- a sum over lists end to end
pub sum_gather : {A : Type 0} (F : A → ℕ) (f : ℕ → List A) (n : ℕ)
    → sum_by F (gather f n) ≡ total (λ i. sum_by F (f i)) n
sum_gather {A} F f zero = refl
sum_gather {A} F f (suc n) = omega (arith, sum_by-append F (gather f n) (f n), sum_gather F f n)

-- THE STAIRCASE: units on arcs of rising cost
-- units, at most one on an arc, are no more than the arcs, and cost no less than the same number on the first arcs
firsts-le : (f x : ℕ → ℕ) (s n : ℕ) → ((a b : ℕ) → a ≤ b → f a ≤ f b) → ((k : ℕ) → k < s → x k ≤ 1)
    → total x s ≡ n → (n ≤ s) × (total f n ≤ total (λ k. f k * x k) s)
firsts-le f x zero n rises h e = (omega arith, subst (λ z. total f z ≤ 0) e (omega arith))
firsts-le f x (suc s) n rises h e =
    ⊎_elim (λ (z : x s ≡ 0).
    let rest : (n ≤ s) × (total f n ≤ total (λ k. f k * x k) s) =
    firsts-le f x s n rises (λ k l. h k (omega arith)) (omega arith) in
    (omega (arith, rest.0), omega (arith, rest.1, ap (λ v. f s * v) z)))
    (λ (z : x s ≡ 1).
    let rest : (total x s ≤ s) × (total f (total x s) ≤ total (λ k. f k * x k) s) =
    firsts-le f x s (total x s) rises (λ k l. h k (omega arith)) refl in
    let q : n ≡ suc (total x s) = omega arith in (
      omega (arith, rest.0),
      subst (λ m. total f m ≤ total (λ k. f k * x k) s + f s * x s) (sym q)
          (omega (arith, rest.1, rises (total x s) s rest.0, ap (λ v. f s * v) z)),
    ))
    (let one : x s ≤ 1 = h s (omega arith) in
    ⊎_elim (λ (l : x s < 1). inl (omega arith)) (λ (l : 1 ≤ x s). inr (omega arith)) (cases_lt (x s) 1))

-- units on the first arcs
firsts : (f : ℕ → ℕ) (n s : ℕ) → n ≤ s → total (λ k. f k * cond (ltb k n) 1 0) s ≡ total f n
firsts f n zero l = let z : 0 ≡ n = omega arith in subst (λ m. 0 ≡ total f m) z refl
firsts f n (suc s) l =
    ⊎_elim (λ (h : s < n).
    let q : suc s ≡ n = omega arith in
    subst (λ m. total (λ k. f k * cond (ltb k m) 1 0) (suc s) ≡ total f m) q (full (suc s) (suc s) (omega arith)))
    (λ (h : n ≤ s).
    let z : cond (ltb s n) 1 0 ≡ 0 = cond-false {A = ℕ} (ltb s n) 1 0 (le-ltb s n h) in
    omega (arith, firsts f n s h, ap (λ z. f s * z) z, mul-zero (f s)))
    (cases_lt s n)
  where
    full : (n s : ℕ) → s ≤ n → total (λ k. f k * cond (ltb k n) 1 0) s ≡ total f s
    full n zero l = refl
    full n (suc s) l =
        let o : cond (ltb s n) 1 0 ≡ 1 = cond-true {A = ℕ} (ltb s n) 1 0 (lt-ltb s n (omega arith)) in
        omega (arith, full n s (omega arith), ap (λ z. f s * z) o)

-- tasks in slots, at most one in each, are no more than the slots, and cost no less than their load
pub staircase_least : LoadsAreSumsOfSlots → LaterSlotsCostNoLess → (spread : ℕ) (x : ℕ → ℕ) (s n : ℕ)
    → ((k : ℕ) → k < s → x k ≤ 1) → total x s ≡ n
    → (n ≤ s) × (load_cost spread n ≤ total (λ k. slot_cost spread k * x k) s)
staircase_least sums rises spread x s n h e =
    let least : (n ≤ s) × (total (slot_cost spread) n ≤ total (λ k. slot_cost spread k * x k) s) =
    firsts-le (slot_cost spread) x s n (rises spread) h e in
    (least.0, subst (λ m. m ≤ total (λ k. slot_cost spread k * x k) s) (sym (sums spread n)) least.1)

-- in the first slots they cost their load
pub staircase : LoadsAreSumsOfSlots → (spread n s : ℕ) → n ≤ s
    → total (λ k. slot_cost spread k * cond (ltb k n) 1 0) s ≡ load_cost spread n
staircase sums spread n s l = firsts (slot_cost spread) n s l ∙ sym (sums spread n)
