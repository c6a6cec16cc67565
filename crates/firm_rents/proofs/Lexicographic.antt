-- Numbers at levels, compared lexicographically.
use Rattle.std.proofs.Common.{◌≡◌, ℕ, zero, suc, ◌+◌, ◌<◌, ◌≤◌, arith, ap, sym, subst, ◌∙◌, ⊎_elim}
use Rattle.std.proofs.lemmas.Bool.{cases_lt}
use Rattle.firm_rules.specs.Placement.{total}
use Rattle.firm_rents.specs.Levels.{IsAtMost, amount}

-- the two sides of a sum agree where the sums do
abbrev Agree : (ℕ → ℕ) → (ℕ → ℕ) → (ℕ → ℕ) → (ℕ → ℕ) → ℕ → Type 0
Agree f g h k e = (f e ≡ g e) × (h e ≡ k e)

agree : (f g h k : ℕ → ℕ) → IsAtMost f g → IsAtMost h k → (l : ℕ) → ((e : ℕ) → e < l → f e + h e ≡ g e + k e)
    → (e : ℕ) → e < l → Agree f g h k e
agree f g h k a b zero same e less = absurd (omega arith)
agree f g h k a b (suc l) same e less =
    let before : (e : ℕ) → e < l → Agree f g h k e = agree f g h k a b l (λ e s. same e (omega arith)) in
    let one : f l ≤ g l = a l (λ e s. (before e s).0) in
    let two : h l ≤ k l = b l (λ e s. (before e s).1) in
    let sums : f l + h l ≡ g l + k l = same l (omega arith) in
    ⊎_elim (λ (s : e < l). before e s)
    (λ (s : l ≤ e).
    let q : l ≡ e = omega arith in
    subst (Agree f g h k) q (omega (arith, one, two, sums), omega (arith, one, two, sums)))
    (cases_lt e l)

pub at_most-add : (f g h k : ℕ → ℕ) → IsAtMost f g → IsAtMost h k → IsAtMost (λ l. f l + h l) (λ l. g l + k l)
at_most-add f g h k a b l same =
    let before : (e : ℕ) → e < l → Agree f g h k e = agree f g h k a b l same in
    let one : f l ≤ g l = a l (λ e s. (before e s).0) in
    let two : h l ≤ k l = b l (λ e s. (before e s).1) in
    omega (arith, one, two)

-- both sides with the same added
pub at_most-cancel : (f g common f' g' : ℕ → ℕ) → IsAtMost f' g' → ((l : ℕ) → f' l ≡ f l + common l)
    → ((l : ℕ) → g' l ≡ g l + common l) → IsAtMost f g
at_most-cancel f g common f' g' a p q l same =
    let sums : f' l ≤ g' l =
    a l (λ e s. p e ∙ ap (λ n. n + common e) (same e s) ∙ sym (q e)) in
    omega (arith, sums, p l, q l)

pub at_most-same : (f g f' g' : ℕ → ℕ) → IsAtMost f' g' → ((l : ℕ) → f' l ≡ f l) → ((l : ℕ) → g' l ≡ g l) → IsAtMost f g
at_most-same f g f' g' a p q l same =
    let these : f' l ≤ g' l = a l (λ e s. p e ∙ same e s ∙ sym (q e)) in
    omega (arith, these, p l, q l)

pub at_most-trans : (f g h : ℕ → ℕ) → IsAtMost f g → IsAtMost g h → IsAtMost f h
at_most-trans f g h a b =
    at_most-cancel f h g (λ l. f l + g l) (λ l. g l + h l) (at_most-add f g g h a b) (λ l. omega arith)
    (λ l. omega arith)

pub at_most-total : (f g : ℕ → ℕ → ℕ) (n : ℕ) → ((j : ℕ) → j < n → IsAtMost (f j) (g j))
    → IsAtMost (λ l. total (λ j. f j l) n) (λ l. total (λ j. g j l) n)
at_most-total f g zero h = λ l same. omega arith
at_most-total f g (suc n) h =
    at_most-add (λ (l : ℕ). total (λ j. f j l) n) (λ (l : ℕ). total (λ j. g j l) n) (f n) (g n)
    (at_most-total f g n (λ j l. h j (omega arith))) (h n (omega arith))

-- AMOUNTS WITH NOTHING BEHIND THEM
pub amount-add : (a b l : ℕ) → amount (a + b) l ≡ amount a l + amount b l
amount-add a b zero = omega arith
amount-add a b (suc t) = omega arith

pub amount-le : (a b : ℕ) → a ≤ b → IsAtMost (amount a) (amount b)
amount-le a b h zero same = h
amount-le a b h (suc t) same = omega arith

pub total_amount : (f : ℕ → ℕ) (n l : ℕ) → total (λ j. amount (f j) l) n ≡ amount (total f n) l
total_amount f zero zero = omega arith
total_amount f zero (suc t) = omega arith
total_amount f (suc n) zero = omega (arith, total_amount f n zero)
total_amount f (suc n) (suc t) = omega (arith, total_amount f n (suc t))
