-- The flow of one task on its arcs: one unit in all.
use Rattle.std.proofs.Common.{◌≡◌, ℕ, ◌+◌, ◌*◌, ◌<◌, ◌≤◌, ◌==◌, Bool, true, false, cond, eqb, ltb, List, ◌⊎◌, inl, inr}
use Rattle.std.proofs.Common.{length, get_or, arith, refl, sym, ap, subst, ◌∙◌, ⊎_elim, Option, Some, None}
use Rattle.std.specs.List.{list_any, position, position_or_len}
use Rattle.std.proofs.lemmas.Bool.{both_ways, cases_Bool, cases_lt, cond-true, cond-false, cond_both, eqb-true}
use Rattle.std.proofs.lemmas.Bool.{ltb-false}
use Rattle.std.proofs.lemmas.List.Folds.{list_any_at, list_any_none}
use Rattle.std.proofs.lemmas.List.Quantifiers.{position-Some}
use Rattle.std.proofs.lemmas.List.Sums.{fails_before_first, passes_at_first, position_or_len_is}
use Rattle.std.proofs.Math.Nat.{mul-zero}
use Rattle.firm_rules.specs.declared.rounds.Choice.{Choice}
use Rattle.firm_rules.specs.declared.rounds.Choice.TheVariants.{On, Wait}
use Rattle.firm_rules.specs.Placement.{Demand, total, runs_at, prefers}
use Rattle.firm_canon.specs.inner.Placed.{wide, stay, waits, near, number, prefer, spot}
use Rattle.firm_canon.proofs.Totals.{cond_zero, times_cond, total_zero, total_same, total_at}

-- the first of the preferences for a machine is one of them
pub number_in : (xs : List ℕ) (j : ℕ) → list_any (λ k. k == j) xs ≡ true
    → (position_or_len (λ k. k == j) xs < length xs) × (get_or xs (position_or_len (λ k. k == j) xs) 0 ≡ j)
number_in xs j e =
    let is_j : ℕ → Bool = λ k. k == j in
    let first : ℕ = position_or_len is_j xs in
    ⊎_elim (λ (l : first < length xs). (l, eqb-true (get_or xs first 0) j (passes_at_first is_j xs 0 l)))
    (λ (past : length xs ≤ first).
    absurd (both_ways (list_any is_j xs)
    (list_any_none is_j xs (λ k d l. fails_before_first is_j xs k d (omega (arith, l, past)))) e))
    (cases_lt first (length xs))

-- what a search for the machine among them finds
pub position_some : (xs : List ℕ) (j k : ℕ) → position (λ z. z == j) xs ≡ Some k
    → (list_any (λ z. z == j) xs ≡ true) × (k ≡ position_or_len (λ z. z == j) xs)
position_some xs j k e =
    let is_j : ℕ → Bool = λ z. z == j in
    let found = position-Some is_j xs k 0 e in (
      list_any_at is_j xs k 0 found.0 found.1,
      sym (position_or_len_is is_j xs k 0 (omega (arith, found.0)) found.2 (λ l. found.1)),
    )

position_none : (xs : List ℕ) (j : ℕ) → position (λ z. z == j) xs ≡ None → list_any (λ z. z == j) xs ≡ false
position_none xs j e =
    let is_j : ℕ → Bool = λ z. z == j in
    let n : ℕ = position_or_len is_j xs in
    let past : length xs ≤ n = cond_both (ltb n (length xs)) (Some n) None (λ (o : Option ℕ). o ≡ None → length xs ≤ n)
    (λ _ clash. absurd cc) (λ f _. ltb-false n (length xs) f) e in
    list_any_none is_j xs (λ k d l. fails_before_first is_j xs k d (omega (arith, l, past)))

-- whether it goes to its own machine, to a preferred one or to another
pub wide_is : (t : Demand) (j : ℕ) → runs_at t.home j ≡ false → prefers t j ≡ false → wide t (Some (On j)) ≡ 1
wide_is t j other far = cond-false {A = ℕ} (runs_at t.home j) 0 _ other ∙ cond-false {A = ℕ} (prefers t j) 0 1 far

pub near_is : (t : Demand) (j : ℕ) → runs_at t.home j ≡ false → prefers t j ≡ true → near t (Some (On j)) ≡ 1
near_is t j other close = cond-false {A = ℕ} (runs_at t.home j) 0 _ other ∙ cond-true {A = ℕ} (prefers t j) 1 0 close

pub own_wide : (t : Demand) (j : ℕ) → runs_at t.home j ≡ true → wide t (Some (On j)) ≡ 0
own_wide t j own = cond-true {A = ℕ} (runs_at t.home j) 0 _ own

pub own_near : (t : Demand) (j : ℕ) → runs_at t.home j ≡ true → near t (Some (On j)) ≡ 0
own_near t j own = cond-true {A = ℕ} (runs_at t.home j) 0 _ own

pub cond_le : (b : Bool) (x m : ℕ) → x ≤ m → cond b x 0 ≤ m
cond_le b x m h = grind arith

pub near_wide : (t : Demand) (j : ℕ) → prefers t j ≡ true → wide t (Some (On j)) ≡ 0
near_wide t j close =
    ap (λ (n : ℕ). cond (runs_at t.home j) 0 n) (cond-true {A = ℕ} (prefers t j) 0 1 close)
    ∙ cond_zero (runs_at t.home j) 0 refl

pub far_near : (t : Demand) (j : ℕ) → prefers t j ≡ false → near t (Some (On j)) ≡ 0
far_near t j far =
    ap (λ (n : ℕ). cond (runs_at t.home j) 0 n) (cond-false {A = ℕ} (prefers t j) 1 0 far)
    ∙ cond_zero (runs_at t.home j) 0 refl

pub own_stay : (home : Option ℕ) (j : ℕ) → runs_at home j ≡ true → stay home (Some (On j)) ≡ 1
own_stay None j e = absurd cc
own_stay (Some h) j e = cond-true {A = ℕ} (eqb h j) 1 0 e

pub other_stay : (home : Option ℕ) (j : ℕ) → runs_at home j ≡ false → stay home (Some (On j)) ≡ 0
other_stay None j e = refl
other_stay (Some h) j e = cond-false {A = ℕ} (eqb h j) 1 0 e

pub stay_none : (home : Option ℕ) → stay home None ≡ 0
stay_none None = refl
stay_none (Some h) = refl

pub wait_stay : (home : Option ℕ) → stay home (Some Wait) ≡ 0
wait_stay None = refl
wait_stay (Some h) = refl

pub stay_is : (home : Option ℕ) (j : ℕ) → stay home (Some (On j)) ≡ cond (runs_at home j) 1 0
stay_is None j = refl
stay_is (Some h) j = refl

all_ways : (b c : Bool) → cond b 0 (cond c 0 1) + cond b 1 0 + 0 + cond b 0 (cond c 1 0) ≡ 1
all_ways b c = grind arith

-- ONE UNIT
pub one_way : (t : Demand) (o : Choice)
    → wide t (Some o) + stay t.home (Some o) + waits (Some o) + near t (Some o) ≡ 1
one_way t Wait = omega (arith, wait_stay t.home)
one_way t (On j) = omega (arith, all_ways (runs_at t.home j) (prefers t j), stay_is t.home j)

-- a task that comes as it prefers uses a preference that is there, for that machine
pub prefers_there : (t : Demand) (o : Choice) → (near t (Some o) ≡ 0)
    ⊎ ((near t (Some o) ≡ 1) × (number t (Some o) < length t.preferred)
    × (get_or t.preferred (number t (Some o)) 0 ≡ spot (Some o)))
prefers_there t Wait = inl refl
prefers_there t (On j) =
    ⊎_elim
    (λ (own : runs_at t.home j ≡ true). inl (own_near t j own))
    (λ (other : runs_at t.home j ≡ false).
    ⊎_elim
    (λ (close : prefers t j ≡ true).
    let place = number_in t.preferred j close in
    inr (near_is t j other close, place.0, place.1))
    (λ (far : prefers t j ≡ false). inl (far_near t j far))
    (cases_Bool (prefers t j)))
    (cases_Bool (runs_at t.home j))

-- over its preferences, weighed by the machine to which each leads
pub prefer_weighed : (w : ℕ → ℕ) (t : Demand) (o : Choice)
    → total (λ k. w (get_or t.preferred k 0) * prefer t k (Some o)) (length t.preferred)
    ≡ w (spot (Some o)) * near t (Some o)
prefer_weighed w t o =
    let n : ℕ = length t.preferred in
    let e : ℕ = number t (Some o) in
    let one : ℕ = near t (Some o) in
    ⊎_elim
    (λ (z : one ≡ 0).
    total_zero (λ (k : ℕ). w (get_or t.preferred k 0) * prefer t k (Some o)) n
    (λ k l. ap (λ x. w (get_or t.preferred k 0) * x) (cond_zero (eqb e k) one z)
    ∙ mul-zero (w (get_or t.preferred k 0)))
    ∙ sym (ap (λ x. w (spot (Some o)) * x) z ∙ mul-zero (w (spot (Some o)))))
    (λ (there : (one ≡ 1) × (e < n) × (get_or t.preferred e 0 ≡ spot (Some o))).
    total_same (λ (k : ℕ). w (get_or t.preferred k 0) * prefer t k (Some o))
    (λ (k : ℕ). cond (eqb e k) (w (get_or t.preferred k 0) * one) 0) n
    (λ k l. times_cond (eqb e k) (w (get_or t.preferred k 0)) one)
    ∙ (total_at (λ (k : ℕ). w (get_or t.preferred k 0) * one) n e there.1
    ∙ ap (λ z. w z * one) there.2))
    (prefers_there t o)

pub prefer_all : (t : Demand) (o : Choice) → total (λ k. prefer t k (Some o)) (length t.preferred) ≡ near t (Some o)
prefer_all t o =
    omega (
      arith,
      prefer_weighed (λ (j : ℕ). 1) t o,
      total_same (λ (k : ℕ). 1 * prefer t k (Some o)) (λ (k : ℕ). prefer t k (Some o)) (length t.preferred)
          (λ k l. omega arith),
    )

near_le_one : (t : Demand) (o : Option Choice) → near t o ≤ 1
near_le_one t None = omega arith
near_le_one t (Some o) = omega (arith, one_way t o)

pub wide_le_one : (t : Demand) (o : Option Choice) → wide t o ≤ 1
wide_le_one t None = omega arith
wide_le_one t (Some o) = omega (arith, one_way t o)

pub prefer_le_one : (t : Demand) (k : ℕ) (o : Option Choice) → prefer t k o ≤ 1
prefer_le_one t k o =
    cond_le (eqb (number t o) k) (near t o) 1 (near_le_one t o)

pub prefer_none : (t : Demand) (k : ℕ) → prefer t k None ≡ 0
prefer_none t k = cond_zero (eqb 0 k) 0 refl

-- the same of the preferences of a task
pub preferred_found : (t : Demand) (places : List ℕ) (j k : ℕ) → places ≡ t.preferred
    → position (λ z. z == j) places ≡ Some k → (prefers t j ≡ true) × (k ≡ number t (Some (On j)))
preferred_found t places j k is at =
    position_some t.preferred j k (subst (λ (xs : List ℕ). position (λ z. z == j) xs ≡ Some k) is at)

pub preferred_missed : (t : Demand) (places : List ℕ) (j : ℕ) → places ≡ t.preferred
    → position (λ z. z == j) places ≡ None → prefers t j ≡ false
preferred_missed t places j is at =
    position_none t.preferred j (subst (λ (xs : List ℕ). position (λ z. z == j) xs ≡ None) is at)
