-- The cheapest machine but two.
use Rattle.std.proofs.Common.{◌≡◌, ℕ, zero, suc, ◌+◌, ◌<◌, ◌≤◌, min, Bool, true, false, not, cond, eqb, ◌&&◌}
use Rattle.std.proofs.Common.{List, [], ◌∷◌, ◌++◌}
use Rattle.std.proofs.Common.{length, Option, Some, None, is_some, true≢false, refl, sym, ap, subst, ◌∙◌, arith, ◌⊎◌}
use Rattle.std.proofs.Common.{inl, inr, ⊎_elim}
use Rattle.std.specs.Prelude.{slice_index, nat_lt, ◌==◌}
use Rattle.std.specs.List.{list_any}
use Rattle.std.specs.Option.{option_to_list}
use Rattle.std.proofs.lemmas.Bool.{cases_lt, cases_Bool, or_cases, eqb-true}
use Rattle.firm_rules.specs.declared.rounds.Choice.{Choice}
use Rattle.firm_rules.specs.declared.rounds.Choice.TheVariants.{On, Wait}
use Rattle.firm_rules.specs.Placement.{Demand, Case, IsPlace, leaves, runs_at, stays, prefers, is_remote}
use Rattle.firm_rules.specs.Placement.{task_cost}
use Rattle.firm_rents.specs.Rents.{paid, least_paid}
use Rattle.firm_rents.specs.Lowest.{IsNeither, IsLowest}
use Rattle.firm_rents.specs.inner.Lowest.{IsCheapestSoFar}
use Rattle.firm_rules.specs.ChoiceCost.{wide_cost, near}
use Rattle.firm_rents.proofs.Payments.{least_on-le, least_on-ge}

-- WIDE COSTS
cond-le : (b : Bool) (n : ℕ) → cond b n 0 ≤ n
cond-le true n = omega arith
cond-le false n = omega arith

churn-le : (home : Option ℕ) (j churn : ℕ) → cond (leaves home (On j)) churn 0 ≤ cond (is_some home) churn 0
churn-le None j churn = omega arith
churn-le (Some home) j churn = cond-le (not (eqb home j)) churn

churn_is : (home : Option ℕ) (j churn : ℕ) → runs_at home j ≡ false
    → cond (leaves home (On j)) churn 0 ≡ cond (is_some home) churn 0
churn_is None j churn e = refl
churn_is (Some home) j churn e = ap (λ b. cond (not b) churn 0) e

remote-le : (a b c : Bool) (remote : ℕ) → cond (a && b && c) remote 0 ≤ cond a remote 0
remote-le true b c remote = cond-le (b && c) remote
remote-le false b c remote = omega arith

-- no machine costs the task more than the wide cost
pub wide-le : (case : Case) (task : Demand) (j : ℕ) → task_cost case task (On j) ≤ wide_cost case task
wide-le case task j =
    omega (
      arith,
      churn-le task.home j case.churn,
      remote-le (nat_lt 0 (length task.preferred)) (not (prefers task j)) (not (runs_at task.home j)) case.remote,
    )

-- and one that is neither its own nor preferred costs it just that
pub wide_is : (case : Case) (task : Demand) (j : ℕ) → runs_at task.home j ≡ false → prefers task j ≡ false
    → task_cost case task (On j) ≡ wide_cost case task
wide_is case task j runs prefer =
    let remote : is_remote task j ≡ nat_lt 0 (length task.preferred) =
    ap (λ b. nat_lt 0 (length task.preferred) && not b && not (runs_at task.home j)) prefer
    ∙ (ap (λ b. nat_lt 0 (length task.preferred) && true && not b) runs
    ∙ and_true (nat_lt 0 (length task.preferred))) in
    omega (arith, churn_is task.home j case.churn runs, ap (λ b. cond b case.remote 0) remote)
  where
    and_true : (b : Bool) → (b && true && true) ≡ b
    and_true true = refl
    and_true false = refl

-- its own costs it nothing
pub own_is : (case : Case) (task : Demand) (j : ℕ) → runs_at task.home j ≡ true → task_cost case task (On j) ≡ 0
own_is case task j runs = omega (
  arith,
  left task.home runs,
  remote_none (nat_lt 0 (length task.preferred))
      (not (prefers task j)) (runs_at task.home j) runs,
)
  where
    left : (home : Option ℕ) → runs_at home j ≡ true → cond (leaves home (On j)) case.churn 0 ≡ 0
    left None e = refl
    left (Some home) e = ap (λ b. cond (not b) case.churn 0) e

    remote_none : (a b c : Bool) → c ≡ true → cond (a && b && not c) case.remote 0 ≡ 0
    remote_none true true true e = refl
    remote_none true false c e = refl
    remote_none false b c e = refl
    remote_none true true false e = absurd (true≢false (sym e))

-- none is preferred where nothing is
pub none_preferred : (xs : List ℕ) (j : ℕ) → length xs ≡ 0 → list_any (λ k. k == j) xs ≡ false
none_preferred [] j e = refl
none_preferred (x ∷ xs) j e = absurd (omega arith)

-- the only machine on which it stays is its own
pub stays_own : (home : Option ℕ) (choice : Choice) (j : ℕ) → stays home choice ≡ true → runs_at home j ≡ true
    → choice ≡ On j
stays_own None (On p) j e f = absurd (true≢false (sym e))
stays_own (Some home) (On p) j e f = ap On (sym (eqb-true home p e) ∙ eqb-true home j f)
stays_own None Wait j e f = absurd (true≢false (sym e))
stays_own (Some home) Wait j e f = absurd (true≢false (sym e))

-- a machine that is its own or preferred is among the near ones
any_at : (j : ℕ) (xs : List ℕ) → list_any (λ k. k == j) xs ≡ true → (i : ℕ) × (i < length xs) × (slice_index xs i ≡ j)
any_at j [] e = absurd (true≢false (sym e))
any_at j (x ∷ xs) e =
    ⊎_elim (λ (h : (x == j) ≡ true). (zero, omega arith, eqb-true x j h))
    (λ (h : list_any (λ k. k == j) xs ≡ true). let rest = any_at j xs h in (suc rest.0, omega (arith, rest.1), rest.2))
    (or_cases (x == j) (list_any (λ k. k == j) xs) e)

pub own_at : (home : Option ℕ) (preferred : List ℕ) (j : ℕ) → runs_at home j ≡ true
    → (i : ℕ) × (i < length (option_to_list home ++ preferred)) × (slice_index (option_to_list home ++ preferred) i ≡ j)
own_at None preferred j e = absurd (true≢false (sym e))
own_at (Some home) preferred j e = (zero, omega arith, eqb-true home j e)

preferred_at : (home : Option ℕ) (preferred : List ℕ) (j : ℕ) → list_any (λ k. k == j) preferred ≡ true
    → (i : ℕ) × (i < length (option_to_list home ++ preferred)) × (slice_index (option_to_list home ++ preferred) i ≡ j)
preferred_at None preferred j e = any_at j preferred e
preferred_at (Some home) preferred j e =
    let rest = any_at j preferred e in (suc rest.0, omega (arith, rest.1), rest.2)

-- a machine costs the task the wide cost, or it is among the near ones
pub wide_or_near : (case : Case) (task : Demand) (j : ℕ) → (task_cost case task (On j) ≡ wide_cost case task)
    ⊎ ((i : ℕ) × (i < length (near task)) × (slice_index (near task) i ≡ j))
wide_or_near case task j =
    ⊎_elim (λ (h : runs_at task.home j ≡ true). inr (own_at task.home task.preferred j h))
    (λ (h : runs_at task.home j ≡ false).
    ⊎_elim (λ (p : prefers task j ≡ true). inr (preferred_at task.home task.preferred j p))
    (λ (p : prefers task j ≡ false). inl (wide_is case task j h p))
    (cases_Bool (prefers task j)))
    (cases_Bool (runs_at task.home j))

-- a machine that is not its own costs the task the wide cost, or it is among those preferred
pub wide_or_preferred : (case : Case) (task : Demand) (j : ℕ) → runs_at task.home j ≡ false
    → (task_cost case task (On j) ≡ wide_cost case task)
    ⊎ ((i : ℕ) × (i < length task.preferred) × (slice_index task.preferred i ≡ j))
wide_or_preferred case task j away =
    ⊎_elim (λ (p : prefers task j ≡ true). inr (any_at j task.preferred p))
    (λ (p : prefers task j ≡ false). inl (wide_is case task j away p))
    (cases_Bool (prefers task j))

-- THE SEARCH FOR THE CHEAPEST
module _ (case : Case) (rents : List ℕ) (task : Demand) (a b : Choice) where
  pub so_far_none : (found : Choice) → IsLowest (slice_index rents) (length case.slots) a b found
      → IsCheapestSoFar case rents task a b 0 found
  so_far_none Wait h = h
  so_far_none (On k) h = (
    h.0,
    h.1,
    λ j l neither. (let low : slice_index rents k ≤ slice_index rents j = h.2 j l neither in
        omega (arith, low, wide-le case task k)),
    λ i l neither. absurd (omega arith),
  )

  pub so_far_found : (n : ℕ) (found : Choice) (p : ℕ) → IsCheapestSoFar case rents task a b n found
      → slice_index (near task) n ≡ p → p < length case.slots → IsNeither a b p
      → paid case rents task (On p) ≤ paid case rents task found
      → IsCheapestSoFar case rents task a b (n + 1) (On p)
  so_far_found n Wait p h e l neither less = absurd (h p l neither)
  so_far_found n (On k) p h e l neither less = (
    l,
    neither,
    λ j m other. (let before : paid case rents task (On k) ≤ wide_cost case task + slice_index rents j =
        h.2 j m other in omega (arith, before, less)),
    λ i m other. ⊎_elim (λ (below : i < n).
        let before : paid case rents task (On k) ≤ paid case rents task (On (slice_index (near task) i)) =
        h.3 i below other in omega (arith, before, less))
        (λ (above : n ≤ i).
        let q : n ≡ i = omega arith in
        subst (λ x. paid case rents task (On p) ≤ paid case rents task (On (slice_index (near task) x))) q
        (subst (λ x. paid case rents task (On p) ≤ paid case rents task (On x)) (sym e) (omega arith)))
        (cases_lt i n),
  )

  pub so_far_kept : (n : ℕ) (found : Choice) → IsCheapestSoFar case rents task a b n found
      → (IsNeither a b (slice_index (near task) n)
      → paid case rents task found ≤ paid case rents task (On (slice_index (near task) n)))
      → IsCheapestSoFar case rents task a b (n + 1) found
  so_far_kept n Wait h kept = h
  so_far_kept n (On k) h kept = (
    h.0,
    h.1,
    h.2,
    λ i m other. ⊎_elim (λ (below : i < n). h.3 i below other)
        (λ (above : n ≤ i).
        let q : n ≡ i = omega arith in
        subst (λ x. paid case rents task (On k) ≤ paid case rents task (On (slice_index (near task) x))) q
        (kept (subst (λ x. IsNeither a b (slice_index (near task) x)) (sym q) other)))
        (cases_lt i n),
  )

  pub so_far_all : (found : Choice) → IsCheapestSoFar case rents task a b (length (near task)) found
      → IsLowest (λ j. paid case rents task (On j)) (length case.slots) a b found
  so_far_all Wait h = h
  so_far_all (On k) h = (
    h.0,
    h.1,
    λ j l neither. ⊎_elim (λ (wide : task_cost case task (On j) ≡ wide_cost case task).
        let before : paid case rents task (On k) ≤ wide_cost case task + slice_index rents j = h.2 j l neither in
        omega (arith, before, wide))
        (λ (there : (i : ℕ) × (i < length (near task)) × (slice_index (near task) i ≡ j)).
        subst (λ x. paid case rents task (On k) ≤ paid case rents task (On x)) there.2
        (h.3 there.0 there.1 (subst (IsNeither a b) (sym there.2) neither)))
        (wide_or_near case task j),
  )

-- the least that a task pays is to wait or for the cheapest machine
pub least_is : (case : Case) (rents : List ℕ) (task : Demand) (found : Choice)
    → IsLowest (λ j. paid case rents task (On j)) (length case.slots) Wait Wait found
    → min (paid case rents task Wait) (paid case rents task found) ≡ least_paid case rents task
least_is case rents task Wait h =
    let least : paid case rents task Wait ≤ least_paid case rents task =
    least_on-ge case rents task (paid case rents task Wait) (length case.slots) (omega arith) each in
    omega (arith, least, least_on-le case rents task (length case.slots) Wait tt)
  where
    each : (other : Choice) → IsPlace (length case.slots) other → paid case rents task Wait ≤ paid case rents task other
    each Wait place = omega arith
    each (On j) place = absurd (h j place (record { first = refl; second = refl }))
least_is case rents task (On k) h =
    let least : min (paid case rents task Wait) (paid case rents task (On k)) ≤ least_paid case rents task =
    least_on-ge case rents task (min (paid case rents task Wait) (paid case rents task (On k))) (length case.slots)
    (omega arith) each in
    omega (
      arith,
      least,
      least_on-le case rents task (length case.slots) Wait tt,
      least_on-le case rents task (length case.slots) (On k) h.0,
    )
  where
    each : (other : Choice) → IsPlace (length case.slots) other
        → min (paid case rents task Wait) (paid case rents task (On k)) ≤ paid case rents task other
    each Wait place = omega arith
    each (On j) place =
        let less : paid case rents task (On k) ≤ paid case rents task (On j) =
        h.2 j place (record { first = refl; second = refl }) in
        omega (arith, less)
