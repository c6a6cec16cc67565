-- Rents in levels as a proof that a placement is the round's.
use Rattle.std.proofs.Common.{◌≡◌, ℕ, zero, suc, ◌+◌, ◌-◌, ◌*◌, ◌<◌, ◌≤◌, ◌||◌, ◌&&◌, Bool, true, false, cond, eqb}
use Rattle.std.proofs.Common.{List, [], ◌∷◌, length, arith, refl, sym, ap, subst, ◌∙◌, ◌⊎◌, ⊎_elim}
use Rattle.std.specs.Prelude.{slice_index, nat_lt, ◌==◌, Option}
use Rattle.std.proofs.lemmas.Bool.{cases_lt, cases_eq, cond-true, cond-false, eq-eqb, ne_eqb, eqb-true, ltb-true}
use Rattle.std.proofs.lemmas.Bool.{or_cases}
use Rattle.std.proofs.Math.Nat.{add-mul}
use Rattle.firm_rules.specs.declared.rounds.Choice.{Choice}
use Rattle.firm_rules.specs.declared.rounds.Choice.TheVariants.{On, Wait}
use Rattle.firm_rules.specs.Placement.{Demand, Case, total, load, IsPlace, IsLegal, task_cost, tasks_cost, load_cost}
use Rattle.firm_rules.specs.Placement.{placement_cost, rank, runs_at, comes_before, slot_cost}
use Rattle.firm_rules.specs.SlotCosts.{LoadsAreSumsOfSlots, LaterSlotsCostNoLess}
use Rattle.firm_rules.specs.Placement.{task_at, choice_at}
use Rattle.firm_rents.specs.Levels.{IsAtMost, time, amount, cost_by_level, paid_by_level, SuitByLevel}
use Rattle.firm_rents.specs.Levels.{RentsShowFirst}
use Rattle.firm_rents.proofs.Payments.{total_same, total-ge, total-add, sum_over, on_machine, by_machine}
use Rattle.firm_rents.proofs.Payments.{demand_in, load_step}
use Rattle.firm_rents.proofs.Lexicographic.{at_most-add, at_most-cancel, at_most-same, at_most-trans, at_most-total}
use Rattle.firm_rents.proofs.Lexicographic.{amount-add, amount-le, total_amount}

-- SUMS BY THE NUMBERS OF TASKS
total_first : (f : ℕ → ℕ) (n : ℕ) → total f (suc n) ≡ f 0 + total (λ i. f (suc i)) n
total_first f zero = omega arith
total_first f (suc n) = omega (arith, total_first f n)

costs_by_number : (case : Case) (tasks : List Demand) (placement : List Choice) → length placement ≡ length tasks
    → tasks_cost case tasks placement
    ≡ total (λ i. task_cost case (demand_in tasks i) (choice_at placement i)) (length tasks)
costs_by_number case [] placement e = refl
costs_by_number case (task ∷ tasks) [] e = absurd (omega arith)
costs_by_number case (task ∷ tasks) (choice ∷ placement) e =
    let n : ℕ = length tasks in
    let first : total (λ i. task_cost case (demand_in (task ∷ tasks) i) (choice_at (choice ∷ placement) i)) (suc n)
    ≡ task_cost case task choice + total (λ i. task_cost case (demand_in tasks i) (choice_at placement i)) n =
    total_first (λ (i : ℕ). task_cost case (demand_in (task ∷ tasks) i) (choice_at (choice ∷ placement) i)) n in
    omega (arith, first, costs_by_number case tasks placement (omega arith))

values_by_number : (v : Choice → ℕ) (placement : List Choice)
    → total (λ i. v (choice_at placement i)) (length placement) ≡ sum_over v placement
values_by_number v [] = refl
values_by_number v (choice ∷ placement) =
    let first : total (λ i. v (choice_at (choice ∷ placement) i)) (suc (length placement))
    ≡ v choice + total (λ i. v (choice_at placement i)) (length placement) =
    total_first (λ (i : ℕ). v (choice_at (choice ∷ placement) i)) (length placement) in
    omega (arith, first, values_by_number v placement)

-- the rents of the choices, and those of the loads: beyond the rent of waiting they are the same
beyond_waiting : (v : Choice → ℕ) (placement : List Choice)
    → sum_over v placement + sum_over (on_machine (λ j. v Wait)) placement
    ≡ sum_over (on_machine (λ j. v (On j))) placement + length placement * v Wait
beyond_waiting v [] = omega arith
beyond_waiting v (On j ∷ placement) = omega (arith, beyond_waiting v placement)
beyond_waiting v (Wait ∷ placement) = omega (arith, beyond_waiting v placement)

-- A MACHINE'S LOAD BRINGS NO LESS THAN ANY OTHER
-- k tasks in place of n on a machine of this rent, those that differ waiting
abbrev before : ℕ → (ℕ → ℕ) → (ℕ → ℕ) → ℕ → ℕ → ℕ → ℕ
before spread r w n k l = k * r l + n * w l + amount (load_cost spread n) l

abbrev NoCheaper : ℕ → (ℕ → ℕ) → (ℕ → ℕ) → ℕ → ℕ → Type 0
NoCheaper spread r w n k = IsAtMost (before spread r w n k) (before spread r w k n)

-- what one more task costs as a load behind k others, if it waits elsewise
abbrev slot : ℕ → (ℕ → ℕ) → ℕ → ℕ → ℕ
slot spread w k l = amount (slot_cost spread k) l + w l

amount_step : LoadsAreSumsOfSlots → (spread k l : ℕ)
    → amount (load_cost spread (suc k)) l ≡ amount (load_cost spread k) l + amount (slot_cost spread k) l
amount_step sums spread k l =
    ap (λ n. amount n l) (load_step sums spread k) ∙ amount-add (load_cost spread k) (slot_cost spread k) l

grows : (a b spread : ℕ) → a ≤ b → a * spread ≤ b * spread
grows a b spread l =
    let e : a + (b - a) ≡ b = omega arith in
    subst (λ z. a * spread ≤ z * spread) e (omega (arith, add-mul a (b - a) spread))

module _ (sums : LoadsAreSumsOfSlots) (rises : LaterSlotsCostNoLess) where
  slot-le : (spread : ℕ) (w : ℕ → ℕ) (a b : ℕ) → a ≤ b → IsAtMost (slot spread w a) (slot spread w b)
  slot-le spread w a b h =
      at_most-add (amount (slot_cost spread a)) (amount (slot_cost spread b)) w w
      (amount-le (slot_cost spread a) (slot_cost spread b) (rises spread a b h)) (λ l same. omega arith)

  more_tasks : (spread : ℕ) (r w : ℕ → ℕ) (n more k : ℕ) → n + more ≡ k → IsAtMost r (slot spread w n)
      → NoCheaper spread r w n k
  more_tasks spread r w n zero k e free =
      let q : n ≡ k = omega arith in
      subst (NoCheaper spread r w n) q (λ l same. omega arith)
  more_tasks spread r w n (suc more) zero e free = absurd (omega arith)
  more_tasks spread r w n (suc more) (suc k) e free =
      let fewer : NoCheaper spread r w n k = more_tasks spread r w n more k (omega arith) free in
      let last : IsAtMost r (slot spread w k) =
      at_most-trans r (slot spread w n) (slot spread w k) free (slot-le spread w n k (omega arith)) in
      at_most-same (before spread r w n (suc k)) (before spread r w (suc k) n)
      (λ l. before spread r w n k l + r l) (λ l. before spread r w k n l + slot spread w k l)
      (at_most-add (before spread r w n k) (before spread r w k n) r (slot spread w k) fewer last)
      (λ l. omega arith) (λ l. omega (arith, amount_step sums spread k l))

  fewer_tasks : (spread : ℕ) (r w : ℕ → ℕ) (n less k : ℕ) → k + less ≡ n
      → (0 < n → IsAtMost (slot spread w (n - 1)) r) → NoCheaper spread r w n k
  fewer_tasks spread r w n zero k e worth =
      let q : n ≡ k = omega arith in
      subst (NoCheaper spread r w n) q (λ l same. omega arith)
  fewer_tasks spread r w n (suc less) k e worth =
      let more : NoCheaper spread r w n (suc k) = fewer_tasks spread r w n less (suc k) (omega arith) worth in
      let last : IsAtMost (slot spread w k) r =
      at_most-trans (slot spread w k) (slot spread w (n - 1)) r (slot-le spread w k (n - 1) (omega arith))
      (worth (omega arith)) in
      at_most-cancel (before spread r w n k) (before spread r w k n) (λ l. r l + slot spread w k l)
      (λ l. before spread r w n (suc k) l + slot spread w k l) (λ l. before spread r w (suc k) n l + r l)
      (at_most-add (before spread r w n (suc k)) (before spread r w (suc k) n) (slot spread w k) r more last)
      (λ l. omega arith) (λ l. omega (arith, amount_step sums spread k l))

  no_cheaper : (spread : ℕ) (r w : ℕ → ℕ) (n k slots : ℕ) → k ≤ slots
      → (0 < n → IsAtMost (slot spread w (n - 1)) r) → (n < slots → IsAtMost r (slot spread w n))
      → NoCheaper spread r w n k
  no_cheaper spread r w n k slots l worth free =
      ⊎_elim (λ (h : n < k). more_tasks spread r w n (k - n) k (omega arith) (free (omega arith)))
      (λ (h : k ≤ n). fewer_tasks spread r w n (n - k) k (omega arith) worth)
      (cases_lt n k)

-- A PLACEMENT THAT RENTS SUIT IS AT MOST ANY OTHER, LEVEL BY LEVEL
-- what a placement costs, level by level
abbrev own : Case → List Choice → ℕ → ℕ
own case placement l = total (λ i. cost_by_level case i (choice_at placement i) l) (length case.tasks)

abbrev loads : Case → List Choice → ℕ
loads case placement = total (λ j. load_cost case.spread (load placement j)) (length case.slots)

abbrev whole : Case → List Choice → ℕ → ℕ
whole case placement l = own case placement l + amount (loads case placement) l

-- the rents that a placement's loads bring, and those of its tasks if they waited
abbrev brought : Case → (Choice → ℕ → ℕ) → List Choice → ℕ → ℕ
brought case rents placement l = total (λ j. load placement j * rents (On j) l) (length case.slots)

abbrev waited : Case → (Choice → ℕ → ℕ) → List Choice → ℕ → ℕ
waited case rents placement l = total (λ j. load placement j * rents Wait l) (length case.slots)

abbrev paid : Case → (Choice → ℕ → ℕ) → List Choice → ℕ → ℕ
paid case rents placement l = total (λ i. paid_by_level case rents i (choice_at placement i) l) (length case.tasks)

paid_is : (case : Case) (rents : Choice → ℕ → ℕ) (placement : List Choice) → IsLegal case placement → (l : ℕ)
    → paid case rents placement l + waited case rents placement l
    ≡ own case placement l + (brought case rents placement l + length case.tasks * rents Wait l)
paid_is case rents placement legal l =
    let m : ℕ = length case.slots in
    let n : ℕ = length case.tasks in
    let v : Choice → ℕ = λ c. rents c l in
    let each : total (λ i. v (choice_at placement i)) n ≡ sum_over v placement =
    subst (λ n. total (λ i. v (choice_at placement i)) n ≡ sum_over v placement) legal.one_each
    (values_by_number v placement) in
    let count : length placement * rents Wait l ≡ n * rents Wait l = ap (λ n. n * rents Wait l) legal.one_each in
    omega (
      arith,
      each,
      count,
      total-add (λ (i : ℕ). cost_by_level case i (choice_at placement i) l) (λ (i : ℕ). v (choice_at placement i)) n,
      beyond_waiting v placement,
      by_machine m (λ j. v Wait) placement legal.places,
      by_machine m (λ j. v (On j)) placement legal.places,
    )

-- what two placements' loads bring and cost, one in place of the other
abbrev exchanged : Case → (Choice → ℕ → ℕ) → List Choice → List Choice → ℕ → ℕ
exchanged case rents p q l =
    total (λ j. before case.spread (rents (On j)) (rents Wait) (load p j) (load q j) l) (length case.slots)

exchanged_is : (case : Case) (rents : Choice → ℕ → ℕ) (p q : List Choice) (l : ℕ)
    → exchanged case rents p q l
    ≡ brought case rents q l + waited case rents p l + amount (loads case p) l
exchanged_is case rents p q l =
    let m : ℕ = length case.slots in
    omega (
      arith,
      total-add (λ (j : ℕ). load q j * rents (On j) l + load p j * rents Wait l)
          (λ (j : ℕ). amount (load_cost case.spread (load p j)) l) m,
      total-add (λ (j : ℕ). load q j * rents (On j) l) (λ (j : ℕ). load p j * rents Wait l) m,
      total_amount (λ j. load_cost case.spread (load p j)) m l,
    )

at_most : LoadsAreSumsOfSlots → LaterSlotsCostNoLess → (case : Case) (rents : Choice → ℕ → ℕ) (p q : List Choice)
    → IsLegal case p → SuitByLevel case rents p → IsLegal case q → IsAtMost (whole case p) (whole case q)
at_most sums rises case rents p q legal suit allowed =
    let n : ℕ = length case.tasks in
    let tasks : IsAtMost (paid case rents p) (paid case rents q) =
    at_most-total (λ i. paid_by_level case rents i (choice_at p i)) (λ i. paid_by_level case rents i (choice_at q i)) n
    (λ i l. suit.cheapest i l (choice_at q i) (allowed.places i Wait (omega (arith, l, allowed.one_each)))) in
    let machines : IsAtMost (exchanged case rents p q) (exchanged case rents q p) =
    at_most-total (λ j. before case.spread (rents (On j)) (rents Wait) (load p j) (load q j))
    (λ j. before case.spread (rents (On j)) (rents Wait) (load q j) (load p j)) (length case.slots)
    (λ j l. no_cheaper sums rises case.spread (rents (On j)) (rents Wait) (load p j) (load q j)
    (slice_index case.slots j) (allowed.room j l) (suit.worth j l) (suit.free j l)) in
    at_most-cancel (whole case p) (whole case q)
    (λ l. brought case rents p l + brought case rents q l + n * rents Wait l)
    (λ l. paid case rents p l + exchanged case rents p q l) (λ l. paid case rents q l + exchanged case rents q p l)
    (at_most-add (paid case rents p) (paid case rents q) (exchanged case rents p q) (exchanged case rents q p) tasks
    machines)
    (λ l. omega (arith, paid_is case rents p legal l, exchanged_is case rents p q l))
    (λ l. omega (arith, paid_is case rents q allowed l, exchanged_is case rents q p l))

-- OF TWO THAT COST THE SAME, THE ONE THAT COMES BEFORE IS CHEAPER AT THE TIME OF ITS CHOICE
-- the first task on which two placements differ, where the first of them has the choice that ranks first
record Sooner (machines : ℕ) (tasks : List Demand) (q p : List Choice) : Type 0 where
  number : ℕ
  within : number < length tasks
  less : rank machines (demand_in tasks number).home (choice_at q number)
      < rank machines (demand_in tasks number).home (choice_at p number)
  same : (k : ℕ) → k < number → rank machines (demand_in tasks k).home (choice_at q k)
      ≡ rank machines (demand_in tasks k).home (choice_at p k)

either : (a b : ℕ) (rest : Bool) → (nat_lt a b || ((a == b) && rest)) ≡ true → (a < b) ⊎ ((a ≡ b) × (rest ≡ true))
either a b rest h = ⊎_elim (λ (l : nat_lt a b ≡ true). grind (arith, ltb-true))
    (λ (r : ((a == b) && rest) ≡ true). grind (arith, eqb-true))
    (or_cases (nat_lt a b) ((a == b) && rest) h)

sooner : (machines : ℕ) (tasks : List Demand) (q p : List Choice) → comes_before machines tasks q p ≡ true
    → Sooner machines tasks q p
sooner machines [] q p h = absurd (grind arith)
sooner machines (task ∷ tasks) [] p h = absurd (grind arith)
sooner machines (task ∷ tasks) (a ∷ q) [] h = absurd (grind arith)
sooner machines (task ∷ tasks) (a ∷ q) (b ∷ p) h =
    ⊎_elim (λ (less : rank machines task.home a < rank machines task.home b).
    record { number = 0; within = omega arith; less = less; same = λ k l. absurd (omega arith) })
    (λ (rest : (rank machines task.home a ≡ rank machines task.home b) × (comes_before machines tasks q p ≡ true)).
    let more : Sooner machines tasks q p = sooner machines tasks q p rest.1 in
    record {
      number = suc more.number;
      within = let l : more.number < length tasks = more.within in omega (arith, l);
      less = more.less;
      same = next rest.0 more.same;
    })
    (either (rank machines task.home a) (rank machines task.home b) (comes_before machines tasks q p) h)
  where
    next : rank machines task.home a ≡ rank machines task.home b → {n : ℕ}
        → ((k : ℕ) → k < n → rank machines (demand_in tasks k).home (choice_at q k)
        ≡ rank machines (demand_in tasks k).home (choice_at p k))
        → (k : ℕ) → k < suc n → rank machines (demand_in (task ∷ tasks) k).home (choice_at (a ∷ q) k)
        ≡ rank machines (demand_in (task ∷ tasks) k).home (choice_at (b ∷ p) k)
    next e same zero l = e
    next e same (suc k) l = same k (omega arith)

-- a choice's rank is below the number of ranks, and so no time of a task comes after one of a later task
rank_below : (m : ℕ) (home : Option ℕ) (choice : Choice) → IsPlace m choice → rank m home choice < m + 2
rank_below m home Wait h = omega arith
rank_below m home (On j) h = sides (runs_at home j)
  where
    sides : (b : Bool) → cond b 0 (suc j) < m + 2
    sides true = omega arith
    sides false = omega arith

earlier : (w k i r s : ℕ) → k < i → r < w → k * w + r < i * w + s
earlier w k i r s l below = let h : suc k * w ≤ i * w = grows (suc k) i w l in omega (arith, h, below)

-- what a choice of this time costs at a time
abbrev mark : ℕ → ℕ → ℕ
mark t time = cond (eqb t time) 0 1

mark_own : (t u : ℕ) → t ≡ u → mark t u ≡ 0
mark_own t u e = cond-true (eqb t u) 0 1 (eq-eqb t u e)

mark_other : (t u : ℕ) → (t ≡ u → ⊥) → mark t u ≡ 1
mark_other t u ne = cond-false (eqb t u) 0 1 (ne_eqb t u ne)

mark_most : (t u : ℕ) → mark t u ≤ 1
mark_most t u = sides (eqb t u)
  where
    sides : (b : Bool) → cond b 0 1 ≤ 1
    sides true = omega arith
    sides false = omega arith

whole_cost : (case : Case) (placement : List Choice) → IsLegal case placement
    → whole case placement 0 ≡ placement_cost case placement
whole_cost case placement legal = omega (arith, costs_by_number case case.tasks placement legal.one_each)

no_sooner : (case : Case) (p q : List Choice) → IsLegal case p → IsLegal case q
    → IsAtMost (whole case p) (whole case q) → placement_cost case q ≡ placement_cost case p
    → Sooner (length case.slots) case.tasks q p → ⊥
no_sooner case p q legal allowed most costs s =
    let n : ℕ = length case.tasks in
    let t : ℕ = time case s.number (choice_at q s.number) in
    let all : whole case p (suc t) ≤ whole case q (suc t) = most (suc t) below in
    let least : mark t (time case s.number (choice_at p s.number)) ≤ mark t t =
    total-ge (λ (k : ℕ). mark t (time case k (choice_at q k))) (λ (k : ℕ). mark t (time case k (choice_at p k))) n
    (λ k l. omega (
      arith,
      mark_most t (time case k (choice_at q k)),
      mark_other t (time case k (choice_at p k)) (never k l),
    ))
    (omega (arith, all)) s.number s.within in
    omega (
      arith,
      least,
      mark_own t t refl,
      mark_other t (time case s.number (choice_at p s.number)) (never s.number s.within),
    )
  where
    t : ℕ
    t = time case s.number (choice_at q s.number)

    low : (placement : List Choice) → IsLegal case placement → (k : ℕ) → k < length case.tasks
        → rank (length case.slots) (task_at case k).home (choice_at placement k) < length case.slots + 2
    low placement fits k l =
        rank_below (length case.slots) (task_at case k).home (choice_at placement k)
        (fits.places k Wait (omega (arith, l, fits.one_each)))

    late : (k : ℕ) → s.number ≤ k → (t ≤ time case k (choice_at p k)) × (t ≤ time case k (choice_at q k))
    late k h =
        let less : rank (length case.slots) (task_at case s.number).home (choice_at q s.number)
        < rank (length case.slots) (task_at case s.number).home (choice_at p s.number) = s.less in
        let after : (r : ℕ) → s.number < k → t < k * (length case.slots + 2) + r =
        λ r l. earlier (length case.slots + 2) s.number k
        (rank (length case.slots) (task_at case s.number).home (choice_at q s.number)) r l
        (low q allowed s.number s.within) in
        ⊎_elim (λ (e : s.number ≡ k).
        subst (λ k. (t ≤ time case k (choice_at p k)) × (t ≤ time case k (choice_at q k))) e
        (omega (arith, less), omega arith))
        (λ (ne : s.number ≡ k → ⊥).
        let l : s.number < k = omega arith in (
          omega (arith, after (rank (length case.slots) (task_at case k).home (choice_at p k)) l),
          omega (arith, after (rank (length case.slots) (task_at case k).home (choice_at q k)) l),
        ))
        (cases_eq s.number k)

    never : (k : ℕ) → k < length case.tasks → t ≡ time case k (choice_at p k) → ⊥
    never k l e =
        let less : rank (length case.slots) (task_at case s.number).home (choice_at q s.number)
        < rank (length case.slots) (task_at case s.number).home (choice_at p s.number) = s.less in
        ⊎_elim (λ (h : k < s.number).
        omega (
          arith,
          e,
          earlier (length case.slots + 2) k s.number
              (rank (length case.slots) (task_at case k).home (choice_at p k))
              (rank (length case.slots) (task_at case s.number).home (choice_at q s.number)) h (low p legal k l),
        ))
        (λ (h : s.number ≤ k).
        ⊎_elim (λ (same : s.number ≡ k).
        let here : t ≡ time case s.number (choice_at p s.number) =
        subst (λ k. t ≡ time case k (choice_at p k)) (sym same) e in
        omega (arith, here, less))
        (λ (ne : s.number ≡ k → ⊥).
        omega (
          arith,
          e,
          earlier (length case.slots + 2) s.number k
              (rank (length case.slots) (task_at case s.number).home (choice_at q s.number))
              (rank (length case.slots) (task_at case k).home (choice_at p k)) (omega arith)
              (low q allowed s.number s.within),
        ))
        (cases_eq s.number k))
        (cases_lt k s.number)

    alike : (u : ℕ) → u < t → (k : ℕ) → mark u (time case k (choice_at p k)) ≡ mark u (time case k (choice_at q k))
    alike u l k =
        ⊎_elim (λ (h : k < s.number).
        ap (λ r. mark u (k * (length case.slots + 2) + r)) (sym (s.same k h)))
        (λ (h : s.number ≤ k).
        let past : (t ≤ time case k (choice_at p k)) × (t ≤ time case k (choice_at q k)) = late k h in
        let one : t ≤ time case k (choice_at p k) = past.0 in
        let two : t ≤ time case k (choice_at q k) = past.1 in
        mark_other u (time case k (choice_at p k)) (λ e. omega (arith, e, one, l))
        ∙ sym (mark_other u (time case k (choice_at q k)) (λ e. omega (arith, e, two, l))))
        (cases_lt k s.number)

    below : (e : ℕ) → e < suc t → whole case p e ≡ whole case q e
    below zero l = omega (arith, whole_cost case p legal, whole_cost case q allowed, costs)
    below (suc u) l =
        omega (
          arith,
          total_same (λ (k : ℕ). mark u (time case k (choice_at p k))) (λ (k : ℕ). mark u (time case k (choice_at q k)))
              (length case.tasks) (λ k here. alike u (omega arith) k),
        )

pub shown_first : LoadsAreSumsOfSlots → LaterSlotsCostNoLess → RentsShowFirst
shown_first sums rises case rents placement legal suit =
    record {
      legal = legal;
      least = λ other allowed. omega (
        arith,
        whole_cost case placement legal,
        whole_cost case other allowed,
        at_most sums rises case rents placement other legal suit allowed 0 (λ k l. absurd (omega arith)),
      );
      first = λ other allowed costs. told other allowed costs
          (comes_before (length case.slots) case.tasks other placement) refl;
    }
  where
    told : (other : List Choice) → IsLegal case other → placement_cost case other ≡ placement_cost case placement
        → (b : Bool) → comes_before (length case.slots) case.tasks other placement ≡ b
        → comes_before (length case.slots) case.tasks other placement ≡ false
    told other allowed costs false e = e
    told other allowed costs true e =
        let most : IsAtMost (whole case placement) (whole case other) =
        at_most sums rises case rents placement other legal suit allowed in
        absurd (no_sooner case placement other legal allowed most costs
        (sooner (length case.slots) case.tasks other placement e))
