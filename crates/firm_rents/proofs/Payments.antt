-- Bounds by rents on the cost of placements.
use Rattle.std.proofs.Common.{◌≡◌, ℕ, zero, suc, ◌+◌, ◌-◌, ◌*◌, ◌<◌, ◌≤◌, Bool, true, false, cond, eqb, List}
use Rattle.std.proofs.Common.{[], ◌∷◌, length, arith, refl, sym, ap, subst, ◌∙◌, ⊎_elim}
use Rattle.std.specs.Prelude.{slice_index, slice_index_or, None}
use Rattle.std.specs.List.{All}
use Rattle.std.proofs.lemmas.List.Sums.{sum_by-cons}
use Rattle.std.proofs.lemmas.List.Elements.{All-head, All-tail}
use Rattle.std.proofs.lemmas.Bool.{cases_lt, cases_eq, cond-true, cond-false, eq-eqb, ne_eqb}
use Rattle.std.proofs.Math.Nat.{zero-mul, add-mul}
use Rattle.firm_rules.specs.declared.rounds.Choice.{Choice}
use Rattle.firm_rules.specs.declared.rounds.Choice.TheVariants.{On, Wait}
use Rattle.firm_rules.specs.Placement.{Demand, Case, total, goes_to, load, IsPlace, IsLegal, tasks_cost}
use Rattle.firm_rules.specs.Placement.{slot_cost, load_cost, placement_cost}
use Rattle.firm_rules.specs.SlotCosts.{LoadsAreSumsOfSlots, LaterSlotsCostNoLess}
use Rattle.firm_rents.specs.Rents.{paid, least_on, least_paid, all_least, takings, gain, gains, RentsBound}
use Rattle.firm_rents.specs.Rents.{RentsShowLeast, EachChoiceCostsItsExcess, Show, Suit, RentsThatShowSuit}
use Rattle.firm_rents.specs.Rents.{CostsMore}
use Rattle.firm_rules.specs.Placement.{task_at, choice_at}

pub total_zero : (f : ℕ → ℕ) (n : ℕ) → ((i : ℕ) → i < n → f i ≡ 0) → total f n ≡ 0
total_zero f zero h = refl
total_zero f (suc n) h = omega (arith, total_zero f n (λ i l. h i (omega arith)), h n (omega arith))

pub total_same : (f g : ℕ → ℕ) (n : ℕ) → ((i : ℕ) → i < n → f i ≡ g i) → total f n ≡ total g n
total_same f g zero h = refl
total_same f g (suc n) h = omega (arith, total_same f g n (λ i l. h i (omega arith)), h n (omega arith))

pub total-le : (f g : ℕ → ℕ) (n : ℕ) → ((i : ℕ) → i < n → f i ≤ g i) → total f n ≤ total g n
total-le f g zero h = omega arith
total-le f g (suc n) h = omega (arith, total-le f g n (λ i l. h i (omega arith)), h n (omega arith))

pub total-add : (f g : ℕ → ℕ) (n : ℕ) → total (λ i. f i + g i) n ≡ total f n + total g n
total-add f g zero = refl
total-add f g (suc n) = omega (arith, total-add f g n)

total_at : (f : ℕ → ℕ) (n e : ℕ) → e < n → total (λ i. cond (eqb e i) (f i) 0) n ≡ f e
total_at f zero e l = absurd (omega arith)
total_at f (suc n) e l =
    ⊎_elim (λ (q : e ≡ n).
    omega (
      arith,
      total_zero (λ (i : ℕ). cond (eqb e i) (f i) 0) n
          (λ i h. cond-false (eqb e i) (f i) 0 (ne_eqb e i (λ (r : e ≡ i). omega arith))),
      cond-true (eqb e n) (f n) 0 (eq-eqb e n q),
      ap f q,
    ))
    (λ (ne : e ≡ n → ⊥). omega (arith, total_at f n e (omega arith), cond-false (eqb e n) (f n) 0 (ne_eqb e n ne)))
    (cases_eq e n)

pub total_more : (f : ℕ → ℕ) (n : ℕ) → total f (n + 1) ≡ total f n + f n
total_more f n = let e : n + 1 ≡ suc n = omega arith in ap (total f) e

-- THE RENTS OF THE TASKS ARE THOSE OF THE LOADS
abbrev pub sum_over : (Choice → ℕ) → List Choice → ℕ
sum_over v [] = 0
sum_over v (choice ∷ placement) = v choice + sum_over v placement

-- a number for each machine, and 0 for waiting
abbrev pub on_machine : (ℕ → ℕ) → Choice → ℕ
on_machine u (On j) = u j
on_machine u Wait = 0

-- one choice's part of the sum over the loads
one_part : (m : ℕ) (u : ℕ → ℕ) (choice : Choice) → IsPlace m choice
    → total (λ j. cond (goes_to j choice) 1 0 * u j) m ≡ on_machine u choice
one_part m u Wait h = total_zero (λ (j : ℕ). 0 * u j) m (λ j l. zero-mul (u j))
one_part m u (On k) h =
    total_same (λ (j : ℕ). cond (eqb k j) 1 0 * u j) (λ (j : ℕ). cond (eqb k j) (u j) 0) m
    (λ j l. sides (eqb k j) (u j))
    ∙ total_at u m k h
  where
    sides : (b : Bool) (r : ℕ) → cond b 1 0 * r ≡ cond b r 0
    sides true r = omega arith
    sides false r = zero-mul r

pub by_machine : (m : ℕ) (u : ℕ → ℕ) (placement : List Choice) → All (IsPlace m) placement
    → sum_over (on_machine u) placement ≡ total (λ j. load placement j * u j) m
by_machine m u [] h = sym (total_zero (λ (j : ℕ). 0 * u j) m (λ j l. zero-mul (u j)))
by_machine m u (choice ∷ placement) h =
    let split : total (λ j. load (choice ∷ placement) j * u j) m
    ≡ total (λ j. cond (goes_to j choice) 1 0 * u j + load placement j * u j) m =
    total_same (λ (j : ℕ). load (choice ∷ placement) j * u j)
    (λ (j : ℕ). cond (goes_to j choice) 1 0 * u j + load placement j * u j) m
    (λ j l. ap (λ n. n * u j) (sum_by-cons (λ (c : Choice). cond (goes_to j c) 1 0) choice placement)
    ∙ add-mul (cond (goes_to j choice) 1 0) (load placement j) (u j)) in
    omega (
      arith,
      split,
      total-add (λ (j : ℕ). cond (goes_to j choice) 1 0 * u j) (λ (j : ℕ). load placement j * u j) m,
      one_part m u choice (All-head (IsPlace m) choice placement h),
      by_machine m u placement (All-tail (IsPlace m) choice placement h),
    )

abbrev rents_of : List ℕ → List Choice → ℕ
rents_of rents placement = sum_over (on_machine (slice_index rents)) placement

-- A MACHINE'S GAIN IS NO LESS THAN WHAT ITS LOAD BRINGS
takings-le : (spread r s n : ℕ) → n ≤ s → takings spread r n ≤ gain spread r s
takings-le spread r zero n l = let e : n ≡ 0 = omega arith in subst (λ k. takings spread r k ≤ 0) (sym e) (omega arith)
takings-le spread r (suc s) n l =
    ⊎_elim (λ (h : n < suc s).
    let before : takings spread r n ≤ gain spread r s = takings-le spread r s n (omega arith) in
    omega (arith, before))
    (λ (h : suc s ≤ n). let e : n ≡ suc s = omega arith in
    subst (λ k. takings spread r k ≤ gain spread r (suc s)) (sym e) (omega arith))
    (cases_lt n (suc s))

brings : (spread r s n : ℕ) → n ≤ s → n * r ≤ load_cost spread n + gain spread r s
brings spread r s n l =
    let h : n * r - load_cost spread n ≤ gain spread r s = takings-le spread r s n l in omega (arith, h)

-- A TASK PAYS NO LESS THAN ITS LEAST
pub least_on-le : (case : Case) (rents : List ℕ) (task : Demand) (m : ℕ) (choice : Choice) → IsPlace m choice
    → least_on case rents task m ≤ paid case rents task choice
least_on-le case rents task zero Wait l = omega arith
least_on-le case rents task zero (On k) l = absurd (omega arith)
least_on-le case rents task (suc m) Wait l =
    let before : least_on case rents task m ≤ paid case rents task Wait = least_on-le case rents task m Wait tt in
    omega (arith, before)
least_on-le case rents task (suc m) (On k) l =
    ⊎_elim (λ (h : k < m).
    let before : least_on case rents task m ≤ paid case rents task (On k) = least_on-le case rents task m (On k) h in
    omega (arith, before))
    (λ (h : m ≤ k). let e : k ≡ m = omega arith in
    subst (λ j. least_on case rents task (suc m) ≤ paid case rents task (On j)) (sym e) (omega arith))
    (cases_lt k m)

abbrev all_paid : Case → List ℕ → List Demand → List Choice → ℕ
all_paid case rents tasks placement = tasks_cost case tasks placement + rents_of rents placement

all_least-le : (case : Case) (rents : List ℕ) (tasks : List Demand) (placement : List Choice)
    → length placement ≡ length tasks → All (IsPlace (length case.slots)) placement
    → all_least case rents tasks ≤ all_paid case rents tasks placement
all_least-le case rents [] placement e h = omega arith
all_least-le case rents (task ∷ tasks) [] e h = absurd (omega arith)
all_least-le case rents (task ∷ tasks) (choice ∷ placement) e h =
    let one : least_paid case rents task ≤ paid case rents task choice =
    least_on-le case rents task (length case.slots) choice
    (All-head (IsPlace (length case.slots)) choice placement h) in
    let more : all_least case rents tasks ≤ all_paid case rents tasks placement =
    all_least-le case rents tasks placement (omega arith) (All-tail (IsPlace (length case.slots)) choice placement h) in
    omega (arith, one, more)

-- what all tasks pay is no more than the placement's cost and the gains
paid-le : (case : Case) (rents : List ℕ) (placement : List Choice) → IsLegal case placement
    → all_paid case rents case.tasks placement ≤ placement_cost case placement + gains case rents
paid-le case rents placement legal =
    let m : ℕ = length case.slots in
    let each : total (λ j. load placement j * slice_index rents j) m
    ≤ total (λ j. load_cost case.spread (load placement j)
    + gain case.spread (slice_index rents j) (slice_index case.slots j)) m =
    total-le (λ (j : ℕ). load placement j * slice_index rents j)
    (λ (j : ℕ). load_cost case.spread (load placement j)
    + gain case.spread (slice_index rents j) (slice_index case.slots j)) m
    (λ j l. brings case.spread (slice_index rents j) (slice_index case.slots j) (load placement j) (legal.room j l)) in
    omega (
      arith,
      each,
      by_machine m (slice_index rents) placement legal.places,
      total-add (λ (j : ℕ). load_cost case.spread (load placement j))
          (λ (j : ℕ). gain case.spread (slice_index rents j) (slice_index case.slots j)) m,
    )

pub bound : RentsBound
bound case rents placement legal =
    omega (
      arith,
      all_least-le case rents case.tasks placement legal.one_each legal.places,
      paid-le case rents placement legal,
    )

pub shown : RentsShowLeast
shown case rents placement is other legal = omega (arith, is, bound case rents other legal)

-- the demand at a place of a list of them
abbrev pub demand_in : List Demand → ℕ → Demand
demand_in tasks i = slice_index_or tasks i (record { home = None; preferred = []; delay = 0; job = 0 })

excess : (case : Case) (rents : List ℕ) (tasks : List Demand) (placement : List Choice)
    → length placement ≡ length tasks → All (IsPlace (length case.slots)) placement
    → (i : ℕ) → i < length tasks
    → all_least case rents tasks + paid case rents (demand_in tasks i) (choice_at placement i)
    ≤ all_paid case rents tasks placement + least_paid case rents (demand_in tasks i)
excess case rents [] placement e h i l = absurd (omega arith)
excess case rents (one ∷ tasks) [] e h i l = absurd (omega arith)
excess case rents (one ∷ tasks) (its ∷ placement) e h zero l =
    let more : all_least case rents tasks ≤ all_paid case rents tasks placement =
    all_least-le case rents tasks placement (omega arith) (All-tail (IsPlace (length case.slots)) its placement h) in
    omega (arith, more)
excess case rents (one ∷ tasks) (its ∷ placement) e h (suc i) l =
    let here : least_paid case rents one ≤ paid case rents one its =
    least_on-le case rents one (length case.slots) its (All-head (IsPlace (length case.slots)) its placement h) in
    let more : all_least case rents tasks + paid case rents (demand_in tasks i) (choice_at placement i)
    ≤ all_paid case rents tasks placement + least_paid case rents (demand_in tasks i) =
    excess case rents tasks placement (omega arith) (All-tail (IsPlace (length case.slots)) its placement h) i
    (omega arith) in
    omega (arith, here, more)

pub exceeded : EachChoiceCostsItsExcess
exceeded case rents placement legal i l =
    omega (
      arith,
      excess case rents case.tasks placement legal.one_each legal.places i l,
      paid-le case rents placement legal,
    )

pub costs_more : (case : Case) (rents : List ℕ) (i : ℕ) (chosen other : Choice) (more : ℕ) → i < length case.tasks
    → more ≡ paid case rents (task_at case i) other - paid case rents (task_at case i) chosen
    → CostsMore case rents i chosen other more
costs_more case rents i chosen other more l is placement legal show here another allowed there =
    let least : least_paid case rents (task_at case i) ≤ paid case rents (task_at case i) chosen =
    subst (λ c. least_paid case rents (task_at case i) ≤ paid case rents (task_at case i) c) here
    (least_on-le case rents (task_at case i) (length case.slots) (choice_at placement i)
    (legal.places i Wait (omega (arith, l, legal.one_each)))) in
    let dearer : all_least case rents case.tasks + paid case rents (task_at case i) other
    ≤ placement_cost case another + gains case rents + least_paid case rents (task_at case i) =
    subst (λ c. all_least case rents case.tasks + paid case rents (task_at case i) c
    ≤ placement_cost case another + gains case rents + least_paid case rents (task_at case i)) there
    (exceeded case rents another allowed i l) in
    omega (arith, least, dearer, show, bound case rents another allowed, is)

-- LOADS STEP BY STEP
pub load_step : LoadsAreSumsOfSlots → (spread n : ℕ)
    → load_cost spread (suc n) ≡ load_cost spread n + slot_cost spread n
load_step sums spread n = omega (arith, sums spread (suc n), sums spread n)

-- equal sums of terms that are no larger have terms that are no smaller
pub total-ge : (f g : ℕ → ℕ) (n : ℕ) → ((i : ℕ) → i < n → f i ≤ g i) → total g n ≤ total f n → (i : ℕ) → i < n
    → g i ≤ f i
total-ge f g zero h e i l = absurd (omega arith)
total-ge f g (suc n) h e i l =
    let sums : total f n ≤ total g n = total-le f g n (λ i l. h i (omega arith)) in
    let last : f n ≤ g n = h n (omega arith) in
    ⊎_elim (λ (q : i ≡ n). subst (λ j. g j ≤ f j) (sym q) (omega (arith, last, sums, e)))
    (λ (ne : i ≡ n → ⊥). total-ge f g n (λ i l. h i (omega arith)) (omega (arith, last, sums, e)) i (omega arith))
    (cases_eq i n)

-- RENTS THAT SHOW A PLACEMENT SUIT IT
-- a load that brings the whole gain is worth its rent at each step
worth_of : LoadsAreSumsOfSlots → (spread r s n : ℕ) → n ≤ s → load_cost spread n + gain spread r s ≤ n * r
    → slot_cost spread (n - 1) ≤ r
worth_of sums spread r s zero l h = omega (arith, zero-mul spread)
worth_of sums spread r s (suc k) l h =
    let less : takings spread r k ≤ gain spread r s = takings-le spread r s k (omega arith) in
    let fewer : k * r ≤ load_cost spread k + gain spread r s = omega (arith, less) in
    let e : suc k - 1 ≡ k = omega arith in
    subst (λ m. slot_cost spread m ≤ r) (sym e) (omega (arith, fewer, load_step sums spread k, h))

free_of : LoadsAreSumsOfSlots → (spread r s n : ℕ) → n < s → load_cost spread n + gain spread r s ≤ n * r
    → r ≤ slot_cost spread n
free_of sums spread r s n l h =
    let more : takings spread r (suc n) ≤ gain spread r s = takings-le spread r s (suc n) (omega arith) in
    let all : suc n * r ≤ load_cost spread (suc n) + gain spread r s = omega (arith, more) in
    omega (arith, all, load_step sums spread n, h)

suits : LoadsAreSumsOfSlots → (case : Case) (rents : List ℕ) (placement : List Choice) → IsLegal case placement
    → Show case rents placement → Suit case rents placement
suits sums case rents placement legal shows =
    let m : ℕ = length case.slots in
    let brought : ℕ → ℕ = λ j. load placement j * slice_index rents j in
    let kept : ℕ → ℕ = λ j. load_cost case.spread (load placement j)
    + gain case.spread (slice_index rents j) (slice_index case.slots j) in
    let each : (j : ℕ) → j < m → brought j ≤ kept j =
    λ j l. brings case.spread (slice_index rents j) (slice_index case.slots j) (load placement j) (legal.room j l) in
    let whole : total kept m ≤ total brought m =
    omega (
      arith,
      shows,
      all_least-le case rents case.tasks placement legal.one_each legal.places,
      by_machine m (slice_index rents) placement legal.places,
      total-add (λ (j : ℕ). load_cost case.spread (load placement j))
          (λ (j : ℕ). gain case.spread (slice_index rents j) (slice_index case.slots j)) m,
    ) in
    let tight : (j : ℕ) → j < m → kept j ≤ brought j = total-ge brought kept m each whole in
    record {
      cheapest = λ i l other place. omega (
        arith,
        shows,
        exceeded case rents placement legal i l,
        least_on-le case rents (task_at case i) m other place,
      );
      worth = λ j l. worth_of sums case.spread (slice_index rents j) (slice_index case.slots j) (load placement j)
          (legal.room j l) (tight j l);
      free = λ j l room. free_of sums case.spread (slice_index rents j) (slice_index case.slots j) (load placement j)
          room (tight j l);
    }

-- RENTS THAT SUIT A PLACEMENT SHOW IT
-- no other number of tasks brings more than n, up to it and beyond
abbrev NoMore : ℕ → ℕ → ℕ → ℕ → Type 0
NoMore spread r n k = k * r + load_cost spread n ≤ n * r + load_cost spread k

module _ (sums : LoadsAreSumsOfSlots) (rises : LaterSlotsCostNoLess) where
  beyond : (spread r n more : ℕ) → r ≤ slot_cost spread n → NoMore spread r n (n + more)
  beyond spread r n zero h = let e : n + 0 ≡ n = omega arith in
      subst (NoMore spread r n) (sym e) (omega arith)
  beyond spread r n (suc more) h =
      let before : NoMore spread r n (n + more) = beyond spread r n more h in
      let e : n + suc more ≡ suc (n + more) = omega arith in
      subst (NoMore spread r n) (sym e)
      (omega (arith, before, rises spread n (n + more) (omega arith), load_step sums spread (n + more), h))

  fewer_by : (spread r n less : ℕ) → less ≤ n → slot_cost spread (n - 1) ≤ r → NoMore spread r n (n - less)
  fewer_by spread r n zero l h = let e : n - 0 ≡ n = omega arith in
      subst (NoMore spread r n) (sym e) (omega arith)
  fewer_by spread r n (suc less) l h =
      let k : ℕ = n - suc less in
      let e : n - less ≡ suc k = omega arith in
      let before : NoMore spread r n (suc k) = subst (NoMore spread r n) e (fewer_by spread r n less (omega arith) h) in
      omega (arith, before, rises spread k (n - 1) (omega arith), load_step sums spread k, h)

  no_more : (spread r s n k : ℕ) → k ≤ s → slot_cost spread (n - 1) ≤ r → (n < s → r ≤ slot_cost spread n)
      → NoMore spread r n k
  no_more spread r s n k l worth free =
      ⊎_elim (λ (h : n < k).
      let e : n + (k - n) ≡ k = omega arith in
      subst (NoMore spread r n) e (beyond spread r n (k - n) (free (omega arith))))
      (λ (h : k ≤ n).
      let e : n - (n - k) ≡ k = omega arith in
      subst (NoMore spread r n) e (fewer_by spread r n (n - k) (omega arith) worth))
      (cases_lt n k)

  gain_brought : (spread r s n t : ℕ) → t ≤ s → slot_cost spread (n - 1) ≤ r → (n < s → r ≤ slot_cost spread n)
      → load_cost spread n + gain spread r t ≤ n * r
  gain_brought spread r s n zero l worth free =
      let none : NoMore spread r n 0 = no_more spread r s n 0 (omega arith) worth free in
      omega (arith, none, zero-mul r, sums spread 0)
  gain_brought spread r s n (suc t) l worth free =
      let before : load_cost spread n + gain spread r t ≤ n * r =
      gain_brought spread r s n t (omega arith) worth free in
      let here : NoMore spread r n (suc t) = no_more spread r s n (suc t) l worth free in
      let some : load_cost spread n ≤ n * r = omega (arith, before) in
      omega (arith, before, here, some)

pub least_on-ge : (case : Case) (rents : List ℕ) (task : Demand) (n : ℕ) (m : ℕ) → m ≤ length case.slots
    → ((other : Choice) → IsPlace (length case.slots) other → n ≤ paid case rents task other)
    → n ≤ least_on case rents task m
least_on-ge case rents task n zero l h = h Wait tt
least_on-ge case rents task n (suc m) l h =
    let before : n ≤ least_on case rents task m = least_on-ge case rents task n m (omega arith) h in
    let here : n ≤ paid case rents task (On m) = h (On m) (omega arith) in
    omega (arith, before, here)

all_paid-le : (case : Case) (rents : List ℕ) (tasks : List Demand) (placement : List Choice)
    → length placement ≡ length tasks
    → ((i : ℕ) → i < length tasks
    → paid case rents (demand_in tasks i) (choice_at placement i) ≤ least_paid case rents (demand_in tasks i))
    → all_paid case rents tasks placement ≤ all_least case rents tasks
all_paid-le case rents [] [] e h = omega arith
all_paid-le case rents [] (its ∷ placement) e h = absurd (omega arith)
all_paid-le case rents (one ∷ tasks) [] e h = absurd (omega arith)
all_paid-le case rents (one ∷ tasks) (its ∷ placement) e h =
    let here : paid case rents one its ≤ least_paid case rents one = h 0 (omega arith) in
    let more : all_paid case rents tasks placement ≤ all_least case rents tasks =
    all_paid-le case rents tasks placement (omega arith) (λ i l. h (suc i) (omega arith)) in
    omega (arith, here, more)

shows : LoadsAreSumsOfSlots → LaterSlotsCostNoLess → (case : Case) (rents : List ℕ) (placement : List Choice)
    → IsLegal case placement → Suit case rents placement → Show case rents placement
shows sums rises case rents placement legal suit =
    let m : ℕ = length case.slots in
    let each : total (λ j. load_cost case.spread (load placement j)
    + gain case.spread (slice_index rents j) (slice_index case.slots j)) m
    ≤ total (λ j. load placement j * slice_index rents j) m =
    total-le (λ (j : ℕ). load_cost case.spread (load placement j)
    + gain case.spread (slice_index rents j) (slice_index case.slots j))
    (λ (j : ℕ). load placement j * slice_index rents j) m
    (λ j l. gain_brought sums rises case.spread (slice_index rents j) (slice_index case.slots j) (load placement j)
    (slice_index case.slots j) (omega arith) (suit.worth j l) (suit.free j l)) in
    let all : all_paid case rents case.tasks placement ≤ all_least case rents case.tasks =
    all_paid-le case rents case.tasks placement legal.one_each
    (λ i l. least_on-ge case rents (task_at case i) (paid case rents (task_at case i) (choice_at placement i)) m
    (omega arith) (suit.cheapest i l)) in
    omega (
      arith,
      each,
      all,
      bound case rents placement legal,
      by_machine m (slice_index rents) placement legal.places,
      total-add (λ (j : ℕ). load_cost case.spread (load placement j))
          (λ (j : ℕ). gain case.spread (slice_index rents j) (slice_index case.slots j)) m,
    )

pub that_show_suit : LoadsAreSumsOfSlots → LaterSlotsCostNoLess → RentsThatShowSuit
that_show_suit sums rises case rents placement legal = (
  suits sums case rents placement legal,
  shows sums rises case rents placement legal,
)
