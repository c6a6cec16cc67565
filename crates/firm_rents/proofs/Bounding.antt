-- Steps that raise and lower rents keep them within the bounds of all rents that suit the placement.
use Rattle.std.proofs.Common.{◌≡◌, ℕ, ◌+◌, ◌-◌, ◌^◌, ◌<◌, ◌≤◌, cond, List, ◌++◌, length, take, sym, subst}
use Rattle.std.proofs.Common.{arith}
use Rattle.std.proofs.Common.{⊎_elim}
use Rattle.std.specs.Prelude.{slice_index, nat_lt, slice_set as set}
use Rattle.std.proofs.lemmas.Bool.{cases_eq, cases_lt, cond-true, cond-false, lt-ltb, le-ltb}
use Rattle.std.proofs.lemmas.List.{get_or-set_same, get_or-set_other, get_or_past, take_all, take-append-le}
use Rattle.firm_rules.specs.declared.rounds.Choice.{Choice}
use Rattle.firm_rules.specs.declared.rounds.Choice.TheVariants.{On, Wait}
use Rattle.firm_rules.specs.Placement.{Case, IsPlace, load, slot_cost}
use Rattle.firm_rents.specs.Rents.{rent, paid, AreRents, Suit, IsBelow}
use Rattle.firm_rules.specs.Placement.{task_at, choice_at}
use Rattle.firm_rents.specs.inner.Bounds.{IsWithin}
use Rattle.firm_rules.specs.ChoiceCost.{wide_cost}
use Rattle.firm_rents.proofs.Cheapest.{wide-le}

pub rent-le : (rents bounds : List ℕ) (choice : Choice) → IsBelow rents bounds → rent rents choice ≤ rent bounds choice
rent-le rents bounds (On j) h = h j
rent-le rents bounds Wait h = omega arith

-- a list that is written whole is what was written
pub written : (n : ℕ) (new rest : List ℕ) → n ≡ length new → take n (new ++ rest) ≡ new
written n new rest e =
    let h : n ≤ length new = omega arith in
    rw take-append-le (take_all n new (omega arith))

-- one rent that changes, within its bound
pub set_below : (old new bounds : List ℕ) (place n : ℕ) → place < length old → new ≡ set old place n
    → n ≤ slice_index bounds place → IsBelow old bounds → IsBelow new bounds
set_below old new bounds place n l is fits h = λ j.
    subst (λ (rents : List ℕ). slice_index rents j ≤ slice_index bounds j) (sym is)
    (⊎_elim (λ (q : j ≡ place).
    subst (λ k. slice_index (set old place n) k ≤ slice_index bounds k) (sym q)
    (omega (arith, get_or-set_same old place n 0 l, fits)))
    (λ (ne : j ≡ place → ⊥). omega (arith, get_or-set_other old place j n 0 ne, h j))
    (cases_eq j place))

pub set_small : (old new : List ℕ) (place n most : ℕ) → place < length old → new ≡ set old place n
    → n ≤ most → ((j : ℕ) → slice_index old j ≤ most) → (j : ℕ) → slice_index new j ≤ most
set_small old new place n most l is fits h = λ j.
    subst (λ (rents : List ℕ). slice_index rents j ≤ most) (sym is)
    (⊎_elim (λ (q : j ≡ place).
    subst (λ k. slice_index (set old place n) k ≤ most) (sym q)
    (omega (arith, get_or-set_same old place n 0 l, fits)))
    (λ (ne : j ≡ place → ⊥). omega (arith, get_or-set_other old place j n 0 ne, h j))
    (cases_eq j place))

pub set_within : (rents old new : List ℕ) (place n less more : ℕ) → place < length old → new ≡ set old place n
    → length new ≡ length old → slice_index rents place + less ≤ n + more → IsWithin rents old less more
    → IsWithin rents new less more
set_within rents old new place n less more l is same fits h = λ j inside.
    subst (λ (table : List ℕ). slice_index rents j + less ≤ slice_index table j + more) (sym is)
    (⊎_elim (λ (q : j ≡ place).
    subst (λ k. slice_index rents k + less ≤ slice_index (set old place n) k + more) (sym q)
    (omega (arith, get_or-set_same old place n 0 l, fits)))
    (λ (ne : j ≡ place → ⊥). omega (arith, get_or-set_other old place j n 0 ne, h j (omega arith)))
    (cases_eq j place))

-- what a task pays beyond the wide cost is within the bound of each machine
pub floor-le : (case : Case) (rents bounds : List ℕ) (placement : List Choice) (i : ℕ) → Suit case bounds placement
    → IsBelow rents bounds → i < length case.tasks → (j : ℕ) → j < length case.slots
    → paid case rents (task_at case i) (choice_at placement i) - wide_cost case (task_at case i) ≤ slice_index bounds j
floor-le case rents bounds placement i suit below l j inside =
    let cheapest : paid case bounds (task_at case i) (choice_at placement i)
    ≤ paid case bounds (task_at case i) (On j) =
    suit.cheapest i l (On j) inside in
    omega (arith, cheapest, wide-le case (task_at case i) j, rent-le rents bounds (choice_at placement i) below)

-- what it pays is no more than what it would for another machine by the bounds
pub pays-le : (case : Case) (rents bounds : List ℕ) (placement : List Choice) (i : ℕ) → Suit case bounds placement
    → IsBelow rents bounds → i < length case.tasks → (j : ℕ) → j < length case.slots
    → paid case rents (task_at case i) (choice_at placement i) ≤ paid case bounds (task_at case i) (On j)
pays-le case rents bounds placement i suit below l j inside =
    let cheapest : paid case bounds (task_at case i) (choice_at placement i)
    ≤ paid case bounds (task_at case i) (On j) =
    suit.cheapest i l (On j) inside in
    omega (arith, cheapest, rent-le rents bounds (choice_at placement i) below)

-- rents that are within others at each machine are below them, where there are no more of them
pub below_all : (rents bounds : List ℕ) → length rents ≡ length bounds → IsWithin rents bounds 0 0
    → IsBelow rents bounds
below_all rents bounds e h = λ j.
    ⊎_elim (λ (l : j < length bounds). omega (arith, h j l))
    (λ (l : length bounds ≤ j). omega (arith, get_or_past rents j 0 (omega arith)))
    (cases_lt j (length bounds))

-- rents by which the last task of each machine is paid for are below all rents that suit the placement
pub paid_below : (case : Case) (placement : List Choice) (rents bounds : List ℕ) → length rents ≡ length case.slots
    → ((j : ℕ) → j < length case.slots → slice_index rents j ≤ slot_cost case.spread (load placement j - 1))
    → Suit case bounds placement → IsBelow rents bounds
paid_below case placement rents bounds e is suit = λ j.
    ⊎_elim (λ (l : j < length case.slots). omega (arith, is j l, suit.worth j l))
    (λ (l : length case.slots ≤ j). omega (arith, get_or_past rents j 0 (omega arith)))
    (cases_lt j (length case.slots))

-- and those by which a free slot is worth what it costs, and full machines have the highest rent, are above all of them
pub free_within : (case : Case) (placement : List Choice) (table rents : List ℕ) → length table ≡ length case.slots
    → ((j : ℕ) → j < length case.slots → slice_index table j
    ≡ cond (nat_lt (load placement j) (slice_index case.slots j)) (slot_cost case.spread (load placement j)) (2 ^ 40))
    → AreRents (length case.slots) rents → Suit case rents placement → IsWithin rents table 0 0
free_within case placement table rents e is are suit = λ j inside.
    (let l : j < length case.slots = omega arith in
    ⊎_elim (λ (room : load placement j < slice_index case.slots j).
    omega (
      arith,
      is j l,
      cond-true (nat_lt (load placement j) (slice_index case.slots j)) (slot_cost case.spread (load placement j))
          (2 ^ 40) (lt-ltb (load placement j) (slice_index case.slots j) room),
      suit.free j l room,
    ))
    (λ (full : slice_index case.slots j ≤ load placement j).
    omega (
      arith,
      is j l,
      cond-false (nat_lt (load placement j) (slice_index case.slots j)) (slot_cost case.spread (load placement j))
          (2 ^ 40) (le-ltb (load placement j) (slice_index case.slots j) full),
      are.small j,
    ))
    (cases_lt (load placement j) (slice_index case.slots j)))

-- rents that are within a table by what the task's own choice may differ leave no other choice dearer beside it
pub dearest_by : (m : ℕ) (rents table : List ℕ) (chosen other : Choice) (most : ℕ) → length table ≡ m → IsPlace m other
    → IsWithin rents table most (rent rents chosen) → rent table chosen ≤ most → most ≤ rent rents chosen
    → rent rents other + rent table chosen ≤ rent table other + rent rents chosen
dearest_by m rents table chosen (On j) most e place within low fits = omega (arith, within j (omega arith), low)
dearest_by m rents table chosen Wait most e place within low fits = omega (arith, low, fits)
