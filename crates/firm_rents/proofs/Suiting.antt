-- Offers of places as a proof that rents in levels suit a placement.
use Rattle.std.proofs.Common.{◌≡◌, ℕ, zero, suc, ◌+◌, ◌*◌, ◌<◌, ◌≤◌, cond, eqb, List, length, refl, sym, ap, subst}
use Rattle.std.proofs.Common.{arith}
use Rattle.std.proofs.Common.{◌∙◌, ⊎_elim, Bool, false, true}
use Rattle.std.specs.Prelude.{slice_index}
use Rattle.std.proofs.lemmas.List.{get_or_past}
use Rattle.std.proofs.lemmas.Bool.{cases_lt, cases_eq, cases_Bool, cond-true, cond-false, eq-eqb, ne_eqb}
use Rattle.firm_rules.specs.declared.rounds.Choice.{Choice}
use Rattle.firm_rules.specs.declared.rounds.Choice.TheVariants.{On, Wait}
use Rattle.firm_rules.specs.Placement.{Case, IsPlace, slot_cost, task_cost, runs_at}
use Rattle.firm_levels.specs.declared.Class.{Class}
use Rattle.firm_rents.specs.declared.classes.Offer.{Offer}
use Rattle.firm_levels.specs.declared.LevelRents.{LevelRents}
use Rattle.firm_rules.specs.Placement.{task_at}
use Rattle.firm_rents.specs.Levels.{IsAtMost, time, amount, paid_by_level, slot_by_level}
use Rattle.firm_rules.specs.ChoiceCost.{wide_cost}
use Rattle.firm_rents.specs.inner.Classes.{offered, rents_at, place_of, level_rents, place_offer, place_levels}
use Rattle.firm_rents.specs.inner.Classes.{IsLeast, NoMore}
use Rattle.firm_rents.proofs.Cheapest.{own_is, wide_is, none_preferred, wide_or_preferred}
use Rattle.firm_rents.proofs.Comparing.{by_amount}
use Rattle.firm_rents.proofs.Lexicographic.{at_most-add, at_most-cancel, at_most-same, at_most-trans}

-- what a choice of this time costs at a time, and behind its amount
abbrev mark : ℕ → ℕ → ℕ
mark t time = cond (eqb t time) 0 1

abbrev marks : ℕ → ℕ → ℕ
marks time zero = 0
marks time (suc t) = mark t time

-- an offer's parts
abbrev parts : LevelRents → ℕ → ℕ → ℕ → ℕ → ℕ
parts rents more place time l = (amount more l + rents_at rents place l) + marks time l

parts_of : (rents : LevelRents) (more place time l : ℕ)
    → place_levels rents more place time l ≡ parts rents more place time l
parts_of rents more place time zero = omega arith
parts_of rents more place time (suc t) = omega arith

-- without a choice
pub without_time : (rents : LevelRents) (more place other_more other time : ℕ)
    → IsAtMost (place_levels rents more place time) (place_levels rents other_more other time)
    → IsAtMost (λ l. amount more l + rents_at rents place l) (λ l. amount other_more l + rents_at rents other l)
without_time rents more place other_more other time h =
    at_most-cancel (λ l. amount more l + rents_at rents place l) (λ l. amount other_more l + rents_at rents other l)
    (marks time) (place_levels rents more place time) (place_levels rents other_more other time) h
    (λ l. parts_of rents more place time l) (λ l. parts_of rents other_more other time l)

amount_none : (l : ℕ) → amount 0 l ≡ 0
amount_none zero = refl
amount_none (suc t) = refl

-- LATER TIMES COST MORE
mark_other : (t u : ℕ) → (t ≡ u → ⊥) → mark t u ≡ 1
mark_other t u ne = cond-false (eqb t u) 0 1 (ne_eqb t u ne)

mark_own : (t u : ℕ) → t ≡ u → mark t u ≡ 0
mark_own t u e = cond-true (eqb t u) 0 1 (eq-eqb t u e)

mark_most : (t u : ℕ) → mark t u ≤ 1
mark_most t u = sides (eqb t u)
  where
    sides : (b : Bool) → cond b 0 1 ≤ 1
    sides true = omega arith
    sides false = omega arith

later : (a b : ℕ) → a ≤ b → IsAtMost (marks a) (marks b)
later a b h zero same = omega arith
later a b h (suc t) same =
    ⊎_elim (λ (e : t ≡ b).
    ⊎_elim (λ (q : a ≡ b). omega (arith, ap (mark t) q))
    (λ (ne : a ≡ b → ⊥).
    let earlier : mark a a ≡ mark a b = same (suc a) (omega arith) in
    absurd (omega (arith, earlier, mark_own a a refl, mark_other a b ne)))
    (cases_eq a b))
    (λ (ne : t ≡ b → ⊥). omega (arith, mark_most t a, mark_other t b ne))
    (cases_eq t b)

-- with more paid on both sides
dearer_by : (rents : LevelRents) (more place other a b : ℕ)
    → IsAtMost (place_levels rents 0 place a) (place_levels rents 0 other b)
    → IsAtMost (place_levels rents more place a) (place_levels rents more other b)
dearer_by rents more place other a b h =
    at_most-same (place_levels rents more place a) (place_levels rents more other b)
    (λ l. place_levels rents 0 place a l + amount more l) (λ l. place_levels rents 0 other b l + amount more l)
    (at_most-add (place_levels rents 0 place a) (place_levels rents 0 other b) (amount more) (amount more) h
    (λ l same. omega arith))
    (λ l. omega (arith, parts_of rents 0 place a l, parts_of rents more place a l, amount_none l))
    (λ l. omega (arith, parts_of rents 0 other b l, parts_of rents more other b l, amount_none l))

-- the lowest rent at a time is no more than another at a later one
pub least_later : (rents : LevelRents) (lowest j a b : ℕ) → IsLeast rents lowest j → a ≤ b
    → IsAtMost (place_levels rents 0 lowest a) (place_levels rents 0 j b)
least_later rents lowest j a b least h =
    let bare : IsAtMost (λ l. amount 0 l + rents_at rents lowest l) (λ l. amount 0 l + rents_at rents j l) =
    without_time rents 0 lowest 0 j 0 least in
    at_most-same (place_levels rents 0 lowest a) (place_levels rents 0 j b)
    (λ l. (amount 0 l + rents_at rents lowest l) + marks a l) (λ l. (amount 0 l + rents_at rents j l) + marks b l)
    (at_most-add (λ l. amount 0 l + rents_at rents lowest l) (λ l. amount 0 l + rents_at rents j l) (marks a) (marks b)
    bare (later a b h))
    (λ l. sym (parts_of rents 0 lowest a l)) (λ l. sym (parts_of rents 0 j b l))

-- WHAT A CHOICE COSTS A TASK
pub paid_is : (case : Case) (rents : LevelRents) (i : ℕ) (choice : Choice) (l : ℕ)
    → offered rents.classes.items
    (place_offer rents (task_cost case (task_at case i) choice) (place_of (length rents.amounts.items) choice)
    (time case i choice)) l
    ≡ paid_by_level case (level_rents rents) i choice l
paid_is case rents i choice zero = refl
paid_is case rents i choice (suc t) = refl

-- an offer that is no more than that of a choice
pub no_more : (case : Case) (rents : LevelRents) (i : ℕ) (chosen : Offer) (choice : Choice)
    → IsAtMost (offered rents.classes.items chosen) (offered rents.classes.items
    (place_offer rents (task_cost case (task_at case i) choice) (place_of (length rents.amounts.items) choice)
    (time case i choice)))
    → NoMore case rents i chosen choice
no_more case rents i chosen choice h =
    at_most-same (offered rents.classes.items chosen) (paid_by_level case (level_rents rents) i choice)
    (offered rents.classes.items chosen) (offered rents.classes.items
    (place_offer rents (task_cost case (task_at case i) choice) (place_of (length rents.amounts.items) choice)
    (time case i choice))) h (λ l. refl) (λ l. paid_is case rents i choice l)

-- a choice whose offer is no more than any
pub at_most_paid : (case : Case) (rents : LevelRents) (i : ℕ) (choice other : Choice)
    → NoMore case rents i
    (place_offer rents (task_cost case (task_at case i) choice) (place_of (length rents.amounts.items) choice)
    (time case i choice)) other
    → IsAtMost (paid_by_level case (level_rents rents) i choice) (paid_by_level case (level_rents rents) i other)
at_most_paid case rents i choice other h =
    at_most-same (paid_by_level case (level_rents rents) i choice) (paid_by_level case (level_rents rents) i other)
    (offered rents.classes.items
    (place_offer rents (task_cost case (task_at case i) choice) (place_of (length rents.amounts.items) choice)
    (time case i choice))) (paid_by_level case (level_rents rents) i other) h (λ l. paid_is case rents i choice l)
    (λ l. refl)

-- one more of those below
pub one_more : (P : ℕ → Type 0) (n : ℕ) → ((j : ℕ) → j < n → P j) → P n → (j : ℕ) → j < n + 1 → P j
one_more P n h last j l =
    ⊎_elim (λ (s : j < n). h j s) (λ (s : n ≤ j). let e : n ≡ j = omega arith in subst P e last) (cases_lt j n)

-- none that is not listed is large
pub all_small : (xs : List ℕ) (most : ℕ) → ((j : ℕ) → j < length xs → slice_index xs j ≤ most) → (j : ℕ)
    → slice_index xs j ≤ most
all_small xs most h j =
    ⊎_elim (λ (l : j < length xs). h j l) (λ (l : length xs ≤ j). omega (arith, get_or_past xs j 0 l))
    (cases_lt j (length xs))

pub all_below : (xs : List ℕ) (n : ℕ) → 0 < n → ((j : ℕ) → j < length xs → slice_index xs j < n) → (j : ℕ)
    → slice_index xs j < n
all_below xs n some h j =
    ⊎_elim (λ (l : j < length xs). h j l) (λ (l : length xs ≤ j). omega (arith, get_or_past xs j 0 l))
    (cases_lt j (length xs))

-- offers as they are defined
pub as_defined : (classes defined : List Class) (one other one_is other_is : Offer) → classes ≡ defined → one ≡ one_is
    → other ≡ other_is → IsAtMost (offered classes one) (offered classes other)
    → IsAtMost (offered defined one_is) (offered defined other_is)
as_defined classes defined one other one_is other_is p q r h =
    subst (λ o. IsAtMost (offered defined one_is) (offered defined o)) r
    (subst (λ o. IsAtMost (offered defined o) (offered defined other)) q
    (subst (λ cs. IsAtMost (offered cs one) (offered cs other)) p h))

-- A MACHINE'S LOAD
slot_is : (case : Case) (rents : LevelRents) (n l : ℕ) → length rents.amounts.items ≡ length case.slots
    → amount (slot_cost case.spread n) l + rents_at rents (length case.slots) l
    ≡ slot_by_level case (level_rents rents) n l
slot_is case rents n l e = ap (λ m. amount (slot_cost case.spread n) l + rents_at rents m l) (sym e)

pub worth_from : (case : Case) (rents : LevelRents) (j n : ℕ) → length rents.amounts.items ≡ length case.slots
    → IsAtMost (place_levels rents (slot_cost case.spread n) (length case.slots) 0) (place_levels rents 0 j 0)
    → IsAtMost (slot_by_level case (level_rents rents) n) (level_rents rents (On j))
worth_from case rents j n e h =
    at_most-same (slot_by_level case (level_rents rents) n) (level_rents rents (On j))
    (λ l. amount (slot_cost case.spread n) l + rents_at rents (length case.slots) l)
    (λ l. amount 0 l + rents_at rents j l)
    (without_time rents (slot_cost case.spread n) (length case.slots) 0 j 0 h) (λ l. slot_is case rents n l e)
    (λ l. omega (arith, amount_none l))

pub free_from : (case : Case) (rents : LevelRents) (j n : ℕ) → length rents.amounts.items ≡ length case.slots
    → IsAtMost (place_levels rents 0 j 0) (place_levels rents (slot_cost case.spread n) (length case.slots) 0)
    → IsAtMost (level_rents rents (On j)) (slot_by_level case (level_rents rents) n)
free_from case rents j n e h =
    at_most-same (level_rents rents (On j)) (slot_by_level case (level_rents rents) n)
    (λ l. amount 0 l + rents_at rents j l)
    (λ l. amount (slot_cost case.spread n) l + rents_at rents (length case.slots) l)
    (without_time rents 0 j (slot_cost case.spread n) (length case.slots) 0 h) (λ l. omega (arith, amount_none l))
    (λ l. slot_is case rents n l e)

-- THE LOWEST RENT
pub least_same : (rents : LevelRents) (j : ℕ) → IsLeast rents j j
least_same rents j l same = omega arith

pub least_kept : (rents : LevelRents) (one other j : ℕ) → IsLeast rents other one → IsLeast rents one j
    → IsLeast rents other j
least_kept rents one other j less least =
    at_most-trans (place_levels rents 0 other 0) (place_levels rents 0 one 0) (place_levels rents 0 j 0) less least

-- MACHINES THAT COST ALL TASKS ALIKE
pub wide_offer : (case : Case) (rents : LevelRents) (i j : ℕ)
    → task_cost case (task_at case i) (On j) ≡ wide_cost case (task_at case i)
    → runs_at (task_at case i).home j ≡ false
    → place_offer rents (wide_cost case (task_at case i)) j (i * (length case.slots + 2) + suc j)
    ≡ place_offer rents (task_cost case (task_at case i) (On j)) j (time case i (On j))
wide_offer case rents i j cost runs =
    ap (λ n. place_offer rents n j (i * (length case.slots + 2) + suc j)) (sym cost)
    ∙ ap (λ b. place_offer rents (task_cost case (task_at case i) (On j)) j
    (i * (length case.slots + 2) + cond b 0 (suc j))) (sym runs)

-- what a choice of a machine costs a task that stays there, or that prefers none
pub stays_offer : (case : Case) (rents : LevelRents) (i j : ℕ) → runs_at (task_at case i).home j ≡ true
    → place_offer rents 0 j (i * (length case.slots + 2))
    ≡ place_offer rents (task_cost case (task_at case i) (On j)) j (time case i (On j))
stays_offer case rents i j runs =
    let at : i * (length case.slots + 2) ≡ time case i (On j) =
    omega (arith, ap (λ b. cond b 0 (suc j)) runs) in
    ap (λ n. place_offer rents n j (i * (length case.slots + 2))) (sym (own_is case (task_at case i) j runs))
    ∙ ap (place_offer rents (task_cost case (task_at case i) (On j)) j) at

pub any_offer : (case : Case) (rents : LevelRents) (i j : ℕ) → runs_at (task_at case i).home j ≡ false
    → length (task_at case i).preferred ≡ 0
    → place_offer rents (wide_cost case (task_at case i)) j (i * (length case.slots + 2) + suc j)
    ≡ place_offer rents (task_cost case (task_at case i) (On j)) j (time case i (On j))
any_offer case rents i j away none =
    wide_offer case rents i j
    (wide_is case (task_at case i) j away (none_preferred (task_at case i).preferred j none)) away

-- a machine at its offer to all that are neither on it nor prefer it
pub alike : (case : Case) (rents : LevelRents) (i : ℕ) (chosen : Offer) (j cost begun : ℕ)
    → cost ≡ wide_cost case (task_at case i) → begun ≡ i * (length case.slots + 2)
    → IsAtMost (offered rents.classes.items chosen) (place_levels rents cost j (begun + suc j))
    → task_cost case (task_at case i) (On j) ≡ wide_cost case (task_at case i)
    → runs_at (task_at case i).home j ≡ false → NoMore case rents i chosen (On j)
alike case rents i chosen j cost begun p q told wide away =
    no_more case rents i chosen (On j)
    (subst (λ o. IsAtMost (offered rents.classes.items chosen) (offered rents.classes.items o))
    (ap (λ n. place_offer rents n j (begun + suc j)) p
    ∙ (ap (λ t. place_offer rents (wide_cost case (task_at case i)) j (t + suc j)) q
    ∙ wide_offer case rents i j wide away)) told)

-- the amount of the lowest rent alone tells
pub least_amount : (case : Case) (rents : LevelRents) (i : ℕ) (chosen : Offer) (lowest j : ℕ)
    → IsLeast rents lowest j → chosen.amount < wide_cost case (task_at case i) + slice_index rents.amounts.items lowest
    → task_cost case (task_at case i) (On j) ≡ wide_cost case (task_at case i) → NoMore case rents i chosen (On j)
least_amount case rents i chosen lowest j least less cost =
    by_amount (offered rents.classes.items chosen) (paid_by_level case (level_rents rents) i (On j))
    (omega (arith, less, cost, least 0 (λ l h. absurd (omega arith))))

-- the lowest rent at a time bounds that of a machine which is dearer at its own time
pub tells : (case : Case) (rents : LevelRents) (i : ℕ) (chosen : Offer) (lowest j a : ℕ)
    → IsAtMost (offered rents.classes.items chosen) (place_levels rents (wide_cost case (task_at case i)) lowest a)
    → IsAtMost (place_levels rents 0 lowest a) (place_levels rents 0 j (i * (length case.slots + 2) + suc j))
    → task_cost case (task_at case i) (On j) ≡ wide_cost case (task_at case i)
    → runs_at (task_at case i).home j ≡ false → NoMore case rents i chosen (On j)
tells case rents i chosen lowest j a told dearer cost runs =
    let wide : ℕ = wide_cost case (task_at case i) in
    let at : ℕ = i * (length case.slots + 2) + suc j in
    no_more case rents i chosen (On j)
    (subst (λ o. IsAtMost (offered rents.classes.items chosen) (offered rents.classes.items o))
    (wide_offer case rents i j cost runs)
    (at_most-trans (offered rents.classes.items chosen) (place_levels rents wide lowest a)
    (place_levels rents wide j at) told (dearer_by rents wide lowest j a at dearer)))

-- A TASK'S CHOICE IS ITS CHEAPEST
pub no_more_itself : (case : Case) (rents : LevelRents) (i : ℕ) (choice : Choice) (chosen : Offer)
    → chosen ≡ place_offer rents (task_cost case (task_at case i) choice)
    (place_of (length rents.amounts.items) choice) (time case i choice)
    → NoMore case rents i chosen choice
no_more_itself case rents i choice chosen is =
    subst (λ o. NoMore case rents i o choice) (sym is)
    (no_more case rents i (place_offer rents (task_cost case (task_at case i) choice)
    (place_of (length rents.amounts.items) choice) (time case i choice)) choice (λ l same. omega arith))

pub all_suit : (case : Case) (rents : LevelRents) (i : ℕ) (choice : Choice) (chosen : Offer)
    → chosen ≡ place_offer rents (task_cost case (task_at case i) choice)
    (place_of (length rents.amounts.items) choice) (time case i choice)
    → NoMore case rents i chosen Wait
    → ((j : ℕ) → j < length case.slots → runs_at (task_at case i).home j ≡ true → NoMore case rents i chosen (On j))
    → ((k : ℕ) → k < length (task_at case i).preferred
    → NoMore case rents i chosen (On (slice_index (task_at case i).preferred k)))
    → ((j : ℕ) → j < length case.slots → task_cost case (task_at case i) (On j) ≡ wide_cost case (task_at case i)
    → runs_at (task_at case i).home j ≡ false → NoMore case rents i chosen (On j))
    → (other : Choice) → IsPlace (length case.slots) other
    → IsAtMost (paid_by_level case (level_rents rents) i choice) (paid_by_level case (level_rents rents) i other)
all_suit case rents i choice chosen is waits own preferred others other place =
    at_most_paid case rents i choice other (subst (λ o. NoMore case rents i o other) is (each other place))
  where
    each : (other : Choice) → IsPlace (length case.slots) other → NoMore case rents i chosen other
    each Wait place = waits
    each (On j) place =
        ⊎_elim (λ (here : runs_at (task_at case i).home j ≡ true). own j place here)
        (λ (away : runs_at (task_at case i).home j ≡ false).
        ⊎_elim (λ (cost : task_cost case (task_at case i) (On j) ≡ wide_cost case (task_at case i)).
        others j place cost away)
        (λ (there : (k : ℕ) × (k < length (task_at case i).preferred)
        × (slice_index (task_at case i).preferred k ≡ j)).
        subst (λ j. NoMore case rents i chosen (On j)) there.2 (preferred there.0 there.1))
        (wide_or_preferred case (task_at case i) j away))
        (cases_Bool (runs_at (task_at case i).home j))
