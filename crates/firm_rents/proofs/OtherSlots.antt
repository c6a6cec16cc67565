-- Bounds by rents on cases with other slots.
use Rattle.std.proofs.Common.{◌≡◌, ℕ, zero, suc, ◌+◌, ◌-◌, ◌<◌, ◌≤◌, min, List, [], ◌∷◌, ◌++◌, length, take, refl, sym}
use Rattle.std.proofs.Common.{ap, subst, ◌∙◌, arith}
use Rattle.std.proofs.Common.{⊎_elim}
use Rattle.std.proofs.lemmas.Bool.{cases_eq}
use Rattle.std.specs.Prelude.{slice_index, slice_set as set}
use Rattle.std.proofs.lemmas.List.{get_or_append_left, get_or_at, get_or-set_same, get_or-set_other, length-append}
use Rattle.std.proofs.lemmas.List.{length-set}
use Rattle.firm_rules.specs.declared.rounds.Choice.{Choice}
use Rattle.firm_rules.specs.declared.rounds.Choice.TheVariants.{On}
use Rattle.firm_rules.specs.Placement.{Demand, Case, total, IsLegal, task_cost, placement_cost}
use Rattle.firm_rents.specs.Rents.{paid, least_on, least_paid, all_least, gain, gains, Show}
use Rattle.firm_rents.specs.OtherSlots.{with_slots, drawn, OtherSlotsCost, OneMoreMachineSaves}
use Rattle.firm_rents.proofs.Payments.{bound, total_same}
use Rattle.firm_rents.proofs.Rows.{demand_in}

-- what a task pays at least rests on how many machines there are, not on their slots
least_on_same : (case : Case) (slots rents : List ℕ) (task : Demand) (m : ℕ)
    → least_on (with_slots case slots) rents task m ≡ least_on case rents task m
least_on_same case slots rents task zero = refl
least_on_same case slots rents task (suc m) =
    ap (λ n. min n (paid case rents task (On m))) (least_on_same case slots rents task m)

all_least_same : (case : Case) (slots rents : List ℕ) (tasks : List Demand) → length slots ≡ length case.slots
    → all_least (with_slots case slots) rents tasks ≡ all_least case rents tasks
all_least_same case slots rents [] e = refl
all_least_same case slots rents (task ∷ tasks) e =
    omega (
      arith,
      least_on_same case slots rents task (length slots),
      ap (λ m. least_on case rents task m) e,
      all_least_same case slots rents tasks e,
    )

pub other_slots : OtherSlotsCost
other_slots case rents placement shows slots e other legal =
    omega (arith, shows, bound (with_slots case slots) rents other legal, all_least_same case slots rents case.tasks e)

-- with a machine more
least_on_more : (case : Case) (slots rents : List ℕ) (rent : ℕ) (task : Demand) (m : ℕ) → m ≤ length rents
    → least_on (with_slots case slots) (rents ++ rent ∷ []) task m ≡ least_on case rents task m
least_on_more case slots rents rent task zero l = refl
least_on_more case slots rents rent task (suc m) l =
    let before : least_on (with_slots case slots) (rents ++ rent ∷ []) task m ≡ least_on case rents task m =
    least_on_more case slots rents rent task m (omega arith) in
    let same : slice_index (rents ++ rent ∷ []) m ≡ slice_index rents m =
    get_or_append_left rents (rent ∷ []) 0 m (omega arith) in
    omega (arith, before, same)

least_more : (case : Case) (slots : ℕ) (rents : List ℕ) (rent : ℕ) (task : Demand) → length rents ≡ length case.slots
    → least_paid case rents task ≤ least_paid (with_slots case (case.slots ++ slots ∷ [])) (rents ++ rent ∷ []) task
    + (least_paid case rents task - (task_cost case task (On (length case.slots)) + rent))
least_more case slots rents rent task e =
    let more : List ℕ = case.slots ++ slots ∷ [] in
    let all : length more ≡ suc (length case.slots) = omega (arith, length-append case.slots (slots ∷ [])) in
    let last : slice_index (rents ++ rent ∷ []) (length case.slots) ≡ rent =
    get_or_at rents rent [] 0 (length case.slots) e in
    omega (
      arith,
      ap (λ m. least_on (with_slots case more) (rents ++ rent ∷ []) task m) all,
      least_on_more case more rents rent task (length case.slots) (omega arith),
      last,
    )

all_least_machine : (case : Case) (slots : ℕ) (rents : List ℕ) (rent : ℕ) (tasks : List Demand)
    → length rents ≡ length case.slots
    → all_least case rents tasks
    ≤ all_least (with_slots case (case.slots ++ slots ∷ [])) (rents ++ rent ∷ []) tasks + drawn case rents rent tasks
all_least_machine case slots rents rent [] e = omega arith
all_least_machine case slots rents rent (task ∷ tasks) e =
    omega (arith, least_more case slots rents rent task e, all_least_machine case slots rents rent tasks e)

gains_machine : (case : Case) (slots : ℕ) (rents : List ℕ) (rent : ℕ) → length rents ≡ length case.slots
    → gains (with_slots case (case.slots ++ slots ∷ [])) (rents ++ rent ∷ [])
    ≡ gains case rents + gain case.spread rent slots
gains_machine case slots rents rent e =
    let more : List ℕ = case.slots ++ slots ∷ [] in
    let m : ℕ = length case.slots in
    let f : ℕ → ℕ = λ j. gain case.spread (slice_index (rents ++ rent ∷ []) j) (slice_index more j) in
    let g : ℕ → ℕ = λ j. gain case.spread (slice_index rents j) (slice_index case.slots j) in
    let all : length more ≡ suc m = omega (arith, length-append case.slots (slots ∷ [])) in
    let same : (j : ℕ) → j < m → f j ≡ g j =
    λ j l. ap (λ r. gain case.spread r (slice_index more j)) (get_or_append_left rents (rent ∷ []) 0 j (omega arith))
    ∙ ap (λ n. gain case.spread (slice_index rents j) n) (get_or_append_left case.slots (slots ∷ []) 0 j l) in
    let last : f m ≡ gain case.spread rent slots =
    ap (λ r. gain case.spread r (slice_index more m)) (get_or_at rents rent [] 0 m e)
    ∙ ap (λ n. gain case.spread rent n) (get_or_at case.slots slots [] 0 m refl) in
    ap (total f) all ∙ omega (arith, total_same f g m same, last)

pub one_more_machine : OneMoreMachineSaves
one_more_machine case rents placement shows e slots rent other legal =
    omega (
      arith,
      shows,
      bound (with_slots case (case.slots ++ slots ∷ [])) (rents ++ rent ∷ []) other legal,
      all_least_machine case slots rents rent case.tasks e,
      gains_machine case slots rents rent e,
    )

-- what is drawn over one more task
drawn_next : (case : Case) (rents : List ℕ) (rent : ℕ) (tasks : List Demand) (i : ℕ) → i < length tasks
    → drawn case rents rent (take (suc i) tasks) ≡ drawn case rents rent (take i tasks)
    + (least_paid case rents (demand_in tasks i) - (task_cost case (demand_in tasks i) (On (length case.slots)) + rent))
drawn_next case rents rent [] i l = absurd (omega arith)
drawn_next case rents rent (task ∷ tasks) zero l = omega arith
drawn_next case rents rent (task ∷ tasks) (suc i) l =
    omega (arith, drawn_next case rents rent tasks i (omega arith))

pub drawn_more : (case : Case) (rents : List ℕ) (rent : ℕ) (tasks : List Demand) (i : ℕ) → i < length tasks
    → drawn case rents rent (take (i + 1) tasks) ≡ drawn case rents rent (take i tasks)
    + (least_paid case rents (demand_in tasks i) - (task_cost case (demand_in tasks i) (On (length case.slots)) + rent))
drawn_more case rents rent tasks i l =
    let e : i + 1 ≡ suc i = omega arith in
    ap (λ n. drawn case rents rent (take n tasks)) e ∙ drawn_next case rents rent tasks i l

-- the gains where one machine has other slots
total_set : (f g : ℕ → ℕ) (n p : ℕ) → p < n → ((i : ℕ) → i < n → (i ≡ p → ⊥) → f i ≡ g i)
    → total f n + g p ≡ total g n + f p
total_set f g zero p l h = absurd (omega arith)
total_set f g (suc n) p l h =
    ⊎_elim (λ (q : p ≡ n).
    let same : total f n ≡ total g n = total_same f g n (λ i m. h i (omega arith) (λ e. omega arith)) in
    omega (arith, same, ap f q, ap g q))
    (λ (ne : p ≡ n → ⊥).
    omega (
      arith,
      total_set f g n p (omega arith) (λ i m other. h i (omega arith) other),
      h n (omega arith) (λ e. ne (sym e)),
    ))
    (cases_eq p n)

pub gains_set : (case : Case) (rents : List ℕ) (place slots : ℕ) → place < length case.slots
    → gains (with_slots case (set case.slots place slots)) rents
    + gain case.spread (slice_index rents place) (slice_index case.slots place)
    ≡ gains case rents + gain case.spread (slice_index rents place) slots
gains_set case rents place slots l =
    let m : ℕ = length case.slots in
    let f : ℕ → ℕ = λ j. gain case.spread (slice_index rents j) (slice_index (set case.slots place slots) j) in
    let g : ℕ → ℕ = λ j. gain case.spread (slice_index rents j) (slice_index case.slots j) in
    let here : f place ≡ gain case.spread (slice_index rents place) slots =
    ap (λ n. gain case.spread (slice_index rents place) n) (get_or-set_same case.slots place slots 0 l) in
    let other : (j : ℕ) → j < m → (j ≡ place → ⊥) → f j ≡ g j =
    λ j k ne. ap (λ n. gain case.spread (slice_index rents j) n) (get_or-set_other case.slots place j slots 0 ne) in
    let all : total f (length (set case.slots place slots)) ≡ total f m =
    ap (total f) (length-set case.slots place slots) in
    omega (arith, all, total_set f g m place l other, here)

-- a slot less gains no more
pub gain_less : (spread rent slots : ℕ) → gain spread rent (slots - 1) ≤ gain spread rent slots
gain_less spread rent zero = omega arith
gain_less spread rent (suc slots) =
    let e : suc slots - 1 ≡ slots = omega arith in
    subst (λ n. gain spread rent n ≤ gain spread rent (suc slots)) (sym e) (omega arith)

-- other slots of one machine
pub slots_of_one : (case : Case) (rents : List ℕ) (placement : List Choice) → OtherSlotsCost → Show case rents placement
    → (place slots : ℕ) → place < length case.slots
    → (other : List Choice) → IsLegal (with_slots case (set case.slots place slots)) other
    → placement_cost case placement + gain case.spread (slice_index rents place) (slice_index case.slots place)
    ≤ placement_cost (with_slots case (set case.slots place slots)) other
    + gain case.spread (slice_index rents place) slots
slots_of_one case rents placement law shows place slots l other legal =
    omega (
      arith,
      law case rents placement shows (set case.slots place slots) (length-set case.slots place slots) other legal,
      gains_set case rents place slots l,
    )
