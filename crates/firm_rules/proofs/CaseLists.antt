-- Lists that grow by what stands at a place, places that were looked up, and parts of costs.
use Rattle.std.proofs.Common.{◌≡◌, ℕ, ◌+◌, ◌<◌, ◌≤◌, Bool, true, false, cond, not, ◌&&◌, List, [], ◌∷◌, ◌++◌, length}
use Rattle.std.proofs.Common.{map, take, Some, None, sym, ap, subst, ◌∙◌, arith, ⊎_elim}
use Rattle.std.proofs.Common.{zero, suc, set, drop, refl, ◌||◌, eqb, append_assoc}
use Rattle.std.specs.Prelude.{position, nat_lt, slice_get, slice_index_or}
use Rattle.std.proofs.Math.Seq.{drop-cons}
use Rattle.std.specs.List.{All, flat_map, list_all, position_or_len}
use Rattle.std.proofs.Math.Bool.{and-true}
use Rattle.std.proofs.lemmas.Bool.{cases_lt, eq-eqb, le-ltb, ltb-false}
use Rattle.std.proofs.lemmas.List.{take_all, take_more, map_push, get_or-map, get_or_past, length-map}
use Rattle.std.proofs.lemmas.List.Elements.{All-push}
use Rattle.std.proofs.lemmas.List.Folds.{list_all-append}
use Rattle.std.proofs.lemmas.List.Sums.{prefix_len-le-length}
use Rattle.std.proofs.lemmas.Option.{slice_get_within, slice_get-get_or, get_or_from_slice_get}
use Rattle.firm_rules.specs.declared.book.Job.{Job}
use Rattle.firm_rules.specs.declared.rounds.Choice.{Choice}
use Rattle.firm_rules.specs.declared.rounds.Choice.TheVariants.{On, Wait}
use Rattle.firm_rules.specs.Book.{TenantRows}
use Rattle.firm_rules.specs.Placement.{Demand, Case, choice_at, comes_before, numbers, rank, task_cost, tasks_cost}
use Rattle.firm_rules.specs.ChoiceCost.{churn_cost, remote_cost, wait_cost}
use Rattle.firm_rules.specs.Round.{weight_at, zipped}
use Rattle.firm_rules.proofs.TaskWrites.{written, written-next, written-more}

found_at : (found : Bool) (n place : ℕ) → cond found (Some n) None ≡ Some place → n ≡ place
found_at true n place e = cc
found_at false n place e = absurd cc

not_found : (found : Bool) (n : ℕ) → cond found (Some n) None ≡ None → found ≡ false
not_found true n e = absurd cc
not_found false n e = refl

-- where a test passes first, or past the last where it passes nowhere
module _ {X : Type 0} (p : X → Bool) (xs : List X) where
  pub first_found : (place : ℕ) → position p xs ≡ Some place → place ≡ position_or_len p xs
  first_found place e =
      sym (found_at (nat_lt (position_or_len p xs) (length xs)) (position_or_len p xs) place e)

  pub none_found : position p xs ≡ None → length xs ≡ position_or_len p xs
  none_found e =
      let far : length xs ≤ position_or_len p xs =
      ltb-false (position_or_len p xs) (length xs)
      (not_found (nat_lt (position_or_len p xs) (length xs)) (position_or_len p xs) e) in
      omega (arith, far, prefix_len-le-length (λ (x : X). not (p x)) xs)

-- what holds of all holds of that at a place
pub known : {X : Type 0} (P : X → Type 0) (xs : List X) (i : ℕ) (x : X) → All P xs → slice_get xs i ≡ Some x → P x
known P xs i x all at = subst P (get_or_from_slice_get xs i x x at) (all i x (slice_get_within xs i x at))

-- one more of a list that is read by `f`
map_more : {X Y : Type 0} (f : X → Y) (xs : List X) (i : ℕ) (x : X) → slice_get xs i ≡ Some x
    → map f (take (i + 1) xs) ≡ map f (take i xs) ++ f x ∷ []
map_more {X} f xs i x at =
    ap (map f) (take_more xs i x (slice_get_within xs i x at)
    ∙ ap (λ (y : X). take i xs ++ y ∷ []) (get_or_from_slice_get xs i x x at))
    ∙ map_push f (take i xs) x

pub grown_by : {X Y : Type 0} (f : X → Y) (xs : List X) (i : ℕ) (x : X) (ys new : List Y) (y : Y)
    → slice_get xs i ≡ Some x → ys ≡ map f (take i xs) → new ≡ ys ++ y ∷ [] → y ≡ f x → new ≡ map f (take (i + 1) xs)
grown_by {X} {Y} f xs i x ys new y at before is read =
    is ∙ (ap (λ (l : List Y). l ++ y ∷ []) before ∙ (ap (λ (z : Y). map f (take i xs) ++ z ∷ []) read
    ∙ sym (map_more f xs i x at)))

-- once all are read
pub grown_all : {X Y : Type 0} (f : X → Y) (xs : List X) (ys : List Y) (i n : ℕ) → ys ≡ map f (take i xs)
    → n ≡ length xs → n ≤ i → ys ≡ map f xs
grown_all f xs ys i n made all past = made ∙ ap (map f) (take_all i xs (omega (arith, all, past)))

-- a place below the count is read
pub read_below : {X : Type 0} (xs : List X) (i n : ℕ) (d : X) → i < n → n ≡ length xs
    → slice_get xs i ≡ Some (slice_index_or xs i d)
read_below xs i n d below all = slice_get-get_or xs i d (omega (arith, below, all))

-- one more is pushed where there is room for 4
pub word-small : 24 < 9223372036854775808
word-small = omega arith

pub room-for_fourth : (now i n : ℕ) → now ≡ i → i < n → n ≤ 4 → now < 4
room-for_fourth now i n is below few = omega (arith, is, below, few)

pub one-more : (now before i : ℕ) → now ≡ before + 1 → before ≡ i → now ≡ i + 1
one-more now before i more is = more ∙ ap (λ (n : ℕ). n + 1) is

-- what holds of all holds with one more
pub all-pushed : {X : Type 0} (P : X → Type 0) (now new : List X) (x : X) → new ≡ now ++ x ∷ [] → All P now → P x
    → All P new
all-pushed P now new x more before here = subst (All P) (sym more) (All-push P now x before here)

-- no weight is above a million
pub weight-le : (rows : TenantRows) (place : ℕ)
    → All (λ (job : Job). (1 ≤ job.weight) × (job.weight ≤ 1000000)) rows.jobs → weight_at rows place ≤ 1000000
weight-le rows place weights =
    ⊎_elim (λ (l : place < length rows.jobs).
    let nobody : Job = record { name = []; weight = 0 } in
    let is : weight_at rows place ≡ (slice_index_or rows.jobs place nobody).weight =
    get_or-map (λ (job : Job). job.weight) rows.jobs place nobody 0 l in
    omega (arith, is, (weights place nobody l).1))
    (λ (l : length rows.jobs ≤ place).
    let past : weight_at rows place ≡ 0 =
    get_or_past (map (λ (job : Job). job.weight) rows.jobs) place 0
    (omega (arith, length-map rows.jobs (λ (job : Job). job.weight))) in
    omega (arith, past))
    (cases_lt place (length rows.jobs))

-- what holds of the numbers below n and of n
pub room_more : (f : ℕ → Bool) (n : ℕ) → (list_all f (numbers n) && f n) ≡ list_all f (numbers (n + 1))
room_more f n =
    let e : suc n ≡ n + 1 = omega arith in
    ap (λ b. list_all f (numbers n) && b) (sym (and-true (f n)))
    ∙ sym (list_all-append f (numbers n) (n ∷ []))
    ∙ ap (λ m. list_all f (numbers m)) e

-- what a choice costs a task, in its parts
pub cost_split : (case : Case) (task : Demand) (choice : Choice)
    → task_cost case task choice
    ≡ remote_cost case task choice + wait_cost task choice + churn_cost case task choice
cost_split case task (On j) = omega arith
cost_split case task Wait = omega arith

-- one more choice of a placement
abbrev demand_in : List Demand → ℕ → Demand
demand_in tasks i = slice_index_or tasks i (record { home = None; preferred = []; delay = 0; job = 0 })

tasks_cost_next : (case : Case) (tasks : List Demand) (placement : List Choice) (i : ℕ) → i < length tasks
    → length placement ≡ length tasks
    → tasks_cost case (take (suc i) tasks) (take (suc i) placement)
    ≡ tasks_cost case (take i tasks) (take i placement) + task_cost case (demand_in tasks i) (choice_at placement i)
tasks_cost_next case [] placement i l e = absurd (omega arith)
tasks_cost_next case (task ∷ tasks) [] i l e = absurd (omega arith)
tasks_cost_next case (task ∷ tasks) (choice ∷ placement) zero l e = omega arith
tasks_cost_next case (task ∷ tasks) (choice ∷ placement) (suc i) l e =
    omega (arith, tasks_cost_next case tasks placement i (omega arith) (omega arith))

pub tasks_cost_more : (case : Case) (tasks : List Demand) (placement : List Choice) (i : ℕ) → i < length tasks
    → length placement ≡ length tasks
    → tasks_cost case (take (i + 1) tasks) (take (i + 1) placement)
    ≡ tasks_cost case (take i tasks) (take i placement) + task_cost case (demand_in tasks i) (choice_at placement i)
tasks_cost_more case tasks placement i l e =
    let q : i + 1 ≡ suc i = omega arith in
    ap (λ n. tasks_cost case (take n tasks) (take n placement)) q ∙ tasks_cost_next case tasks placement i l e

-- what is left of a list begins with what stands there
pub left_from : {X : Type 0} (xs : List X) (i : ℕ) (d : X) → i < length xs
    → drop i xs ≡ slice_index_or xs i d ∷ drop (i + 1) xs
left_from {X} xs i d below =
    let next : suc i ≡ i + 1 = omega arith in
    drop-cons xs i d below ∙ ap (λ (n : ℕ). slice_index_or xs i d ∷ drop n xs) next

-- one more of the elements of a list has been made anew from what it was
pub rewritten : {X : Type 0} (f : X → X) (old now next : List X) (i : ℕ) (d : X) → now ≡ written (map f old) old i
    → i < length old → next ≡ set now i (f (slice_index_or now i d)) → next ≡ written (map f old) old (i + 1)
rewritten {X} f old now next i d now-is below next-is =
    let same : length (map f old) ≡ length old = length-map old f in
    let here : slice_index_or now i d ≡ slice_index_or old i d =
    ap (λ (l : List X). slice_index_or l i d) now-is ∙ written-next (map f old) old i same below d in
    next-is ∙ ap (λ (l : List X). set l i (f (slice_index_or now i d))) now-is
    ∙ ap (λ (x : X). set (written (map f old) old i) i (f x)) here
    ∙ written-more (map f old) old i (f d) (f (slice_index_or old i d)) same below (get_or-map f old i d (f d) below)

-- a task whose choices rank the same leaves the order to those behind it
pub same_rank : (machines : ℕ) (tasks : List Demand) (p q : List Choice) (i : ℕ) → i < length tasks → i < length p
    → i < length q
    → rank machines (demand_in tasks i).home (slice_index_or p i (On 0))
    ≡ rank machines (demand_in tasks i).home (slice_index_or q i (On 0))
    → comes_before machines (drop (i + 1) tasks) (drop (i + 1) p) (drop (i + 1) q)
    ≡ comes_before machines (drop i tasks) (drop i p) (drop i q)
same_rank machines tasks p q i in_tasks in_p in_q same =
    let none : Demand = record { home = None; preferred = []; delay = 0; job = 0 } in
    let task : Demand = demand_in tasks i in
    let a : Choice = slice_index_or p i (On 0) in
    let b : Choice = slice_index_or q i (On 0) in
    let rest : Bool = comes_before machines (drop (i + 1) tasks) (drop (i + 1) p) (drop (i + 1) q) in
    let one : ℕ = rank machines task.home a in
    let other : ℕ = rank machines task.home b in
    sym (ap (λ (l : List Demand). comes_before machines l (drop i p) (drop i q)) (left_from tasks i none in_tasks)
    ∙ ap (λ (l : List Choice). comes_before machines (task ∷ drop (i + 1) tasks) l (drop i q))
    (left_from p i (On 0) in_p)
    ∙ ap (λ (l : List Choice). comes_before machines (task ∷ drop (i + 1) tasks) (a ∷ drop (i + 1) p) l)
    (left_from q i (On 0) in_q)
    ∙ ap (λ (less : Bool). less || (eqb one other && rest)) (le-ltb one other (omega (arith, same)))
    ∙ ap (λ (equal : Bool). false || (equal && rest)) (eq-eqb one other same))

-- one more task's changes
pub changes_next : {X A B : Type 0} (f : A → B → List X) (before now : List X) (xs : List A) (ys : List B) (i : ℕ)
    (d : A) (e : B) → i < length xs → i < length ys → now ≡ before ++ f (slice_index_or xs i d) (slice_index_or ys i e)
    → now ++ flat_map (λ some. some) (zipped f (drop (i + 1) xs) (drop (i + 1) ys))
    ≡ before ++ flat_map (λ some. some) (zipped f (drop i xs) (drop i ys))
changes_next {X} {A} {B} f before now xs ys i d e in_xs in_ys is =
    let x : A = slice_index_or xs i d in
    let y : B = slice_index_or ys i e in
    let rest : List X = flat_map (λ some. some) (zipped f (drop (i + 1) xs) (drop (i + 1) ys)) in
    ap (λ (l : List X). l ++ rest) is ∙ append_assoc before (f x y) rest
    ∙ sym (ap (λ (l : List A). before ++ flat_map (λ some. some) (zipped f l (drop i ys))) (left_from xs i d in_xs)
    ∙ ap (λ (l : List B). before ++ flat_map (λ some. some) (zipped f (x ∷ drop (i + 1) xs) l))
    (left_from ys i e in_ys))
