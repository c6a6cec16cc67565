-- Steps of a loop that changes the elements of a list in turn.
use mathlib.Core.List.{map-map}
use Rattle.std.proofs.Common.{◌≡◌, ℕ, zero, suc, ◌+◌, ◌<◌, ◌≤◌, true, false, not, Option, Some, None, List, []}
use Rattle.std.proofs.Common.{◌∷◌, map, length, get_or, bytes_eq, IfSome, arith, refl, sym, ap, ap₂, ◌∙◌, subst}
use Rattle.std.specs.List.{All, position_or_len}
use Rattle.std.proofs.lemmas.Bool.{cond-true, cond-false, cond_both, not-true, false≢true, eqb-true}
use Rattle.std.proofs.lemmas.List.Sums.{passes_at_first}
use Rattle.std.proofs.lemmas.Slice.Eq.{bytes_eq-Decides}
use Rattle.std.proofs.lemmas.List.{get_or-map, length-map}
use Rattle.std.proofs.lemmas.List.Elements.{All-map, filter_passes}
use Rattle.firm_rules.specs.Book.{TenantRows, machine_names, name_at, is_on, forgetting, evicted}
use Rattle.firm_rules.specs.Placement.{IsPlace, stays}
use Rattle.firm_rules.specs.Preferences.{without_preference}
use Rattle.firm_rules.specs.Round.{machine_place, task_after, rows_after, zipped}
use Rattle.firm_rules.specs.declared.book.Machine.{Machine}
use Rattle.firm_rules.specs.declared.book.Task.{Task}
use Rattle.firm_rules.specs.declared.rounds.Choice.{Choice}
use Rattle.firm_rules.specs.declared.rounds.Choice.TheVariants.{On, Wait}
use Rattle.firm_graph.specs.inner.Steps.{update_at, placed, with_task_at, changed_first, settled_first, no_task}
use Rattle.firm_graph.specs.inner.Steps.{task_at, forgetting_rows, thrown_out, thrown_out_first}
use Rattle.firm_graph.proofs.Lookups.{at-first, at-later}

module _ {X : Type 0} (f : ℕ → X → X) where
  pub length-first : (i n : ℕ) (xs : List X) → length (changed_first f i n xs) ≡ length xs
  length-first i zero xs = refl
  length-first i (suc n) [] = refl
  length-first i (suc n) (x ∷ xs) = omega (arith, length-first (i + 1) n xs)

  -- the next element is as it was
  pub first-read : (i n : ℕ) (xs : List X) (d : X) → get_or (changed_first f i n xs) n d ≡ get_or xs n d
  first-read i zero xs d = refl
  first-read i (suc n) [] d = refl
  first-read i (suc n) (x ∷ xs) d = first-read (i + 1) n xs d

  first-suc : (i n : ℕ) (xs : List X) (d : X) (g : X → X) → n < length xs → g (get_or xs n d) ≡ f (i + n)
      (get_or xs n d)
      → update_at (changed_first f i n xs) n g ≡ changed_first f i (suc n) xs
  first-suc i n [] d g below e = absurd (omega arith)
  first-suc i zero (x ∷ xs) d g below e =
      ap (λ (y : X). y ∷ xs) (e ∙ ap (λ (k : ℕ). f k x) (let z : i + 0 ≡ i = omega arith in z))
  first-suc i (suc n) (x ∷ xs) d g below e =
      ap (λ (l : List X). f i x ∷ l)
      (first-suc (i + 1) n xs d g (omega arith)
      (e ∙ ap (λ (k : ℕ). f k (get_or xs n d)) (let z : i + suc n ≡ i + 1 + n = omega arith in z)))

  pub first-more : (n : ℕ) (xs : List X) (d : X) (g : X → X) → n < length xs → g (get_or xs n d) ≡ f n (get_or xs n d)
      → update_at (changed_first f 0 n xs) n g ≡ changed_first f 0 (n + 1) xs
  first-more n xs d g below e =
      first-suc 0 n xs d g below (e ∙ ap (λ (k : ℕ). f k (get_or xs n d)) (let z : n ≡ 0 + n = omega arith in z))
      ∙ ap (λ (k : ℕ). changed_first f 0 k xs) (let z : suc n ≡ n + 1 = omega arith in z)

  stays-suc : (i n : ℕ) (xs : List X) (d : X) → n < length xs → f (i + n) (get_or xs n d) ≡ get_or xs n d
      → changed_first f i (suc n) xs ≡ changed_first f i n xs
  stays-suc i n [] d below e = absurd (omega arith)
  stays-suc i zero (x ∷ xs) d below e =
      ap (λ (y : X). y ∷ xs) (ap (λ (k : ℕ). f k x) (let z : i ≡ i + 0 = omega arith in z) ∙ e)
  stays-suc i (suc n) (x ∷ xs) d below e =
      ap (λ (l : List X). f i x ∷ l)
      (stays-suc (i + 1) n xs d (omega arith) (ap (λ (k : ℕ). f k (get_or xs n d))
      (let z : i + 1 + n ≡ i + suc n = omega arith in z) ∙ e))

  pub first-stays : (n : ℕ) (xs : List X) (d : X) → n < length xs → f n (get_or xs n d) ≡ get_or xs n d
      → changed_first f 0 (n + 1) xs ≡ changed_first f 0 n xs
  first-stays n xs d below e =
      ap (λ (k : ℕ). changed_first f 0 k xs) (let z : n + 1 ≡ suc n = omega arith in z)
      ∙ stays-suc 0 n xs d below (ap (λ (k : ℕ). f k (get_or xs n d)) (let z : 0 + n ≡ n = omega arith in z) ∙ e)

pub first-all : {X : Type 0} (g : X → X) (i n : ℕ) (xs : List X) → length xs ≤ n
    → changed_first (λ _. g) i n xs ≡ map g xs
first-all g i zero [] h = refl
first-all g i zero (x ∷ xs) h = absurd (omega arith)
first-all g i (suc n) [] h = refl
first-all {X} g i (suc n) (x ∷ xs) h = ap (λ (l : List X). g x ∷ l) (first-all g (i + 1) n xs (omega arith))

pub first-zipped : {A C : Type 0} (f : A → C → A) (h : ℕ → C) (i n : ℕ) (xs : List A) (cs : List C) (d : C)
    → length cs ≡ length xs → length xs ≤ n
    → ((k : ℕ) → k < length cs → h (i + k) ≡ get_or cs k d) → changed_first (λ k x. f x (h k)) i n xs ≡ zipped f xs cs
first-zipped f h i zero [] [] d e all at = refl
first-zipped f h i (suc n) [] [] d e all at = refl
first-zipped f h i n [] (c ∷ cs) d e all at = absurd (omega arith)
first-zipped f h i n (x ∷ xs) [] d e all at = absurd (omega arith)
first-zipped f h i zero (x ∷ xs) (c ∷ cs) d e all at = absurd (omega arith)
first-zipped {A} {C} f h i (suc n) (x ∷ xs) (c ∷ cs) d e all at =
    let P : ℕ → C → Type 0 = λ (k : ℕ) (b : C). h k ≡ b in
    ap₂ (λ (y : A) (l : List A). y ∷ l) (ap (f x) (at-first P d i c cs at))
    (first-zipped f h (i + 1) n xs cs d (omega arith) (omega arith) (at-later P d i c cs at))

-- a task that forgot a machine is where it was, and of the same job
pub record HasForgotten (rows old : TenantRows) (place : ℕ) : Type 0 where
  pub below : place < length rows.tasks
  pub machine_is : (name : List ℕ) → is_on name (task_at rows place).machine ≡ is_on name (task_at old place).machine
  pub job_is : (task_at rows place).job ≡ (task_at old place).job
  pub jobs : rows.jobs ≡ old.jobs
  pub limits : rows.limits ≡ old.limits

pub forgotten-at : (rows old : TenantRows) (name : List ℕ) (place : ℕ) → rows ≡ forgetting_rows old name
    → place < length old.tasks → HasForgotten rows old place
forgotten-at rows old name place e below =
    let read : task_at rows place ≡ forgetting name (task_at old place) =
    ap (λ (r : TenantRows). task_at r place) e
    ∙ get_or-map (forgetting name) old.tasks place no_task no_task below in
    record {
      below = omega (arith, below, ap (λ (r : TenantRows). length r.tasks) e, length-map old.tasks (forgetting name));
      machine_is = λ other. ap (λ (t : Task). is_on other t.machine) read;
      job_is = ap (λ (t : Task). t.job) read;
      jobs = ap (λ (r : TenantRows). r.jobs) e;
      limits = ap (λ (r : TenantRows). r.limits) e;
    }

-- the rows, in a step of the loop that throws tasks out
pub throw-yes : (rows : TenantRows) (name : List ℕ) (n : ℕ) → n < length rows.tasks
    → is_on name (task_at rows n).machine ≡ true
    → with_task_at (thrown_out_first rows name n) n None 0 ≡ thrown_out_first rows name (n + 1)
throw-yes rows name n below t =
    ap (λ (l : List Task). let s : TenantRows = record rows { tasks = l } in s)
    (first-more (λ (_ : ℕ). thrown_out name) n rows.tasks no_task (placed None 0) below
    (sym (cond-true (is_on name (task_at rows n).machine) (placed None 0 (task_at rows n)) (task_at rows n) t)))

pub throw-no : (rows : TenantRows) (name : List ℕ) (n : ℕ) → n < length rows.tasks
    → is_on name (task_at rows n).machine ≡ false
    → thrown_out_first rows name (n + 1) ≡ thrown_out_first rows name n
throw-no rows name n below f =
    ap (λ (l : List Task). let s : TenantRows = record rows { tasks = l } in s)
    (first-stays (λ (_ : ℕ). thrown_out name) n rows.tasks no_task below
    (cond-false (is_on name (task_at rows n).machine) (placed None 0 (task_at rows n)) (task_at rows n) f))

-- tasks that forget a machine, and are then thrown out of it, are evicted
pub throw-end : (rows : TenantRows) (name : List ℕ) (n : ℕ) → length rows.tasks ≤ n
    → thrown_out_first (forgetting_rows rows name) name n ≡ record rows { tasks = map (evicted name) rows.tasks }
throw-end rows name n all =
    ap (λ (l : List Task). let s : TenantRows = record rows { tasks = l } in s)
    (first-all (thrown_out name) 0 n (map (forgetting name) rows.tasks)
    (omega (arith, all, length-map rows.tasks (forgetting name)))
    ∙ map-map (thrown_out name) (forgetting name) rows.tasks)

-- no task runs on a machine whose tasks were evicted, or prefers it
evicted-off : (name : List ℕ) (task : Task) → is_on name (evicted name task).machine ≡ false
evicted-off name task =
    cond_both (is_on name task.machine) (placed None 0 (forgetting name task)) (forgetting name task)
    (λ (x : Task). is_on name x.machine ≡ false) (λ _. refl) (λ f. f)

forgotten : (name : List ℕ) (preferred : List (List ℕ))
    → All (λ m. bytes_eq name m ≡ false) (without_preference name preferred)
forgotten name preferred k d below =
    not-true (bytes_eq name (get_or (without_preference name preferred) k d))
    (filter_passes (λ other. not (bytes_eq name other)) preferred k d below)

evicted-loose : (name : List ℕ) (task : Task) → All (λ m. bytes_eq name m ≡ false) (evicted name task).preferred
evicted-loose name task =
    cond_both (is_on name task.machine) (placed None 0 (forgetting name task)) (forgetting name task)
    (λ (x : Task). All (λ m. bytes_eq name m ≡ false) x.preferred) (λ _. forgotten name task.preferred)
    (λ _. forgotten name task.preferred)

pub all-out : (name : List ℕ) (tasks : List Task)
    → All (λ task. is_on name task.machine ≡ false) (map (evicted name) tasks)
all-out name tasks =
    All-map (λ (x : Task). is_on name x.machine ≡ false) (evicted name) tasks
    (λ k d _. evicted-off name (get_or tasks k d))

pub all-loose : (name : List ℕ) (tasks : List Task)
    → All (λ task. All (λ m. bytes_eq name m ≡ false) task.preferred) (map (evicted name) tasks)
all-loose name tasks =
    All-map (λ (x : Task). All (λ m. bytes_eq name m ≡ false) x.preferred) (evicted name) tasks
    (λ k d _. evicted-loose name (get_or tasks k d))

-- the rows, in a step of the loop that settles a round
pub settle-step : (rows : TenantRows) (choices : List Choice) (n : ℕ) (choice : Choice) (home : Option (List ℕ))
    (waited : ℕ) → n < length rows.tasks
    → get_or choices n Wait ≡ choice
    → home ≡ (task_after rows (task_at rows n) choice).machine
    → waited ≡ (task_after rows (task_at rows n) choice).waited
    → with_task_at (settled_first rows choices n) n home waited ≡ settled_first rows choices (n + 1)
settle-step rows choices n choice home waited below is h w =
    let task : Task = task_at rows n in
    let after : placed home waited task ≡ task_after rows task (get_or choices n Wait) =
    ap₂ (λ (a : Option (List ℕ)) (b : ℕ). placed a b task) h w ∙ same rows task choice ∙ ap (task_after rows task)
    (sym is) in
    ap (λ (l : List Task). let s : TenantRows = record rows { tasks = l } in s)
    (first-more (λ (i : ℕ) (t : Task). task_after rows t (get_or choices i Wait)) n rows.tasks no_task
    (placed home waited) below after)
  where
    same : (rows : TenantRows) (task : Task) (choice : Choice) → placed (task_after rows task choice).machine
        (task_after rows task choice).waited task ≡ task_after rows task choice
    same rows task (On j) = refl
    same rows task Wait = refl

-- a round leaves a task as it is that stays where it runs
pub settled-same : (rows : TenantRows) (task : Task) (machine : Option (List ℕ)) (choice : Choice)
    → machine ≡ task.machine → IfSome machine (λ _. task.waited ≡ 0) → IsPlace (length rows.machines) choice
    → stays (machine_place rows machine) choice ≡ true → task_after rows task choice ≡ task
settled-same rows task machine Wait is none there on = let no : false ≡ true = on in absurd (false≢true no)
settled-same rows task None (On j) is none there on = let no : false ≡ true = on in absurd (false≢true no)
settled-same rows task (Some name) (On j) is none there on =
    let names : List (List ℕ) = machine_names rows in
    let at : position_or_len (bytes_eq name) names ≡ j = eqb-true (position_or_len (bytes_eq name) names) j on in
    let below : position_or_len (bytes_eq name) names < length names =
    omega (arith, at, there, length-map rows.machines (λ (m : Machine). m.name)) in
    let found : bytes_eq name (name_at names j) ≡ true =
    subst (λ (k : ℕ). bytes_eq name (name_at names k) ≡ true) at (passes_at_first (bytes_eq name) names [] below) in
    let named : name ≡ name_at names j = (bytes_eq-Decides name (name_at names j)).0 found in
    ap₂ (λ (m : Option (List ℕ)) (w : ℕ). placed m w task) (ap (λ (n : List ℕ). Some n) (sym named) ∙ is) (sym none)

pub settle-same : (rows : TenantRows) (choices : List Choice) (n : ℕ) → n < length rows.tasks
    → task_after rows (task_at rows n) (get_or choices n Wait) ≡ task_at rows n
    → settled_first rows choices (n + 1) ≡ settled_first rows choices n
settle-same rows choices n below same =
    ap (λ (l : List Task). let s : TenantRows = record rows { tasks = l } in s)
    (first-stays (λ (i : ℕ) (t : Task). task_after rows t (get_or choices i Wait)) n rows.tasks no_task below same)

pub settle-end : (rows : TenantRows) (choices : List Choice) (n : ℕ) → length choices ≡ length rows.tasks
    → length rows.tasks ≤ n → settled_first rows choices n ≡ rows_after rows choices
settle-end rows choices n e all =
    ap (λ (l : List Task). let s : TenantRows = record rows { tasks = l } in s)
    (first-zipped (task_after rows) (λ (k : ℕ). get_or choices k Wait) 0 n rows.tasks choices Wait e all
    (λ k below. ap (λ (i : ℕ). get_or choices i Wait) (let z : 0 + k ≡ k = omega arith in z)))
