-- What keeps the numbers of a case in their ranges.
use Rattle.std.proofs.Common.{◌≡◌, ℕ, zero, suc, ◌-◌, ◌<◌, ◌≤◌, true, false, not, cond, eqb, ltb, List, []}
use Rattle.std.proofs.Common.{◌∷◌, ◌++◌, length, map, filter, remove, set, take, All, IfSome, Option, None}
use Rattle.std.proofs.Common.{Some, ⊎_elim}
use Rattle.std.proofs.Common.{true≢false, refl, sym, ap, subst, ◌∙◌, arith}
use Rattle.std.specs.Prelude.{slice_index_or}
use Rattle.std.proofs.lemmas.Bool.{cases_lt, cond-true, cond-false, lt-ltb, le-ltb, eq-eqb}
use Rattle.std.proofs.lemmas.List.{length-map, length-set, length_push, map-set, map_push, get_or-map}
use Rattle.std.proofs.lemmas.List.Elements.{All-nil, All-cons, All-head, All-tail, All-map, All-push, All-set}
use Rattle.indexmap.proofs.SetLemmas.{map-remove}
use Rattle.firm_rules.specs.Limits.{TenantLimits}
use Rattle.firm_rules.specs.Placement.{Case, Demand as RoundDemand}
use Rattle.firm_rules.specs.inner.Demands.{seen, case_seen, Fits, CaseFits, placed, place_without, home_without}
use Rattle.firm_rules.specs.inner.Demands.{preferred_without, without_machine_at, without_job_at}
use Rattle.firm_rules.specs.declared.demands.Demand.{Demand}
use Rattle.firm_rules.proofs.NamedRows.{length-filter-le}

All-remove : {X : Type 0} (P : X → Type 0) (xs : List X) (i : ℕ) → All P xs → All P (remove xs i)
All-remove P [] zero h = h
All-remove P [] (suc i) h = h
All-remove P (x ∷ xs) zero h = All-tail P x xs h
All-remove P (x ∷ xs) (suc i) h =
    All-cons P x (remove xs i) (All-head P x xs h) (All-remove P xs i (All-tail P x xs h))

length-remove-le : {X : Type 0} (xs : List X) (i : ℕ) → length (remove xs i) ≤ length xs
length-remove-le [] zero = omega arith
length-remove-le [] (suc i) = omega arith
length-remove-le (x ∷ xs) zero = omega arith
length-remove-le (x ∷ xs) (suc i) = omega (arith, length-remove-le xs i)

pub length-removed : {X : Type 0} (xs : List X) (i : ℕ) → i < length xs → length (remove xs i) ≡ length xs - 1
length-removed [] i below = absurd (omega (arith, below))
length-removed (x ∷ xs) zero below = omega arith
length-removed (x ∷ xs) (suc i) below = omega (arith, below, length-removed xs i (omega (arith, below)))

-- what was written through a slice of a whole list
take-front : {X : Type 0} (new rest : List X) → take (length new) (new ++ rest) ≡ new
take-front [] rest = refl
take-front {X} (x ∷ new) rest = ap (λ (l : List X). x ∷ l) (take-front new rest)

pub written-back : {X : Type 0} (len : ℕ) (new rest : List X) → len ≡ length new → take len (new ++ rest) ≡ new
written-back len new rest is = ap (λ (n : ℕ). take n (new ++ rest)) is ∙ take-front new rest

-- the tasks are others, and the rest stays
pub seen-as : (limits : TenantLimits) (jobs : ℕ) (slots : List ℕ) (old new : List Demand) (case : Case)
    (tasks : List RoundDemand) → case_seen limits jobs slots old ≡ case → map seen new ≡ tasks
    → case_seen limits jobs slots new ≡ record case { tasks = tasks }
seen-as limits jobs slots old new case tasks view is =
    ap (λ (l : List RoundDemand). let c : Case = record (case_seen limits jobs slots old) { tasks = l } in c) is
    ∙ ap (λ (c : Case). let d : Case = record c { tasks = tasks } in d) view

-- the task of a number, as it is kept
pub seen-at : (demands : List Demand) (i : ℕ) (it : Demand) (tasks : List RoundDemand) → map seen demands ≡ tasks
    → i < length tasks → it ≡ slice_index_or demands i it
    → seen it ≡ slice_index_or tasks i (record { home = None; preferred = []; delay = 0; job = 0 })
seen-at demands i it tasks view below is =
    let none : RoundDemand = record { home = None; preferred = []; delay = 0; job = 0 } in
    let inside : i < length demands =
    omega (arith, below, ap (λ (l : List RoundDemand). length l) view, length-map demands seen) in
    ap seen is ∙ sym (get_or-map seen demands i it none inside)
    ∙ ap (λ (l : List RoundDemand). slice_index_or l i none) view

-- one task less
pub fits-without_task : (limits : TenantLimits) (jobs : ℕ) (slots : List ℕ) (old new : List Demand) (i : ℕ)
    → CaseFits (case_seen limits jobs slots old) → new ≡ remove old i → CaseFits (case_seen limits jobs slots new)
fits-without_task limits jobs slots old new i fits is =
    let less : map seen new ≡ remove (map seen old) i = ap (map seen) is ∙ map-remove seen old i in
    record {
      tasks = subst (All (Fits (length slots))) (sym less)
          (All-remove (Fits (length slots)) (map seen old) i fits.tasks);
      slots = fits.slots;
      few_machines = fits.few_machines;
      few_tasks = omega (
        arith,
        fits.few_tasks,
        ap (λ (l : List RoundDemand). length l) less,
        length-remove-le (map seen old) i,
      );
    }

-- one task more
pub fits-with_task : (limits : TenantLimits) (jobs : ℕ) (slots : List ℕ) (old new : List Demand) (it : Demand)
    (case : Case) → CaseFits (case_seen limits jobs slots old) → case_seen limits jobs slots old ≡ case
    → new ≡ old ++ it ∷ [] → Fits (length case.slots) (seen it) → length case.tasks < 4096
    → CaseFits (case_seen limits jobs slots new)
fits-with_task limits jobs slots old new it case fits view is fit room =
    let all : map seen new ≡ map seen old ++ seen it ∷ [] = ap (map seen) is ∙ map_push seen old it in
    let here : Fits (length slots) (seen it) =
    subst (λ (k : Case). Fits (length k.slots) (seen it)) (sym view) fit in
    record {
      tasks = subst (All (Fits (length slots))) (sym all)
          (All-push (Fits (length slots)) (map seen old) (seen it) fits.tasks here);
      slots = fits.slots;
      few_machines = fits.few_machines;
      few_tasks = omega (
        arith,
        room,
        ap (λ (k : Case). length k.tasks) view,
        ap (λ (l : List RoundDemand). length l) all,
        length_push (map seen old) (seen it),
      );
    }

-- a task placed
pub fits-placed : (limits : TenantLimits) (jobs : ℕ) (slots : List ℕ) (old : List Demand) (i : ℕ) (it new : Demand)
    (home : Option ℕ) (delay : ℕ) → CaseFits (case_seen limits jobs slots old)
    → it ≡ slice_index_or old i it → i < length old → seen new ≡ placed home delay (seen it)
    → IfSome home (λ place. place < length slots) → delay ≤ 2000000
    → CaseFits (case_seen limits jobs slots (set old i new))
fits-placed limits jobs slots old i it new home delay fits at below is there few =
    let n : ℕ = length slots in
    let none : RoundDemand = record { home = None; preferred = []; delay = 0; job = 0 } in
    let was : Fits n (seen it) =
    subst (Fits n) (get_or-map seen old i it none below ∙ ap seen (sym at))
    (fits.tasks i none (omega (arith, below, length-map old seen))) in
    let now : Fits n (seen new) =
    subst (Fits n) (sym is)
    (record { home = there; preferred = was.preferred; few = was.few; delay = few }) in
    let all : map seen (set old i new) ≡ set (map seen old) i (seen new) = map-set seen old i new in
    record {
      tasks = subst (All (Fits n)) (sym all) (All-set (Fits n) (map seen old) i (seen new) now fits.tasks);
      slots = fits.slots;
      few_machines = fits.few_machines;
      few_tasks = omega (
        arith,
        fits.few_tasks,
        ap (λ (l : List RoundDemand). length l) all,
        length-set (map seen old) i (seen new),
      );
    }

-- the place of a machine among those that are left
place-left : (n gone place : ℕ) → gone < n → place < n → eqb place gone ≡ false → place_without gone place < n - 1
place-left n gone place below inside other =
    ⊎_elim
    (λ (l : gone < place).
    let down : place_without gone place ≡ place - 1 =
    cond-true (ltb gone place) (place - 1) place (lt-ltb gone place l) in
    omega (arith, down, l, inside))
    (λ (l : place ≤ gone).
    let stays : place_without gone place ≡ place =
    cond-false (ltb gone place) (place - 1) place (le-ltb gone place l) in
    ⊎_elim (λ (less : place < gone). omega (arith, stays, less, below))
    (λ (more : gone ≤ place). absurd (true≢false (sym (eq-eqb place gone (omega (arith, l, more))) ∙ other)))
    (cases_lt place gone))
    (cases_lt gone place)

home-left : (n gone : ℕ) (home : Option ℕ) → gone < n → IfSome home (λ place. place < n)
    → IfSome (home_without gone home) (λ place. place < n - 1)
home-left n gone None below there = tt
home-left n gone (Some place) below there =
    elim (eqb place gone) as (λ b. eqb place gone ≡ b
    → IfSome (cond b None (Some (place_without gone place))) (λ p. p < n - 1)) [
      | true ↦ λ _. tt
      | false ↦ λ other. place-left n gone place below there other
    ] refl

preferred-left : (n gone : ℕ) (places : List ℕ) → gone < n → All (λ place. place < n) places
    → All (λ place. place < n - 1) (preferred_without gone places)
preferred-left n gone [] below there = All-nil (λ (p : ℕ). p < n - 1)
preferred-left n gone (place ∷ places) below there =
    let left : List ℕ = filter (λ p. not (eqb p gone)) places in
    let rest : All (λ p. p < n - 1) (map (place_without gone) left) =
    preferred-left n gone places below (All-tail (λ (p : ℕ). p < n) place places there) in
    elim (eqb place gone) as (λ b. eqb place gone ≡ b
    → All (λ p. p < n - 1) (map (place_without gone) (cond (not b) (place ∷ left) left))) [
      | true ↦ λ _. rest
      | false ↦ λ other. All-cons (λ (p : ℕ). p < n - 1) (place_without gone place) (map (place_without gone) left)
          (place-left n gone place below (All-head (λ (p : ℕ). p < n) place places there) other) rest
    ] refl

task-left : (n gone : ℕ) (task : RoundDemand) → gone < n → Fits n task → Fits (n - 1) (without_machine_at gone task)
task-left n gone task below fits =
    record {
      home = home-left n gone task.home below fits.home;
      preferred = preferred-left n gone task.preferred below fits.preferred;
      few = omega (
        arith,
        fits.few,
        length-map (filter (λ place. not (eqb place gone)) task.preferred) (place_without gone),
        length-filter-le (λ (place : ℕ). not (eqb place gone)) task.preferred,
      );
      delay = fits.delay;
    }

-- a machine less
pub fits-without_machine : (limits : TenantLimits) (jobs : ℕ) (slots less : List ℕ) (old new : List Demand) (gone : ℕ)
    → CaseFits (case_seen limits jobs slots old) → gone < length slots → less ≡ remove slots gone
    → map seen new ≡ map (without_machine_at gone) (map seen old) → CaseFits (case_seen limits jobs less new)
fits-without_machine limits jobs slots less old new gone fits below less-is is =
    let n : ℕ = length slots in
    let fewer : length less ≡ n - 1 = ap length less-is ∙ length-removed slots gone below in
    record {
      tasks = subst (λ (l : List RoundDemand). All (Fits (length less)) l) (sym is)
          (subst (λ m. All (Fits m) (map (without_machine_at gone) (map seen old))) (sym fewer)
          (All-map (Fits (n - 1)) (without_machine_at gone) (map seen old)
          (λ k d l. task-left n gone (slice_index_or (map seen old) k d) below (fits.tasks k d l))));
      slots = subst (All (λ n. n ≤ 64)) (sym less-is) (All-remove (λ (n : ℕ). n ≤ 64) slots gone fits.slots);
      few_machines = omega (arith, fewer, fits.few_machines);
      few_tasks = omega (
        arith,
        fits.few_tasks,
        ap (λ (l : List RoundDemand). length l) is,
        length-map (map seen old) (without_machine_at gone),
      );
    }

-- a job less
pub fits-without_job : (limits : TenantLimits) (jobs fewer : ℕ) (slots : List ℕ) (old new : List Demand) (gone : ℕ)
    → CaseFits (case_seen limits jobs slots old)
    → map seen new ≡ map (without_job_at gone) (map seen old) → CaseFits (case_seen limits fewer slots new)
fits-without_job limits jobs fewer slots old new gone fits is =
    let n : ℕ = length slots in
    record {
      tasks = subst (All (Fits n)) (sym is)
          (All-map (Fits n) (without_job_at gone) (map seen old) (λ k d l.
          let f = fits.tasks k d l in
          record { home = f.home; preferred = f.preferred; few = f.few; delay = f.delay }));
      slots = fits.slots;
      few_machines = fits.few_machines;
      few_tasks = omega (
        arith,
        fits.few_tasks,
        ap (λ (l : List RoundDemand). length l) is,
        length-map (map seen old) (without_job_at gone),
      );
    }
