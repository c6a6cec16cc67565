-- The rows stay sound: as rows are added, as they are removed, and after a round.
use Rattle.std.proofs.Common.{◌≡◌, ℕ, zero, suc, ◌+◌, ◌<◌, ◌≤◌, ◌≢◌, AllPairs, Bool, true, false, not, cond, eqb, ◌||◌}
use Rattle.std.proofs.Common.{List}
use Rattle.std.proofs.Common.{[], ◌∷◌, map, filter, length, count_by, All, slice_index, slice_index_or, Option, None}
use Rattle.std.proofs.Common.{Some, IfSome, bytes_eq, true≢false, refl, sym, ap, subst, ◌∙◌, arith, ⊎_elim}
use Rattle.std.specs.Int.{from_bool}
use Rattle.std.specs.List.{IsDistinct, list_any}
use Rattle.std.proofs.lemmas.Bool.{cond_both, cases_lt, eq-eqb, eqb-true}
use Rattle.std.proofs.lemmas.Slice.Eq.{bytes_eq-Decides}
use Rattle.std.proofs.lemmas.List.{length-map, map-append, get_or-map}
use Rattle.std.proofs.lemmas.List.Elements.{All-nil, All-cons, All-head, All-tail, All-push, All-map, All-filter}
use Rattle.std.proofs.lemmas.List.Elements.{filter_passes}
use Rattle.std.proofs.lemmas.List.Kept.{AllPairs-filter}
use Rattle.std.proofs.lemmas.List.Sums.{sum_by-cons, sum_by_push}
use Rattle.std.proofs.lemmas.Map.Made.{AllPairs-from_IsDistinct, IsDistinct-from_AllPairs}
use Rattle.firm_rules.specs.Names.{is_among}
use Rattle.firm_rules.specs.Book.{TenantRows, machine_names, job_names, task_names, name_at, is_on, evicted, running_on}
use Rattle.firm_rules.specs.Book.{with_machine, with_job, with_restored, without_machine, without_job, without_task}
use Rattle.firm_rules.specs.Book.{has_tasks, forgetting}
use Rattle.firm_rules.specs.Preferences.{without_preference}
use Rattle.firm_rules.specs.ArenaUse.{FitsLimits, preference_count}
use Rattle.firm_rules.specs.Sound.{AreSound, HasRoom}
use Rattle.firm_rules.specs.Placement.{IsLegal, IsPlace, load, goes_to}
use Rattle.firm_rules.specs.Round.{case_of, rows_after, task_after, zipped}
use Rattle.firm_rules.specs.declared.book.Machine.{Machine}
use Rattle.firm_rules.specs.declared.book.Job.{Job}
use Rattle.firm_rules.specs.declared.book.Task.{Task}
use Rattle.firm_rules.specs.declared.rounds.Choice.{Choice}
use Rattle.firm_rules.specs.declared.rounds.Choice.TheVariants.{On, Wait}
use Rattle.firm_rules.proofs.NamedRows.{bytes_eq-own, sum_by-le-each, sum_by-filter-le, length-filter-le, sum_by-map}
use Rattle.firm_rules.proofs.NamedRows.{among-append, is_other, among-filter}

abbrev pub IsThere : List (List ℕ) → Option (List ℕ) → Type 0
IsThere names machine = IfSome machine (λ name. is_among names name ≡ true)

-- a truth value as a number
pub one_if-from_bool : (b : Bool) → from_bool b ≡ cond b 1 0
one_if-from_bool true = refl
one_if-from_bool false = refl

abbrev pub AreThere : List (List ℕ) → List (List ℕ) → Type 0
AreThere names preferred = All (λ name. is_among names name ≡ true) preferred

abbrev pub one_if : Bool → ℕ
one_if b = cond b 1 0

-- no task runs on a machine that is not there
none_on : (names : List (List ℕ)) (name : List ℕ) (tasks : List Task) → is_among names name ≡ false
    → All (λ task. IsThere names task.machine) tasks
    → count_by (λ task. is_on name task.machine) tasks ≡ 0
none_on names name [] new there = refl
none_on names name (task ∷ tasks) new there =
    omega (
      arith,
      sum_by-cons (λ (task : Task). cond (is_on name task.machine) 1 0) task tasks,
      ap one_if (not_on task.machine (All-head (λ (task : Task). IsThere names task.machine) task tasks there)),
      none_on names name tasks new (All-tail (λ (task : Task). IsThere names task.machine) task tasks there),
    )
  where
    not_on : (machine : Option (List ℕ)) → IsThere names machine → is_on name machine ≡ false
    not_on None h = refl
    not_on (Some home) h = elim (bytes_eq name home) as (λ b. bytes_eq name home ≡ b → b ≡ false) [
      | true ↦ λ e. absurd (true≢false (sym h ∙ ap (is_among names) (sym ((bytes_eq-Decides name home).0 e)) ∙ new))
      | false ↦ λ _. refl
    ] refl

module _ (rows : TenantRows) (sound : AreSound rows) where
  pub sound-with_machine : (name : List ℕ) (slots : ℕ)
      → IsDistinct bytes_eq (machine_names (with_machine rows name slots)) → is_among (machine_names rows) name ≡ false
      → FitsLimits (with_machine rows name slots) → 1 ≤ slots → slots ≤ 64 → AreSound (with_machine rows name slots)
  sound-with_machine name slots differ new fits least most =
      let machine : Machine = record { name = name; slots = slots } in
      record {
        machine_names_differ = differ;
        job_names_differ = sound.job_names_differ;
        task_names_differ = sound.task_names_differ;
        jobs_there = sound.jobs_there;
        machines_there = λ k d l. stays (slice_index_or rows.tasks k d).machine (sound.machines_there k d l);
        preferred_there = λ k d l i e j.
            one_more (slice_index_or (slice_index_or rows.tasks k d).preferred i e) (sound.preferred_there k d l i e j);
        preferred_few = sound.preferred_few;
        preferred_differ = sound.preferred_differ;
        room = All-push (λ (m : Machine). running_on rows m.name ≤ m.slots) rows.machines machine sound.room
            (omega (arith, none_on (machine_names rows) name rows.tasks new sound.machines_there));
        waited = sound.waited;
        fits = fits;
        slots = All-push (λ (m : Machine). (1 ≤ m.slots) × (m.slots ≤ 64)) rows.machines machine sound.slots
            (least, most);
        weights = sound.weights;
        most_nodes = sound.most_nodes;
        most_arcs = sound.most_arcs;
        most_spread = sound.most_spread;
        most_churn = sound.most_churn;
        most_remote = sound.most_remote;
        most_patience = sound.most_patience;
      }
    where
      one_more : (other : List ℕ) → is_among (machine_names rows) other ≡ true
          → is_among (machine_names (with_machine rows name slots)) other ≡ true
      one_more other h =
          ap (λ (names : List (List ℕ)). is_among names other)
          (map-append (λ (m : Machine). m.name) rows.machines (record { name = name; slots = slots } ∷ []))
          ∙ among-append (machine_names rows) (name ∷ []) other h

      stays : (home : Option (List ℕ)) → IsThere (machine_names rows) home
          → IsThere (machine_names (with_machine rows name slots)) home
      stays None h = h
      stays (Some home) h = one_more home h

  pub sound-with_job : (name : List ℕ) (weight : ℕ) → IsDistinct bytes_eq (job_names (with_job rows name weight))
      → FitsLimits (with_job rows name weight) → 1 ≤ weight → weight ≤ 1000000 → AreSound (with_job rows name weight)
  sound-with_job name weight differ fits least most =
      let job : Job = record { name = name; weight = weight } in
      record {
        machine_names_differ = sound.machine_names_differ;
        job_names_differ = differ;
        task_names_differ = sound.task_names_differ;
        jobs_there = λ k d l.
            ap (λ (names : List (List ℕ)). is_among names (slice_index_or rows.tasks k d).job)
            (map-append (λ (j : Job). j.name) rows.jobs (job ∷ []))
            ∙ among-append (job_names rows) (name ∷ []) (slice_index_or rows.tasks k d).job (sound.jobs_there k d l);
        machines_there = sound.machines_there;
        preferred_there = sound.preferred_there;
        preferred_few = sound.preferred_few;
        preferred_differ = sound.preferred_differ;
        room = sound.room;
        waited = sound.waited;
        fits = fits;
        slots = sound.slots;
        weights =
            All-push (λ (j : Job). (1 ≤ j.weight) × (j.weight ≤ 1000000)) rows.jobs job sound.weights (least, most);
        most_nodes = sound.most_nodes;
        most_arcs = sound.most_arcs;
        most_spread = sound.most_spread;
        most_churn = sound.most_churn;
        most_remote = sound.most_remote;
        most_patience = sound.most_patience;
      }

  -- a task that waits takes no slot
  room-with_restored : (task : Task) → IfSome task.machine (λ _. HasRoom (with_restored rows task))
      → HasRoom (with_restored rows task)
  room-with_restored task = by task.machine refl
    where
      by : (machine : Option (List ℕ)) → task.machine ≡ machine
          → IfSome machine (λ _. HasRoom (with_restored rows task)) → HasRoom (with_restored rows task)
      by None waits h = λ k d l.
          let name : List ℕ = (slice_index_or rows.machines k d).name in
          let on : Task → ℕ = λ t. cond (is_on name t.machine) 1 0 in
          omega (
            arith,
            sound.room k d l,
            sum_by_push on rows.tasks task,
            ap (λ (m : Option (List ℕ)). one_if (is_on name m)) waits,
          )
      by (Some home) runs h = h

  pub sound-with_restored : (task : Task) → IsDistinct bytes_eq (task_names (with_restored rows task))
      → is_among (job_names rows) task.job ≡ true → IsThere (machine_names rows) task.machine
      → AreThere (machine_names rows) task.preferred → length task.preferred ≤ 4 → IsDistinct bytes_eq task.preferred
      → IfSome task.machine (λ _. HasRoom (with_restored rows task)) → task.waited ≤ rows.limits.patience
      → FitsLimits (with_restored rows task) → AreSound (with_restored rows task)
  sound-with_restored task differ there home machines few apart room waited fits =
      record {
        machine_names_differ = sound.machine_names_differ;
        job_names_differ = sound.job_names_differ;
        task_names_differ = differ;
        jobs_there =
            All-push (λ (t : Task). is_among (job_names rows) t.job ≡ true) rows.tasks task sound.jobs_there there;
        machines_there =
            All-push (λ (t : Task). IsThere (machine_names rows) t.machine) rows.tasks task sound.machines_there home;
        preferred_there =
            All-push (λ (t : Task). AreThere (machine_names rows) t.preferred) rows.tasks task sound.preferred_there
            machines;
        preferred_few = All-push (λ (t : Task). length t.preferred ≤ 4) rows.tasks task sound.preferred_few few;
        preferred_differ =
            All-push (λ (t : Task). IsDistinct bytes_eq t.preferred) rows.tasks task sound.preferred_differ apart;
        room = room-with_restored task room;
        waited = All-push (λ (t : Task). t.waited ≤ rows.limits.patience) rows.tasks task sound.waited waited;
        fits = fits;
        slots = sound.slots;
        weights = sound.weights;
        most_nodes = sound.most_nodes;
        most_arcs = sound.most_arcs;
        most_spread = sound.most_spread;
        most_churn = sound.most_churn;
        most_remote = sound.most_remote;
        most_patience = sound.most_patience;
      }

-- a task that is thrown out keeps its name and job, has waited no longer, and runs nowhere else
pub evicted-cases : (name : List ℕ) (task : Task) (P : Task → Type 0)
    → (is_on name task.machine ≡ true → P (record (forgetting name task) { machine = None; waited = 0 }))
    → (is_on name task.machine ≡ false → P (forgetting name task)) → P (evicted name task)
evicted-cases name task P there apart =
    cond_both (is_on name task.machine) (record (forgetting name task) { machine = None; waited = 0 })
    (forgetting name task) P there apart

-- and prefers the other machines that it preferred
pub preferred-evicted : (name : List ℕ) (task : Task)
    → (evicted name task).preferred ≡ without_preference name task.preferred
preferred-evicted name task =
    evicted-cases name task (λ (t : Task). t.preferred ≡ without_preference name task.preferred) (λ _. refl) (λ _. refl)

-- so no more than before
fewer-evicted : (name : List ℕ) (task : Task) → length (evicted name task).preferred ≤ length task.preferred
fewer-evicted name task =
    omega (
      arith,
      ap (λ (l : List (List ℕ)). length l) (preferred-evicted name task),
      length-filter-le (λ other. not (bytes_eq name other)) task.preferred,
    )

-- names that differ do so without one of them
pub IsDistinct-without : (name : List ℕ) (names : List (List ℕ)) → IsDistinct bytes_eq names
    → IsDistinct bytes_eq (without_preference name names)
IsDistinct-without name names differ =
    IsDistinct-from_AllPairs bytes_eq-Decides (without_preference name names)
    (AllPairs-filter (λ (x y : List ℕ). x ≢ y) (λ other. not (bytes_eq name other)) names
    (AllPairs-from_IsDistinct bytes_eq-Decides names differ))

pub names-evicted : (name : List ℕ) (tasks : List Task)
    → map (λ task. task.name) (map (evicted name) tasks) ≡ map (λ task. task.name) tasks
names-evicted name [] = refl
names-evicted name (task ∷ tasks) =
    ap (λ (n : List ℕ). n ∷ map (λ task. task.name) (map (evicted name) tasks))
    (evicted-cases name task (λ (t : Task). t.name ≡ task.name) (λ _. refl) (λ _. refl))
    ∙ ap (λ (l : List (List ℕ)). task.name ∷ l) (names-evicted name tasks)

pub on-evicted-le : (gone name : List ℕ) (task : Task)
    → cond (is_on name (evicted gone task).machine) 1 0 ≤ cond (is_on name task.machine) 1 0
on-evicted-le gone name task =
    evicted-cases gone task (λ (t : Task). cond (is_on name t.machine) 1 0 ≤ cond (is_on name task.machine) 1 0)
    (λ _. omega arith) (λ _. omega arith)

-- nothing passes a test that no element passes
pub all-fail : {X : Type 0} (p : X → Bool) (xs : List X) → list_any p xs ≡ false → All (λ x. p x ≡ false) xs
all-fail p [] none = All-nil (λ x. p x ≡ false)
all-fail {X} p (x ∷ xs) none =
    elim (p x) as (λ b. p x ≡ b → (b || list_any p xs) ≡ false → All (λ (x : X). p x ≡ false) (x ∷ xs)) [
      | true ↦ λ _ e. absurd (true≢false e)
      | false ↦ λ here e. All-cons (λ (x : X). p x ≡ false) x xs here (all-fail p xs e)
    ] refl none

module _ (rows : TenantRows) (sound : AreSound rows) where
  pub sound-without_machine : (gone : List ℕ) → IsDistinct bytes_eq (machine_names (without_machine rows gone))
      → AreSound (without_machine rows gone)
  sound-without_machine gone differ =
      let left : List Machine = filter (is_other (λ (m : Machine). m.name) gone) rows.machines in
      let on : List ℕ → Task → ℕ = λ name t. cond (is_on name t.machine) 1 0 in
      record {
        machine_names_differ = differ;
        job_names_differ = sound.job_names_differ;
        task_names_differ = subst (IsDistinct bytes_eq) (sym (names-evicted gone rows.tasks)) sound.task_names_differ;
        jobs_there = All-map (λ (t : Task). is_among (job_names rows) t.job ≡ true) (evicted gone) rows.tasks (λ k d l.
            evicted-cases gone (slice_index_or rows.tasks k d) (λ (t : Task). is_among (job_names rows) t.job ≡ true)
            (λ _. sound.jobs_there k d l) (λ _. sound.jobs_there k d l));
        machines_there =
            All-map (λ (t : Task). IsThere (map (λ (m : Machine). m.name) left) t.machine) (evicted gone) rows.tasks
            (λ k d l.
            evicted-cases gone (slice_index_or rows.tasks k d)
            (λ (t : Task). IsThere (map (λ (m : Machine). m.name) left) t.machine) (λ _. tt)
            (λ apart. stays (slice_index_or rows.tasks k d).machine apart (sound.machines_there k d l)));
        preferred_there =
            All-map (λ (t : Task). AreThere (map (λ (m : Machine). m.name) left) t.preferred) (evicted gone) rows.tasks
            (λ k d l.
            subst (AreThere (map (λ (m : Machine). m.name) left))
            (sym (preferred-evicted gone (slice_index_or rows.tasks k d)))
            (others-there (slice_index_or rows.tasks k d).preferred (sound.preferred_there k d l)));
        preferred_few = All-map (λ (t : Task). length t.preferred ≤ 4) (evicted gone) rows.tasks (λ k d l.
            omega (arith, sound.preferred_few k d l, fewer-evicted gone (slice_index_or rows.tasks k d)));
        preferred_differ = All-map (λ (t : Task). IsDistinct bytes_eq t.preferred) (evicted gone) rows.tasks (λ k d l.
            subst (IsDistinct bytes_eq) (sym (preferred-evicted gone (slice_index_or rows.tasks k d)))
            (IsDistinct-without gone (slice_index_or rows.tasks k d).preferred (sound.preferred_differ k d l)));
        room = All-filter (is_other (λ (m : Machine). m.name) gone)
            (λ (m : Machine). running_on (without_machine rows gone) m.name ≤ m.slots) rows.machines (λ k d l.
            let name : List ℕ = (slice_index_or rows.machines k d).name in
            omega (
              arith,
              sound.room k d l,
              sum_by-map (on name) (evicted gone) rows.tasks,
              sum_by-le-each (λ (t : Task). on name (evicted gone t)) (on name) rows.tasks (on-evicted-le gone name),
            ));
        waited = All-map (λ (t : Task). t.waited ≤ rows.limits.patience) (evicted gone) rows.tasks (λ k d l.
            evicted-cases gone (slice_index_or rows.tasks k d) (λ (t : Task). t.waited ≤ rows.limits.patience)
            (λ _. omega arith) (λ _. sound.waited k d l));
        fits = record {
          nodes = omega (
            arith,
            sound.fits.nodes,
            length-filter-le (is_other (λ (m : Machine). m.name) gone) rows.machines,
            length-map rows.tasks (evicted gone),
          );
          arcs = omega (
            arith,
            sound.fits.arcs,
            sum_by-filter-le (λ (m : Machine). 1 + m.slots) (is_other (λ (m : Machine). m.name) gone) rows.machines,
            length-map rows.tasks (evicted gone),
            sum_by-map (λ (t : Task). length t.preferred) (evicted gone) rows.tasks,
            sum_by-le-each (λ (t : Task). length (evicted gone t).preferred) (λ (t : Task). length t.preferred)
                rows.tasks (fewer-evicted gone),
          );
        };
        slots = All-filter (is_other (λ (m : Machine). m.name) gone) (λ (m : Machine). (1 ≤ m.slots) × (m.slots ≤ 64))
            rows.machines sound.slots;
        weights = sound.weights;
        most_nodes = sound.most_nodes;
        most_arcs = sound.most_arcs;
        most_spread = sound.most_spread;
        most_churn = sound.most_churn;
        most_remote = sound.most_remote;
        most_patience = sound.most_patience;
      }
    where
      stays : (home : Option (List ℕ)) → is_on gone home ≡ false → IsThere (machine_names rows) home
          → IsThere (machine_names (without_machine rows gone)) home
      stays None apart h = h
      stays (Some home) apart h = among-filter (λ (m : Machine). m.name) rows.machines gone home apart h

      is_false : (b : Bool) → not b ≡ true → b ≡ false
      is_false true h = sym h
      is_false false h = refl

      others-there : (preferred : List (List ℕ)) → AreThere (machine_names rows) preferred
          → AreThere (machine_names (without_machine rows gone)) (without_preference gone preferred)
      others-there preferred there i e below =
          among-filter (λ (m : Machine). m.name) rows.machines gone
          (slice_index_or (without_preference gone preferred) i e)
          (is_false (bytes_eq gone (slice_index_or (without_preference gone preferred) i e))
          (filter_passes (λ other. not (bytes_eq gone other)) preferred i e below))
          (All-filter (λ other. not (bytes_eq gone other)) (λ name. is_among (machine_names rows) name ≡ true) preferred
          there i e below)

  pub sound-without_job : (gone : List ℕ) → IsDistinct bytes_eq (job_names (without_job rows gone))
      → has_tasks rows gone ≡ false → AreSound (without_job rows gone)
  sound-without_job gone differ no_tasks =
      record {
        machine_names_differ = sound.machine_names_differ;
        job_names_differ = differ;
        task_names_differ = sound.task_names_differ;
        jobs_there = λ k d l. among-filter (λ (j : Job). j.name) rows.jobs gone (slice_index_or rows.tasks k d).job
            (all-fail (λ (t : Task). bytes_eq gone t.job) rows.tasks no_tasks k d l) (sound.jobs_there k d l);
        machines_there = sound.machines_there;
        preferred_there = sound.preferred_there;
        preferred_few = sound.preferred_few;
        preferred_differ = sound.preferred_differ;
        room = sound.room;
        waited = sound.waited;
        fits = record {
          nodes = omega (arith, sound.fits.nodes, length-filter-le (is_other (λ (j : Job). j.name) gone) rows.jobs);
          arcs = omega (arith, sound.fits.arcs, length-filter-le (is_other (λ (j : Job). j.name) gone) rows.jobs);
        };
        slots = sound.slots;
        weights =
            All-filter (is_other (λ (j : Job). j.name) gone) (λ (j : Job). (1 ≤ j.weight) × (j.weight ≤ 1000000))
            rows.jobs sound.weights;
        most_nodes = sound.most_nodes;
        most_arcs = sound.most_arcs;
        most_spread = sound.most_spread;
        most_churn = sound.most_churn;
        most_remote = sound.most_remote;
        most_patience = sound.most_patience;
      }

  pub sound-without_task : (gone : List ℕ) → IsDistinct bytes_eq (task_names (without_task rows gone))
      → AreSound (without_task rows gone)
  sound-without_task gone differ =
      let others : Task → Bool = is_other (λ (t : Task). t.name) gone in
      record {
        machine_names_differ = sound.machine_names_differ;
        job_names_differ = sound.job_names_differ;
        task_names_differ = differ;
        jobs_there =
            All-filter others (λ (t : Task). is_among (job_names rows) t.job ≡ true) rows.tasks sound.jobs_there;
        machines_there =
            All-filter others (λ (t : Task). IsThere (machine_names rows) t.machine) rows.tasks sound.machines_there;
        preferred_there =
            All-filter others (λ (t : Task). AreThere (machine_names rows) t.preferred) rows.tasks
            sound.preferred_there;
        preferred_few = All-filter others (λ (t : Task). length t.preferred ≤ 4) rows.tasks sound.preferred_few;
        preferred_differ =
            All-filter others (λ (t : Task). IsDistinct bytes_eq t.preferred) rows.tasks sound.preferred_differ;
        room = λ k d l.
            let on : Task → ℕ = λ t. cond (is_on (slice_index_or rows.machines k d).name t.machine) 1 0 in
            omega (arith, sound.room k d l, sum_by-filter-le on others rows.tasks);
        waited = All-filter others (λ (t : Task). t.waited ≤ rows.limits.patience) rows.tasks sound.waited;
        fits = record {
          nodes = omega (arith, sound.fits.nodes, length-filter-le others rows.tasks);
          arcs = omega (
            arith,
            sound.fits.arcs,
            length-filter-le others rows.tasks,
            sum_by-filter-le (λ (t : Task). length t.preferred) others rows.tasks,
          );
        };
        slots = sound.slots;
        weights = sound.weights;
        most_nodes = sound.most_nodes;
        most_arcs = sound.most_arcs;
        most_spread = sound.most_spread;
        most_churn = sound.most_churn;
        most_remote = sound.most_remote;
        most_patience = sound.most_patience;
      }

-- what holds of each task and choice holds of each task after them
pub All-zipped : {X Y Z : Type 0} (P : Z → Type 0) (Q : X → Type 0) (R : Y → Type 0) (f : X → Y → Z)
    → ((x : X) (y : Y) → Q x → R y → P (f x y))
    → (xs : List X) (ys : List Y) → All Q xs → All R ys → All P (zipped f xs ys)
All-zipped P Q R f each [] ys xs-hold ys-hold = All-nil P
All-zipped P Q R f each (x ∷ xs) [] xs-hold ys-hold = All-nil P
All-zipped P Q R f each (x ∷ xs) (y ∷ ys) xs-hold ys-hold =
    All-cons P (f x y) (zipped f xs ys) (each x y (All-head Q x xs xs-hold) (All-head R y ys ys-hold))
    (All-zipped P Q R f each xs ys (All-tail Q x xs xs-hold) (All-tail R y ys ys-hold))

pub length-zipped : {X Y Z : Type 0} (f : X → Y → Z) (xs : List X) (ys : List Y) → length ys ≡ length xs
    → length (zipped f xs ys) ≡ length xs
length-zipped f [] ys same = refl
length-zipped f (x ∷ xs) [] same = absurd (omega arith)
length-zipped f (x ∷ xs) (y ∷ ys) same = omega (arith, length-zipped f xs ys (omega arith))

pub names-zipped : (rows : TenantRows) (tasks : List Task) (placement : List Choice) → length placement ≡ length tasks
    → map (λ task. task.name) (zipped (task_after rows) tasks placement) ≡ map (λ task. task.name) tasks
names-zipped rows [] placement same = refl
names-zipped rows (task ∷ tasks) [] same = absurd (omega arith)
names-zipped rows (task ∷ tasks) (On j ∷ placement) same =
    ap (λ (l : List (List ℕ)). task.name ∷ l) (names-zipped rows tasks placement (omega arith))
names-zipped rows (task ∷ tasks) (Wait ∷ placement) same =
    ap (λ (l : List (List ℕ)). task.name ∷ l) (names-zipped rows tasks placement (omega arith))

-- a round changes no preferences
pub preferences-zipped : (rows : TenantRows) (tasks : List Task) (placement : List Choice)
    → length placement ≡ length tasks
    → preference_count (zipped (task_after rows) tasks placement) ≡ preference_count tasks
preferences-zipped rows [] placement same = refl
preferences-zipped rows (task ∷ tasks) [] same = absurd (omega arith)
preferences-zipped rows (task ∷ tasks) (choice ∷ placement) same =
    let many : Task → ℕ = λ t. length t.preferred in
    omega (
      arith,
      sum_by-cons many (task_after rows task choice) (zipped (task_after rows) tasks placement),
      sum_by-cons many task tasks,
      one choice,
      preferences-zipped rows tasks placement (omega arith),
    )
  where
    one : (choice : Choice) → length (task_after rows task choice).preferred ≡ length task.preferred
    one (On j) = refl
    one Wait = refl

-- the name at a place is among the names
among-at : (names : List (List ℕ)) (place : ℕ) → place < length names → is_among names (name_at names place) ≡ true
among-at [] place below = absurd (omega arith)
among-at (name ∷ names) zero below = ap (λ b. b || is_among names name) (bytes_eq-own name)
among-at (name ∷ names) (suc place) below =
    elim (bytes_eq (name_at names place) name) as (λ b. (b || is_among names (name_at names place)) ≡ true) [
      | true ↦ refl
      | false ↦ among-at names place (omega arith)
    ]

-- where names differ, two places have one name only where they are one
pub same-name : (names : List (List ℕ)) → IsDistinct bytes_eq names → (j k : ℕ) → j < length names → k < length names
    → bytes_eq (name_at names k) (name_at names j) ≡ eqb j k
same-name names differ j k j-there k-there =
    elim (eqb j k) as (λ b. eqb j k ≡ b → bytes_eq (name_at names k) (name_at names j) ≡ b) [
      | true ↦ λ e. subst (λ i. bytes_eq (name_at names k) (name_at names i)
          ≡ true) (sym (eqb-true j k e)) (bytes_eq-own (name_at names k))
      | false ↦ λ e. elim (bytes_eq (name_at names k) (name_at names j)) as (λ b.
          bytes_eq (name_at names k) (name_at names j) ≡ b → b ≡ false) [
            | true ↦ λ f. absurd (apart (λ same. true≢false (sym (eq-eqb j k same) ∙ e))
                ((bytes_eq-Decides (name_at names k) (name_at names j)).0 f))
            | false ↦ λ _. refl
          ] refl
    ] refl
  where
    pairs : AllPairs (λ x y. x ≢ y) names
    pairs = AllPairs-from_IsDistinct bytes_eq-Decides names differ

    apart : ((j ≡ k) → ⊥) → name_at names k ≡ name_at names j → ⊥
    apart other e =
        ⊎_elim (λ (below : j < k). pairs j k [] below k-there (sym e))
        (λ (above : k ≤ j). pairs k j [] (omega (arith, other_places other above)) j-there e) (cases_lt j k)
      where
        other_places : ((j ≡ k) → ⊥) → k ≤ j → k < j
        other_places o above = ⊎_elim (λ (l : k < j). l) (λ (g : j ≤ k). absurd (o (omega arith))) (cases_lt k j)

-- as many tasks run on a machine after a round as the placement has there
pub load-after : (rows : TenantRows) → IsDistinct bytes_eq (machine_names rows) → (k : ℕ)
    → k < length (machine_names rows) → (tasks : List Task) (placement : List Choice) → length placement ≡ length tasks
    → All (IsPlace (length (machine_names rows))) placement
    → count_by (λ task. is_on (name_at (machine_names rows) k) task.machine) (zipped (task_after rows) tasks placement)
    ≡ load placement k
load-after rows differ k there [] [] same places = refl
load-after rows differ k there [] (choice ∷ placement) same places = absurd (omega arith)
load-after rows differ k there (task ∷ tasks) [] same places = absurd (omega arith)
load-after rows differ k there (task ∷ tasks) (choice ∷ placement) same places =
    let on : Task → ℕ = λ t. one_if (is_on (name_at (machine_names rows) k) t.machine) in
    let goes : Choice → ℕ = λ c. one_if (goes_to k c) in
    omega (
      arith,
      sum_by-cons on (task_after rows task choice) (zipped (task_after rows) tasks placement),
      sum_by-cons goes choice placement,
      ap one_if (one choice (All-head (IsPlace (length (machine_names rows))) choice placement places)),
      load-after rows differ k there tasks placement (omega arith)
          (All-tail (IsPlace (length (machine_names rows))) choice placement places),
    )
  where
    one : (choice : Choice) → IsPlace (length (machine_names rows)) choice
        → is_on (name_at (machine_names rows) k) (task_after rows task choice).machine ≡ goes_to k choice
    one (On j) h = same-name (machine_names rows) differ j k h there
    one Wait h = refl

module _ (rows : TenantRows) (sound : AreSound rows) (placement : List Choice)
    (legal : IsLegal (case_of rows) placement) where
  pub one_each : length placement ≡ length rows.tasks
  one_each = legal.one_each ∙ length-map rows.tasks _

  machines-slots : length (case_of rows).slots ≡ length rows.machines
  machines-slots = length-map rows.machines (λ (machine : Machine). machine.slots)

  named : length (machine_names rows) ≡ length rows.machines
  named = length-map rows.machines (λ (machine : Machine). machine.name)

  places : All (IsPlace (length (machine_names rows))) placement
  places = subst (λ (n : ℕ). All (IsPlace n) placement) (omega (arith, machines-slots, named)) legal.places

  pub sound-rows_after : AreSound (rows_after rows placement)
  sound-rows_after =
      record {
        machine_names_differ = sound.machine_names_differ;
        job_names_differ = sound.job_names_differ;
        task_names_differ =
            subst (IsDistinct bytes_eq) (sym (names-zipped rows rows.tasks placement one_each)) sound.task_names_differ;
        jobs_there =
            All-zipped (λ (t : Task). is_among (job_names rows) t.job ≡ true)
            (λ (t : Task). is_among (job_names rows) t.job ≡ true)
            (IsPlace (length (machine_names rows))) (task_after rows) job-stays rows.tasks placement sound.jobs_there
            places;
        machines_there =
            All-zipped (λ (t : Task). IsThere (machine_names rows) t.machine) (λ _. Unit {0})
            (IsPlace (length (machine_names rows))) (task_after rows)
            machine-there rows.tasks placement (λ k d l. tt) places;
        preferred_there = kept (λ l. AreThere (machine_names rows) l) sound.preferred_there;
        preferred_few = kept (λ l. length l ≤ 4) sound.preferred_few;
        preferred_differ = kept (λ l. IsDistinct bytes_eq l) sound.preferred_differ;
        room = λ k d l.
            let below : k < length (machine_names rows) = omega (arith, l, named) in
            let name-at : name_at (machine_names rows) k ≡ (slice_index_or rows.machines k d).name =
            get_or-map (λ (m : Machine). m.name) rows.machines k d [] l in
            let slots-at : slice_index (case_of rows).slots k ≡ (slice_index_or rows.machines k d).slots =
            get_or-map (λ (m : Machine). m.slots) rows.machines k d 0 l in
            omega (
              arith,
              legal.room k (omega (arith, l, machines-slots)),
              slots-at,
              load-after rows sound.machine_names_differ k below rows.tasks placement one_each places,
              ap (λ (n : List ℕ). running_on (rows_after rows placement) n) name-at,
            );
        waited =
            All-zipped (λ (t : Task). t.waited ≤ rows.limits.patience) (λ _. Unit {0}) (λ _. Unit {0}) (task_after rows)
            waited-few rows.tasks placement (λ k d l. tt) (λ k d l. tt);
        fits = record {
          nodes = omega (arith, sound.fits.nodes, length-zipped (task_after rows) rows.tasks placement one_each);
          arcs = omega (
            arith,
            sound.fits.arcs,
            length-zipped (task_after rows) rows.tasks placement one_each,
            preferences-zipped rows rows.tasks placement one_each,
          );
        };
        slots = sound.slots;
        weights = sound.weights;
        most_nodes = sound.most_nodes;
        most_arcs = sound.most_arcs;
        most_spread = sound.most_spread;
        most_churn = sound.most_churn;
        most_remote = sound.most_remote;
        most_patience = sound.most_patience;
      }
    where
      kept : (P : List (List ℕ) → Type 0) → All (λ (t : Task). P t.preferred) rows.tasks
          → All (λ (t : Task). P t.preferred) (zipped (task_after rows) rows.tasks placement)
      kept P held =
          All-zipped (λ (t : Task). P t.preferred) (λ (t : Task). P t.preferred) (λ _. Unit {0}) (task_after rows)
          (λ t c h u. same t c h) rows.tasks placement held (λ k d l. tt)
        where
          same : (t : Task) (c : Choice) → P t.preferred → P (task_after rows t c).preferred
          same t (On j) h = h
          same t Wait h = h

      job-stays : (t : Task) (c : Choice) → is_among (job_names rows) t.job ≡ true
          → IsPlace (length (machine_names rows)) c → is_among (job_names rows) (task_after rows t c).job ≡ true
      job-stays t (On j) there place = there
      job-stays t Wait there place = there

      machine-there : (t : Task) (c : Choice) → Unit {0} → IsPlace (length (machine_names rows)) c
          → IsThere (machine_names rows) (task_after rows t c).machine
      machine-there t (On j) u place = among-at (machine_names rows) j place
      machine-there t Wait u place = tt

      waited-few : (t : Task) (c : Choice) → Unit {0} → Unit {0} → (task_after rows t c).waited ≤ rows.limits.patience
      waited-few t (On j) u v = omega arith
      waited-few t Wait u v = omega arith
