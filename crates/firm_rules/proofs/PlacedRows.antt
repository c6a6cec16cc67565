-- The rows with one task on another machine, or waiting.
use Rattle.std.proofs.Common.{◌≡◌, ℕ, zero, suc, ◌+◌, ◌<◌, ◌≤◌, true, List, [], ◌∷◌, map, set, length, All, Option}
use Rattle.std.proofs.Common.{Some, None, IfSome, sum_by, bytes_eq, slice_index_or, refl, sym, ap}
use Rattle.std.proofs.Common.{subst, arith}
use Rattle.std.specs.List.{IsDistinct}
use Rattle.std.proofs.lemmas.List.Elements.{All-cons, All-head, All-tail}
use Rattle.std.proofs.lemmas.List.Sums.{sum_by-cons}
use Rattle.firm_rules.specs.Names.{is_among}
use Rattle.firm_rules.specs.Book.{TenantRows, machine_names, job_names, is_on, placed_at, standing, with_task_placed}
use Rattle.firm_rules.specs.ArenaUse.{preference_count}
use Rattle.firm_rules.specs.Sound.{AreSound, HasRoom}
use Rattle.firm_rules.specs.declared.book.Task.{Task}
use Rattle.firm_rules.proofs.SoundRows.{IsThere, AreThere, one_if}

-- what holds of each task holds of each with one of them placed
pub All-placed : (P : Task → Type 0) (tasks : List Task) (place : ℕ) (machine : Option (List ℕ)) (waited : ℕ)
    → ((task : Task) → P task → P (standing machine waited task)) → All P tasks
    → All P (placed_at tasks place machine waited)
All-placed P [] place machine waited step h = h
All-placed P (task ∷ tasks) zero machine waited step h =
    All-cons P (standing machine waited task) tasks (step task (All-head P task tasks h)) (All-tail P task tasks h)
All-placed P (task ∷ tasks) (suc place) machine waited step h =
    All-cons P task (placed_at tasks place machine waited) (All-head P task tasks h)
    (All-placed P tasks place machine waited step (All-tail P task tasks h))

-- the tasks keep their names, their number and their preferences
pub names-placed : (tasks : List Task) (place : ℕ) (machine : Option (List ℕ)) (waited : ℕ)
    → map (λ task. task.name) (placed_at tasks place machine waited) ≡ map (λ task. task.name) tasks
names-placed [] place machine waited = refl
names-placed (task ∷ tasks) zero machine waited = refl
names-placed (task ∷ tasks) (suc place) machine waited =
    ap (λ (l : List (List ℕ)). task.name ∷ l) (names-placed tasks place machine waited)

pub length-placed : (tasks : List Task) (place : ℕ) (machine : Option (List ℕ)) (waited : ℕ)
    → length (placed_at tasks place machine waited) ≡ length tasks
length-placed [] place machine waited = refl
length-placed (task ∷ tasks) zero machine waited = refl
length-placed (task ∷ tasks) (suc place) machine waited = omega (arith, length-placed tasks place machine waited)

pub preferences-placed : (tasks : List Task) (place : ℕ) (machine : Option (List ℕ)) (waited : ℕ)
    → preference_count (placed_at tasks place machine waited) ≡ preference_count tasks
preferences-placed [] place machine waited = refl
preferences-placed (task ∷ tasks) zero machine waited =
    let many : Task → ℕ = λ t. length t.preferred in
    omega (arith, sum_by-cons many (standing machine waited task) tasks, sum_by-cons many task tasks)
preferences-placed (task ∷ tasks) (suc place) machine waited =
    let many : Task → ℕ = λ t. length t.preferred in
    omega (
      arith,
      sum_by-cons many task (placed_at tasks place machine waited),
      sum_by-cons many task tasks,
      preferences-placed tasks place machine waited,
    )

-- of those that run or do not, the one is counted anew
pub counted-placed : (runs : Option (List ℕ) → ℕ) (tasks : List Task) (place : ℕ) (machine : Option (List ℕ))
    (waited : ℕ) (d : Task) → place < length tasks
    → sum_by (λ task. runs task.machine) (placed_at tasks place machine waited)
    + runs (slice_index_or tasks place d).machine ≡ sum_by (λ task. runs task.machine) tasks + runs machine
counted-placed runs [] place machine waited d below = absurd (omega arith)
counted-placed runs (task ∷ tasks) zero machine waited d below =
    let one : Task → ℕ = λ t. runs t.machine in
    omega (arith, sum_by-cons one (standing machine waited task) tasks, sum_by-cons one task tasks)
counted-placed runs (task ∷ tasks) (suc place) machine waited d below =
    let one : Task → ℕ = λ t. runs t.machine in
    omega (
      arith,
      sum_by-cons one task (placed_at tasks place machine waited),
      sum_by-cons one task tasks,
      counted-placed runs tasks place machine waited d (omega arith),
    )

-- a task written at a place
pub set-placed : (tasks : List Task) (place : ℕ) (machine : Option (List ℕ)) (waited : ℕ) (task d : Task)
    → place < length tasks → slice_index_or tasks place d ≡ task
    → set tasks place (standing machine waited task) ≡ placed_at tasks place machine waited
set-placed [] place machine waited task d below is = absurd (omega arith)
set-placed (t ∷ tasks) zero machine waited task d below is =
    ap (λ (x : Task). standing machine waited x ∷ tasks) (sym is)
set-placed (t ∷ tasks) (suc place) machine waited task d below is =
    ap (λ (l : List Task). t ∷ l) (set-placed tasks place machine waited task d (omega arith) is)

module _ (rows : TenantRows) (sound : AreSound rows) (place : ℕ) (machine : Option (List ℕ)) (waited : ℕ) where
  -- a task that waits takes no slot
  room-placed : place < length rows.tasks → IfSome machine (λ _. HasRoom (with_task_placed rows place machine waited))
      → HasRoom (with_task_placed rows place machine waited)
  room-placed below = by machine refl
    where
      by : (home : Option (List ℕ)) → machine ≡ home
          → IfSome home (λ _. HasRoom (with_task_placed rows place machine waited))
          → HasRoom (with_task_placed rows place machine waited)
      by None waits h = λ k d l.
          let name : List ℕ = (slice_index_or rows.machines k d).name in
          let on : Option (List ℕ) → ℕ = λ m. one_if (is_on name m) in
          let any : Task = record { name = []; job = []; preferred = []; machine = None; waited = 0 } in
          omega (
            arith,
            sound.room k d l,
            counted-placed on rows.tasks place machine waited any below,
            ap on waits,
          )
      by (Some name) runs h = h

  pub sound-placed : place < length rows.tasks → IsThere (machine_names rows) machine
      → IfSome machine (λ _. HasRoom (with_task_placed rows place machine waited)) → waited ≤ rows.limits.patience
      → AreSound (with_task_placed rows place machine waited)
  sound-placed below there room few =
      record {
        machine_names_differ = sound.machine_names_differ;
        job_names_differ = sound.job_names_differ;
        task_names_differ =
            subst (IsDistinct bytes_eq) (sym (names-placed rows.tasks place machine waited)) sound.task_names_differ;
        jobs_there =
            All-placed (λ (t : Task). is_among (job_names rows) t.job ≡ true) rows.tasks place machine waited
            (λ t h. h) sound.jobs_there;
        machines_there =
            All-placed (λ (t : Task). IsThere (machine_names rows) t.machine) rows.tasks place machine waited
            (λ t h. there) sound.machines_there;
        preferred_there =
            All-placed (λ (t : Task). AreThere (machine_names rows) t.preferred) rows.tasks place machine waited
            (λ t h. h) sound.preferred_there;
        preferred_few =
            All-placed (λ (t : Task). length t.preferred ≤ 4) rows.tasks place machine waited (λ t h. h)
            sound.preferred_few;
        preferred_differ =
            All-placed (λ (t : Task). IsDistinct bytes_eq t.preferred) rows.tasks place machine waited (λ t h. h)
            sound.preferred_differ;
        room = room-placed below room;
        waited =
            All-placed (λ (t : Task). t.waited ≤ rows.limits.patience) rows.tasks place machine waited (λ t h. few)
            sound.waited;
        fits = record {
          nodes = omega (arith, sound.fits.nodes, length-placed rows.tasks place machine waited);
          arcs = omega (
            arith,
            sound.fits.arcs,
            length-placed rows.tasks place machine waited,
            preferences-placed rows.tasks place machine waited,
          );
        };
        slots = sound.slots;
        weights = sound.weights;
        most_nodes = sound.most_nodes;
        most_arcs = sound.most_arcs;
        most_spread = sound.most_spread;
        most_churn = sound.most_churn;
        most_remote = sound.most_remote;
        most_patience = sound.most_patience;
      }
