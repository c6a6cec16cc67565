-- The first of some rows fit as all of them do, and the next of them is new among them.
use Rattle.std.proofs.Common.{◌≡◌, ℕ, zero, suc, ◌+◌, ◌<◌, ◌≤◌, false, cond, List, [], ◌∷◌, ◌++◌, map, take, length}
use Rattle.std.proofs.Common.{get_or, Option, None, Some, IfSome, bytes_eq, slice_index_or, refl, sym, ap, ◌∙◌, subst}
use Rattle.std.proofs.Common.{arith, length-append}
use Rattle.std.specs.List.{sum_by, All, IsDistinct, slice_get}
use Rattle.std.proofs.lemmas.List.{get_or-map, get_or-take, length-map, length-take, length-take-le, take-map}
use Rattle.std.proofs.lemmas.List.{take_more}
use Rattle.std.proofs.lemmas.List.Folds.{list_any_none}
use Rattle.std.proofs.lemmas.List.Sums.{sum_by-cons, sum_by-append, sum_by-take-le}
use Rattle.std.proofs.lemmas.Option.{get_or_from_slice_get}
use Rattle.std.proofs.lemmas.Map.Keys.{apart_from_distinct}
use Rattle.firm_rules.specs.Names.{is_among}
use Rattle.firm_rules.specs.Book.{TenantRows, with_machine, with_job, with_task, with_task_placed, placed_at, standing}
use Rattle.firm_rules.specs.Book.{new_task, is_on}
use Rattle.firm_rules.specs.Sound.{AreSound, HasRoom}
use Rattle.firm_rules.specs.declared.book.Machine.{Machine}
use Rattle.firm_rules.specs.declared.book.Job.{Job}
use Rattle.firm_rules.specs.declared.book.Task.{Task}
use Rattle.firm_graph.specs.Graph.{LackNodes, LackArcs}
use Rattle.firm_graph.specs.inner.Restored.{machines_first, jobs_first, tasks_first}
use Rattle.firm_graph.specs.inner.Steps.{update_at, placed, with_task_at}
use Rattle.firm_graph.proofs.Machines.{bytes_eq-swap}

module _ {Row : Type 0} (name_of : Row → List ℕ) where
  -- where names differ, the name at a place is not among those before it
  pub fresh-at : (rows : List Row) (place : ℕ) (row : Row) → IsDistinct bytes_eq (map name_of rows)
      → place < length rows → Some row ≡ slice_get rows place
      → is_among (map name_of (take place rows)) (name_of row) ≡ false
  fresh-at rows place row differ below read =
      let names : List (List ℕ) = map name_of rows in
      let long : length names ≡ length rows = length-map rows name_of in
      subst (λ (l : List (List ℕ)). is_among l (name_of row) ≡ false) (take-map name_of place rows)
      (list_any_none (bytes_eq (name_of row)) (take place names)
      (λ k d l.
      let before : k < place = omega (arith, l, length-take place names) in
      let own : get_or names place d ≡ name_of row =
      get_or-map name_of rows place row d below ∙ ap name_of (get_or_from_slice_get rows place row row (sym read)) in
      ap (bytes_eq (name_of row)) (get_or-take place names k d before)
      ∙ bytes_eq-swap (get_or names k d) (name_of row) (ap (bytes_eq (get_or names k d)) (sym own)
      ∙ apart_from_distinct bytes_eq names k place d differ before (omega (arith, below, long)))))

-- one row more of those that are the first
pub take-next : {X : Type 0} (xs : List X) (place : ℕ) (x : X) → place < length xs → Some x ≡ slice_get xs place
    → take place xs ++ x ∷ [] ≡ take (place + 1) xs
take-next {X} xs place x below read =
    ap (λ (y : X). take place xs ++ y ∷ []) (sym (get_or_from_slice_get xs place x x (sym read)))
    ∙ sym (take_more xs place x below)

-- they weigh no more than all
pub sum-next : {X : Type 0} (w : X → ℕ) (xs : List X) (place : ℕ) (x : X) → place < length xs
    → Some x ≡ slice_get xs place → sum_by w (take place xs ++ x ∷ []) ≤ sum_by w xs
sum-next {X} w xs place x below read =
    subst (λ (l : List X). sum_by w l ≤ sum_by w xs) (sym (take-next xs place x below read))
    (sum_by-take-le w xs (place + 1))

-- the last of some tasks, placed
placed-last : (tasks : List Task) (place : ℕ) (task : Task) (machine : Option (List ℕ)) (waited : ℕ)
    → length tasks ≡ place
    → placed_at (tasks ++ task ∷ []) place machine waited ≡ tasks ++ standing machine waited task ∷ []
placed-last [] zero task machine waited same = refl
placed-last [] (suc place) task machine waited same = absurd (omega arith)
placed-last (t ∷ tasks) zero task machine waited same = absurd (omega arith)
placed-last (t ∷ tasks) (suc place) task machine waited same =
    ap (λ (l : List Task). t ∷ l) (placed-last tasks place task machine waited (omega arith))

-- a task placed, as the network's proofs say it
pub placed-updated : (tasks : List Task) (place : ℕ) (machine : Option (List ℕ)) (waited : ℕ)
    → update_at tasks place (placed machine waited) ≡ placed_at tasks place machine waited
placed-updated [] place machine waited = refl
placed-updated (task ∷ tasks) zero machine waited = refl
placed-updated (task ∷ tasks) (suc place) machine waited =
    ap (λ (l : List Task). task ∷ l) (placed-updated tasks place machine waited)

pub rows-updated : (rows : TenantRows) (place : ℕ) (machine : Option (List ℕ)) (waited : ℕ)
    → with_task_at rows place machine waited ≡ with_task_placed rows place machine waited
rows-updated rows place machine waited =
    ap (λ (l : List Task). let r : TenantRows = record rows { tasks = l } in r)
    (placed-updated rows.tasks place machine waited)

module _ (rows : TenantRows) (sound : AreSound rows) where
  module _ (place : ℕ) (machine : Machine) (below : place < length rows.machines)
      (read : Some machine ≡ slice_get rows.machines place) where
    pub machine-next : with_machine (machines_first rows place) machine.name machine.slots
        ≡ machines_first rows (place + 1)
    machine-next =
        ap (λ (l : List Machine). let r : TenantRows = record rows { machines = l; jobs = []; tasks = [] } in r)
        (take-next rows.machines place machine below read)

    pub machine-fits : (LackNodes (with_machine (machines_first rows place) machine.name machine.slots) → ⊥)
        × (LackArcs (with_machine (machines_first rows place) machine.name machine.slots) → ⊥)
    machine-fits =
        let long = ap (λ (l : List Machine). length l) (take-next rows.machines place machine below read) in
        let few = length-take (place + 1) rows.machines in
        let wide = sum-next (λ (m : Machine). 1 + m.slots) rows.machines place machine below read in (
          λ lack. omega (arith, lack, long, few, sound.fits.nodes),
          λ lack. omega (arith, lack.1, wide, sound.fits.arcs),
        )

  module _ (place : ℕ) (job : Job) (below : place < length rows.jobs) (read : Some job ≡ slice_get rows.jobs place)
    where
      pub job-next : with_job (jobs_first rows place) job.name job.weight ≡ jobs_first rows (place + 1)
      job-next =
          ap (λ (l : List Job). let r : TenantRows = record rows { jobs = l; tasks = [] } in r)
          (take-next rows.jobs place job below read)

      pub job-fits : (LackNodes (with_job (jobs_first rows place) job.name job.weight) → ⊥)
          × (LackArcs (with_job (jobs_first rows place) job.name job.weight) → ⊥)
      job-fits =
          let long = ap (λ (l : List Job). length l) (take-next rows.jobs place job below read) in
          let few = length-take (place + 1) rows.jobs in (
            λ lack. omega (arith, lack, long, few, sound.fits.nodes),
            λ lack. omega (arith, lack.1, long, few, sound.fits.arcs),
          )

  module _ (place : ℕ) (task : Task) (below : place < length rows.tasks)
      (read : Some task ≡ slice_get rows.tasks place) where
    pub task-fits : (LackNodes (with_task (tasks_first rows place) task.job task.name task.preferred) → ⊥)
        × (LackArcs (with_task (tasks_first rows place) task.job task.name task.preferred) → ⊥)
    task-fits =
        let many : Task → ℕ = λ (t : Task). length t.preferred in
        let anew : Task = new_task task.job task.name task.preferred in
        let long = ap (λ (l : List Task). length l) (take-next rows.tasks place task below read) in
        let few = length-take (place + 1) rows.tasks in
        let first : List Task = take place rows.tasks in
        let as_long : length (first ++ anew ∷ []) ≡ length (first ++ task ∷ []) =
        omega (arith, length-append {A = Task}) in
        let as_many : sum_by many (first ++ anew ∷ []) ≡ sum_by many (first ++ task ∷ []) =
        omega (arith, sum_by-append {X = Task}, sum_by-cons {X = Task}) in
        let wide = sum-next many rows.tasks place task below read in (
          λ lack. omega (arith, lack, as_long, long, few, sound.fits.nodes),
          λ lack. omega (arith, lack.1, as_long, as_many, long, few, wide, sound.fits.arcs),
        )

    pub task-next : with_task_placed (with_task (tasks_first rows place) task.job task.name task.preferred) place
        task.machine task.waited ≡ tasks_first rows (place + 1)
    task-next =
        ap (λ (l : List Task). let r : TenantRows = record rows { tasks = l } in r)
        (placed-last (take place rows.tasks) place (new_task task.job task.name task.preferred) task.machine task.waited
        (length-take-le place rows.tasks (omega (arith, below)))
        ∙ take-next rows.tasks place task below read)

    -- the first of the tasks take no more slots than all
    pub room-first : HasRoom (tasks_first rows (place + 1))
    room-first k d l =
        let name : List ℕ = (slice_index_or rows.machines k d).name in
        omega (
          arith,
          sound.room k d l,
          sum_by-take-le (λ (t : Task). cond (is_on name t.machine) 1 0) rows.tasks (place + 1),
        )

    pub room-next : IfSome task.machine (λ _. HasRoom (with_task_placed (with_task (tasks_first rows place) task.job
        task.name task.preferred) place task.machine task.waited))
    room-next = either task.machine
      where
        after : TenantRows
        after =
            with_task_placed (with_task (tasks_first rows place) task.job task.name task.preferred) place task.machine
            task.waited

        either : (machine : Option (List ℕ)) → IfSome machine (λ _. HasRoom after)
        either None = tt
        either (Some name) = subst HasRoom (sym task-next) room-first

    -- what holds of each task holds of this one
    pub of-task : (P : Task → Type 0) → All P rows.tasks → P task
    of-task P each = subst P (get_or_from_slice_get rows.tasks place task task (sym read)) (each place task below)
