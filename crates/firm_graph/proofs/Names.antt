-- Rows whose machines, jobs or tasks are said by name and by place.
use Rattle.std.proofs.Common.{◌≡◌, ℕ, ◌<◌, Bool, false, Some, List, map, length, get_or, bytes_eq, sym, ap, ◌∙◌}
use Rattle.std.specs.List.{remove, All, list_any, position}
use Rattle.std.proofs.lemmas.Bool.{both_ways, false_from_ne_true}
use Rattle.std.proofs.lemmas.List.Folds.{list_any_at}
use Rattle.firm_rules.specs.Book.{TenantRows, name_at, evicted, without_machine, without_job, without_task}
use Rattle.firm_rules.specs.declared.book.Machine.{Machine}
use Rattle.firm_rules.specs.declared.book.Job.{Job}
use Rattle.firm_rules.specs.declared.book.Task.{Task}
use Rattle.firm_graph.specs.inner.Steps.{machine_gone, job_gone, task_gone}
use Rattle.firm_graph.specs.Graph.{Graph}
use Rattle.firm_graph.proofs.Machines.{bytes_eq-swap, name-at}

-- what is left by name is what is left by place
pub task-rows : (new old : TenantRows) (name : List ℕ) (place : ℕ) → new ≡ without_task old name
    → new.tasks ≡ remove old.tasks place → new ≡ task_gone old place
task-rows new old name place e f =
    e ∙ ap (λ (l : List Task). let r : TenantRows = record old { tasks = l } in r)
    (sym (ap (λ (r : TenantRows). r.tasks) e) ∙ f)

pub job-rows : (new old : TenantRows) (name : List ℕ) (place : ℕ) → new ≡ without_job old name
    → new.jobs ≡ remove old.jobs place → new ≡ job_gone old place
job-rows new old name place e f =
    e ∙ ap (λ (l : List Job). let r : TenantRows = record old { jobs = l } in r)
    (sym (ap (λ (r : TenantRows). r.jobs) e) ∙ f)

pub machine-rows : (new old : TenantRows) (name : List ℕ) (place : ℕ) → new ≡ without_machine old name
    → new.machines ≡ remove old.machines place
    → new ≡ machine_gone (record old { tasks = map (evicted name) old.tasks }) place
machine-rows new old name place e f =
    e ∙ ap (λ (l : List Machine). let r : TenantRows = record old
    { machines = l; tasks = map (evicted name) old.tasks } in r) (sym (ap (λ (r : TenantRows). r.machines) e) ∙ f)

-- no task is of a job that has none
pub none-of : (name : List ℕ) (tasks : List Task) → list_any (λ task. bytes_eq name task.job) tasks ≡ false
    → All (λ task. bytes_eq task.job name ≡ false) tasks
none-of name tasks h k d below =
    let test : Task → Bool = λ (t : Task). bytes_eq name t.job in
    let task : Task = get_or tasks k d in
    bytes_eq-swap name task.job (false_from_ne_true (test task)
    (λ t. both_ways (list_any test tasks) h (list_any_at test tasks k d below t)))

-- what was found by its name in the rows with which a graph is seen stands there in its own
module _ (names : TenantRows → List (List ℕ)) (g seen : Graph) (name : List ℕ) (place : ℕ) (view : g ≡ seen)
    (found : position (bytes_eq name) (names seen.rows) ≡ Some place) where
  pub seen-at : position (bytes_eq name) (names g.rows) ≡ Some place
  seen-at = ap (λ (h : Graph). position (bytes_eq name) (names h.rows)) view ∙ found

  pub seen-below : place < length (names g.rows)
  seen-below = (name-at (names g.rows) name place seen-at).1

  -- what holds of the name at the place holds of the name
  pub seen-name : {X : Type 0} (f : TenantRows → List ℕ → X)
      → f g.rows (name_at (names g.rows) place) ≡ f seen.rows name
  seen-name f =
      ap (λ (h : Graph). f h.rows (name_at (names h.rows) place)) view
      ∙ ap (f seen.rows) (name-at (names seen.rows) name place found).0
