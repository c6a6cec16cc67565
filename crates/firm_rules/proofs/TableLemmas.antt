-- Rows that stand under their own names.
use Rattle.std.proofs.Common.{◌≡◌, ◌+◌, ◌<◌, ◌≤◌, ℕ, zero, suc, true, false, cond, List, [], ◌∷◌, ◌++◌, map, remove}
use Rattle.std.proofs.Common.{length, count_by, Option, None, Some, IfSome, is_some, slice_get, slice_index_or}
use Rattle.std.proofs.Common.{true≢false}
use Rattle.std.proofs.Common.{refl, sym, ap, subst, ◌∙◌, ◌-◌, bytes_eq, arith}
use Rattle.std.specs.List.{IsDistinct}
use Rattle.std.specs.Map.{lookup, keys_of, values_of}
use Rattle.std.proofs.lemmas.Map.Made.{is_some-lookup}
use Rattle.std.proofs.lemmas.List.{map-append, get_or-map}
use Rattle.std.proofs.lemmas.List.Sums.{sum_by-cons, sum_by_push, sum_by-remove, get_or-le-sum_by}
use Rattle.indexmap.specs.IndexMap.{IndexMap, keys, insert_entry}
use Rattle.indexmap.proofs.CallerLemmas.{insert_entry-new}
use Rattle.indexmap.proofs.SetLemmas.{map-remove}
use Rattle.firm_rules.specs.Limits.{TenantLimits}
use Rattle.firm_rules.specs.Names.{is_among, is_name}
use Rattle.firm_rules.specs.Book.{TenantRows, machine_names, job_names, task_names, name_at, is_on, evicted}
use Rattle.firm_rules.specs.Book.{running_count, with_machine, with_job, with_restored, placed_at, with_task_placed}
use Rattle.firm_rules.specs.Book.{without_machine, without_job, without_task, has_tasks, forgetting}
use Rattle.firm_rules.specs.ArenaUse.{FitsLimits, machine_arc_count, preference_count}
use Rattle.firm_rules.specs.Sound.{AreSound, HasRoom}
use Rattle.firm_rules.specs.SoundBook.{AreInForm}
use Rattle.firm_rules.specs.inner.Tables.{StandsByName, AreTables, rows_in}
use Rattle.firm_rules.specs.Placement.{IsLegal, is_legal}
use Rattle.firm_rules.specs.Round.{case_of, rows_after, settled, task_after, zipped}
use Rattle.firm_rules.specs.declared.book.Machine.{Machine}
use Rattle.firm_rules.specs.declared.book.Job.{Job}
use Rattle.firm_rules.specs.declared.book.Task.{Task}
use Rattle.firm_rules.specs.declared.rounds.Choice.{Choice}
use Rattle.firm_rules.proofs.Legals.{to_legal}
use Rattle.firm_rules.proofs.NamedRows.{filter-remove}
use Rattle.firm_rules.proofs.FormedRows.{form-with_machine, form-with_job, form-with_restored, form-placed}
use Rattle.firm_rules.proofs.FormedRows.{form-without_machine, form-without_job, form-without_task, form-rows_after}
use Rattle.firm_rules.proofs.PlacedRows.{names-placed, preferences-placed, counted-placed, sound-placed}
use Rattle.firm_rules.proofs.SoundRows.{sound-with_machine, sound-with_job, sound-with_restored, sound-without_machine}
use Rattle.firm_rules.proofs.SoundRows.{sound-without_job, sound-without_task, sound-rows_after, names-evicted}
use Rattle.firm_rules.proofs.SoundRows.{names-zipped, preferences-zipped, one_each, one_if, IsThere, AreThere}

module _ {Row : Type 0} (name_of_row : Row → List ℕ) (entries : List (List ℕ × Row)) where
  -- a look-up finds a name exactly where a row has it
  pub is_some-lookup-by_name : StandsByName name_of_row entries → (name : List ℕ)
      → is_some (lookup (bytes_eq name) entries) ≡ is_among (map name_of_row (values_of entries)) name
  is_some-lookup-by_name stands name = is_some-lookup (bytes_eq name) entries ∙ ap (λ names. is_among names name) stands

  -- rows stand under their own names after a row is added last under its name
  pub StandsByName-add : StandsByName name_of_row entries → (row : Row)
      → StandsByName name_of_row (entries ++ (name_of_row row, row) ∷ [])
  StandsByName-add stands row = simp map-append (ap (λ names. names ++ name_of_row row ∷ []) stands)

  -- and once one is removed
  pub StandsByName-remove : (place : ℕ) → StandsByName name_of_row entries
      → StandsByName name_of_row (remove entries place)
  StandsByName-remove place stands =
      map-remove (λ (e : List ℕ × Row). e.0) entries place
      ∙ ap (λ (names : List (List ℕ)). remove names place) stands
      ∙ sym (map-remove name_of_row (values_of entries) place)
      ∙ ap (λ (rows : List Row). map name_of_row rows) (sym (map-remove (λ (e : List ℕ × Row). e.1) entries place))

-- a row whose name is new goes last
pub insert_entry-last : {Row S : Type 0} (table : IndexMap (List ℕ) Row S) (name : List ℕ) (row : Row)
    → is_among (keys table) name ≡ false
    → insert_entry bytes_eq table.entries name row ≡ table.entries ++ (name, row) ∷ []
insert_entry-last table name row new =
    insert_entry-new bytes_eq table name row
    (no_value (lookup (bytes_eq name) table.entries) (is_some-lookup (bytes_eq name) table.entries ∙ new))
  where
    no_value : {V : Type 0} (found : Option V) → is_some found ≡ false → found ≡ None
    no_value None _ = refl
    no_value (Some _) there = absurd (true≢false there)

-- three tables that hold these rows, with the counts that are kept
pub record AreTablesOf (rows : TenantRows) (limits : TenantLimits) (machines : List (List ℕ × Machine))
    (jobs : List (List ℕ × Job)) (tasks : List (List ℕ × Task)) (arcs preferences running : ℕ) : Type 0 where
  pub tables : AreTables limits machines jobs tasks arcs preferences running
  pub view : rows_in limits machines jobs tasks ≡ rows

-- an entry that was read at a place
pub entry-at : {Row : Type 0} (entries : List (List ℕ × Row)) (place : ℕ) (name : List ℕ) (row : Row)
    → Some (name, row) ≡ slice_get entries place
    → (name_at (keys_of entries) place ≡ name) × ((d : Row) → slice_index_or (values_of entries) place d ≡ row)
entry-at [] place name row read = absurd (true≢false (ap is_some read))
entry-at {Row} (entry ∷ entries) zero name row read =
    let out : Option (List ℕ × Row) → List ℕ × Row = λ o. elim o [ None ↦ (name, row) | Some e ↦ e ] in
    let same : (name, row) ≡ entry = ap out read in
    (sym (ap (λ (e : List ℕ × Row). e.0) same), λ d. sym (ap (λ (e : List ℕ × Row). e.1) same))
entry-at (entry ∷ entries) (suc place) name row read = entry-at entries place name row read

-- those that ran on a machine that is gone run no more
running-evicted : (gone : List ℕ) (tasks : List Task)
    → running_count (map (evicted gone) tasks) + count_by (λ task. is_on gone task.machine) tasks ≡ running_count tasks
running-evicted gone [] = refl
running-evicted gone (task ∷ tasks) =
    let runs : Task → ℕ = λ t. cond (is_some t.machine) 1 0 in
    let on : Task → ℕ = λ t. cond (is_on gone t.machine) 1 0 in
    omega (
      arith,
      sum_by-cons runs (evicted gone task) (map (evicted gone) tasks),
      sum_by-cons runs task tasks,
      sum_by-cons on task tasks,
      one,
      running-evicted gone tasks,
    )
  where
    on_runs : (machine : Option (List ℕ)) → is_on gone machine ≡ true → is_some machine ≡ true
    on_runs None h = h
    on_runs (Some name) h = refl

    one : one_if (is_some (evicted gone task).machine) + one_if (is_on gone task.machine)
        ≡ one_if (is_some task.machine)
    one = elim (is_on gone task.machine) as (λ b. is_on gone task.machine ≡ b
        → one_if (is_some (cond b (record (forgetting gone task) { machine = None; waited = 0 })
        (forgetting gone task)).machine)
        + one_if b
        ≡ one_if (is_some task.machine)) [
          | true ↦ λ e. sym (ap one_if (on_runs task.machine e))
          | false ↦ λ _. omega arith
        ] refl

module _ {limits : TenantLimits} {machines : List (List ℕ × Machine)} {jobs : List (List ℕ × Job)}
    {tasks : List (List ℕ × Task)} {arcs preferences running : ℕ}
    (were : AreTables limits machines jobs tasks arcs preferences running)
    {rows : TenantRows}
    (view : rows_in limits machines jobs tasks ≡ rows) where
  sound : AreSound rows
  sound = subst AreSound view were.sound

  form : AreInForm rows
  form = subst AreInForm view were.form

  pub tables-with_machine : (name : List ℕ) (slots : ℕ) {wide : ℕ} {more : List (List ℕ × Machine)}
      → more ≡ machines ++ (name, record { name = name; slots = slots }) ∷ []
      → IsDistinct bytes_eq (keys_of more) → is_among (machine_names rows) name ≡ false
      → FitsLimits (with_machine rows name slots) → 1 ≤ slots → slots ≤ 64
      → wide ≡ slots → is_name name ≡ true
      → AreTablesOf (with_machine rows name slots) limits more jobs tasks (arcs + (1 + wide)) preferences running
  tables-with_machine name slots {wide} {more} is unique new fits least most wide-is formed =
      let machine : Machine = record { name = name; slots = slots } in
      let values : values_of more ≡ values_of machines ++ machine ∷ [] =
      ap values_of is ∙ map-append (λ (e : List ℕ × Machine). e.1) machines ((name, machine) ∷ []) in
      let named : StandsByName (λ (m : Machine). m.name) more =
      subst (StandsByName (λ (m : Machine). m.name)) (sym is)
      (StandsByName-add (λ (m : Machine). m.name) machines were.machines_by_name machine) in
      let after : rows_in limits more jobs tasks ≡ with_machine rows name slots =
      ap (λ (l : List Machine). let r : TenantRows =
      record { limits = limits; machines = l; jobs = values_of jobs; tasks = values_of tasks } in r)
      values
      ∙ ap (λ (r : TenantRows). with_machine r name slots) view in
      let kept : AreSound (with_machine rows name slots) =
      sound-with_machine rows sound name slots (subst (IsDistinct bytes_eq) (named ∙ ap machine_names after) unique) new
      fits least most in
      record {
        tables = record {
          machines_by_name = named;
          jobs_by_name = were.jobs_by_name;
          tasks_by_name = were.tasks_by_name;
          sound = subst AreSound (sym after) kept;
          form = subst AreInForm (sym after) (form-with_machine rows form name slots formed);
          arcs_kept =
              omega (
                arith,
                wide-is,
                were.arcs_kept,
                ap machine_arc_count values,
                sum_by_push (λ (m : Machine). 1 + m.slots) (values_of machines) machine,
              );
          preferences_kept = were.preferences_kept;
          running_kept = were.running_kept;
        };
        view = after;
      }

  pub tables-with_job : (name : List ℕ) (weight : ℕ) {more : List (List ℕ × Job)}
      → more ≡ jobs ++ (name, record { name = name; weight = weight }) ∷ []
      → IsDistinct bytes_eq (keys_of more) → FitsLimits (with_job rows name weight) → 1 ≤ weight → weight ≤ 1000000
      → is_name name ≡ true
      → AreTablesOf (with_job rows name weight) limits machines more tasks arcs preferences running
  tables-with_job name weight {more} is unique fits least most formed =
      let job : Job = record { name = name; weight = weight } in
      let values : values_of more ≡ values_of jobs ++ job ∷ [] =
      ap values_of is ∙ map-append (λ (e : List ℕ × Job). e.1) jobs ((name, job) ∷ []) in
      let named : StandsByName (λ (j : Job). j.name) more =
      subst (StandsByName (λ (j : Job). j.name)) (sym is)
      (StandsByName-add (λ (j : Job). j.name) jobs were.jobs_by_name job) in
      let after : rows_in limits machines more tasks ≡ with_job rows name weight =
      ap (λ (l : List Job). let r : TenantRows =
      record { limits = limits; machines = values_of machines; jobs = l; tasks = values_of tasks } in r)
      values
      ∙ ap (λ (r : TenantRows). with_job r name weight) view in
      let kept : AreSound (with_job rows name weight) =
      sound-with_job rows sound name weight (subst (IsDistinct bytes_eq) (named ∙ ap job_names after) unique) fits least
      most in
      record {
        tables = record {
          machines_by_name = were.machines_by_name;
          jobs_by_name = named;
          tasks_by_name = were.tasks_by_name;
          sound = subst AreSound (sym after) kept;
          form = subst AreInForm (sym after) (form-with_job rows form name weight formed);
          arcs_kept = were.arcs_kept;
          preferences_kept = were.preferences_kept;
          running_kept = were.running_kept;
        };
        view = after;
      }

  pub tables-with_restored : (task : Task) {more : List (List ℕ × Task)} {many one : ℕ}
      → more ≡ tasks ++ (task.name, task) ∷ []
      → IsDistinct bytes_eq (keys_of more) → is_among (job_names rows) task.job ≡ true
      → IsThere (machine_names rows) task.machine
      → AreThere (machine_names rows) task.preferred → length task.preferred ≤ 4 → IsDistinct bytes_eq task.preferred
      → IfSome task.machine (λ _. HasRoom (with_restored rows task)) → task.waited ≤ rows.limits.patience
      → IfSome task.machine (λ _. task.waited ≡ 0) → FitsLimits (with_restored rows task)
      → is_name task.name ≡ true → many ≡ length task.preferred → one ≡ one_if (is_some task.machine)
      → AreTablesOf (with_restored rows task) limits machines jobs more arcs (preferences + many) (running + one)
  tables-with_restored task {more} {many} is unique there home prefers few apart room waited fresh fits formed many-is
      one-is =
      let values : values_of more ≡ values_of tasks ++ task ∷ [] =
      ap values_of is ∙ map-append (λ (e : List ℕ × Task). e.1) tasks ((task.name, task) ∷ []) in
      let named : StandsByName (λ (t : Task). t.name) more =
      subst (StandsByName (λ (t : Task). t.name)) (sym is)
      (StandsByName-add (λ (t : Task). t.name) tasks were.tasks_by_name task) in
      let after : rows_in limits machines jobs more ≡ with_restored rows task =
      ap (λ (l : List Task). let r : TenantRows =
      record { limits = limits; machines = values_of machines; jobs = values_of jobs; tasks = l } in r)
      values
      ∙ ap (λ (r : TenantRows). with_restored r task) view in
      let kept : AreSound (with_restored rows task) =
      sound-with_restored rows sound task (subst (IsDistinct bytes_eq) (named ∙ ap task_names after) unique) there home
      prefers few apart room waited fits in
      record {
        tables = record {
          machines_by_name = were.machines_by_name;
          jobs_by_name = were.jobs_by_name;
          tasks_by_name = named;
          sound = subst AreSound (sym after) kept;
          form = subst AreInForm (sym after) (form-with_restored rows form task formed fresh);
          arcs_kept = were.arcs_kept;
          preferences_kept =
              omega (
                arith,
                many-is,
                were.preferences_kept,
                ap preference_count values,
                sum_by_push (λ (t : Task). length t.preferred) (values_of tasks) task,
              );
          running_kept =
              omega (
                arith,
                one-is,
                were.running_kept,
                ap running_count values,
                sum_by_push (λ (t : Task). cond (is_some t.machine) 1 0) (values_of tasks) task,
              );
        };
        view = after;
      }

  -- what a task counts for is among those that run
  pub ran-le : (place : ℕ) {ran : ℕ} → place < length rows.tasks
      → ((d : Task) → ran ≡ one_if (is_some (slice_index_or (values_of tasks) place d).machine)) → ran ≤ running
  ran-le place below ran-is =
      let any : Task = record { name = []; job = []; preferred = []; machine = None; waited = 0 } in
      let inside : place < length (values_of tasks) =
      omega (arith, below, ap (λ (r : TenantRows). length r.tasks) view) in
      omega (
        arith,
        ran-is any,
        were.running_kept,
        get_or-le-sum_by (λ (t : Task). one_if (is_some t.machine)) (values_of tasks) place any inside,
      )

  -- the tables with the task at a place on another machine, or waiting; `ran` is what it counted for, `one` what it
  -- counts for
  pub tables-placed : (place : ℕ) (machine : Option (List ℕ)) (waited : ℕ) {placed : List (List ℕ × Task)} {ran one : ℕ}
      → place < length rows.tasks → IsThere (machine_names rows) machine
      → IfSome machine (λ _. HasRoom (with_task_placed rows place machine waited)) → waited ≤ rows.limits.patience
      → IfSome machine (λ _. waited ≡ 0) → keys_of placed ≡ keys_of tasks
      → values_of placed ≡ placed_at (values_of tasks) place machine waited
      → ((d : Task) → ran ≡ one_if (is_some (slice_index_or (values_of tasks) place d).machine))
      → one ≡ one_if (is_some machine)
      → AreTablesOf (with_task_placed rows place machine waited) limits machines jobs placed arcs preferences
      (running - ran + one)
  tables-placed place machine waited {placed} {ran} {one} below there room few fresh same-keys values ran-is one-is =
      let any : Task = record { name = []; job = []; preferred = []; machine = None; waited = 0 } in
      let runs : Option (List ℕ) → ℕ = λ m. one_if (is_some m) in
      let inside : place < length (values_of tasks) =
      omega (arith, below, ap (λ (r : TenantRows). length r.tasks) view) in
      let counted = counted-placed runs (values_of tasks) place machine waited any inside in
      let after : rows_in limits machines jobs placed ≡ with_task_placed rows place machine waited =
      ap (λ (l : List Task). let r : TenantRows =
      record { limits = limits; machines = values_of machines; jobs = values_of jobs; tasks = l } in r)
      values
      ∙ ap (λ (r : TenantRows). with_task_placed r place machine waited) view in
      record {
        tables = record {
          machines_by_name = were.machines_by_name;
          jobs_by_name = were.jobs_by_name;
          tasks_by_name =
              same-keys ∙ were.tasks_by_name ∙ sym (names-placed (values_of tasks) place machine waited)
              ∙ sym (ap (λ (l : List Task). map (λ (t : Task). t.name) l) values);
          sound = subst AreSound (sym after) (sound-placed rows sound place machine waited below there room few);
          form = subst AreInForm (sym after) (form-placed rows form place machine waited fresh);
          arcs_kept = were.arcs_kept;
          preferences_kept =
              were.preferences_kept ∙ sym (preferences-placed (values_of tasks) place machine waited)
              ∙ sym (ap preference_count values);
          running_kept =
              omega (
                arith,
                ran-is any,
                one-is,
                were.running_kept,
                counted,
                ap running_count values,
                ran-le place below ran-is,
              );
        };
        view = after;
      }

  pub tables-without_job : (place : ℕ) {less : List (List ℕ × Job)} → less ≡ remove jobs place
      → IsDistinct bytes_eq (keys_of less) → place < length rows.jobs
      → has_tasks rows (name_at (job_names rows) place) ≡ false
      → AreTablesOf (without_job rows (name_at (job_names rows) place)) limits machines less tasks arcs preferences
      running
  tables-without_job place {less} is unique below no_tasks =
      let gone : List ℕ = name_at (job_names rows) place in
      let values : values_of less ≡ remove (values_of jobs) place =
      ap values_of is ∙ map-remove (λ (e : List ℕ × Job). e.1) jobs place in
      let named : StandsByName (λ (j : Job). j.name) less =
      subst (StandsByName (λ (j : Job). j.name)) (sym is)
      (StandsByName-remove (λ (j : Job). j.name) jobs place were.jobs_by_name) in
      let after : rows_in limits machines less tasks ≡ without_job rows gone =
      ap (λ (l : List Job). let r : TenantRows =
      record { limits = limits; machines = values_of machines; jobs = l; tasks = values_of tasks } in r)
      values
      ∙ ap (λ (r : TenantRows). let s : TenantRows = record r { jobs = remove r.jobs place } in s) view
      ∙ ap (λ (l : List Job). let r : TenantRows = record rows { jobs = l } in r)
      (sym (filter-remove (λ (j : Job). j.name) rows.jobs place sound.job_names_differ below)) in
      let kept : AreSound (without_job rows gone) =
      sound-without_job rows sound gone (subst (IsDistinct bytes_eq) (named ∙ ap job_names after) unique) no_tasks in
      record {
        tables = record {
          machines_by_name = were.machines_by_name;
          jobs_by_name = named;
          tasks_by_name = were.tasks_by_name;
          sound = subst AreSound (sym after) kept;
          form = subst AreInForm (sym after) (form-without_job rows form gone);
          arcs_kept = were.arcs_kept;
          preferences_kept = were.preferences_kept;
          running_kept = were.running_kept;
        };
        view = after;
      }

  -- how many preferences the tasks have without the task at a place
  pub preferences-at : (place : ℕ) (name : List ℕ) (task : Task) → Some (name, task) ≡ slice_get tasks place
      → place < length rows.tasks
      → preference_count (remove (values_of tasks) place) + length task.preferred ≡ preferences
  preferences-at place name task read below =
      let many : Task → ℕ = λ t. length t.preferred in
      let there : place < length (values_of tasks) =
      omega (arith, below, ap (λ (r : TenantRows). length r.tasks) view) in
      omega (
        arith,
        were.preferences_kept,
        sum_by-remove many (values_of tasks) place task there,
        ap many ((entry-at tasks place name task read).1 task),
      )

  -- what the task at a place counts for among those that run
  pub running-at : (place : ℕ) (name : List ℕ) (task : Task) → Some (name, task) ≡ slice_get tasks place
      → place < length rows.tasks
      → running_count (remove (values_of tasks) place) + cond (is_some task.machine) 1 0 ≡ running
  running-at place name task read below =
      let runs : Task → ℕ = λ t. cond (is_some t.machine) 1 0 in
      let there : place < length (values_of tasks) =
      omega (arith, below, ap (λ (r : TenantRows). length r.tasks) view) in
      omega (
        arith,
        were.running_kept,
        sum_by-remove runs (values_of tasks) place task there,
        ap runs ((entry-at tasks place name task read).1 task),
      )

  -- the tables without the task at a place, where `one` is what it counts for, and `many` its preferences
  pub tables-without_task : (place : ℕ) {less : List (List ℕ × Task)} {name : List ℕ} {task : Task} {many one : ℕ}
      → less ≡ remove tasks place → IsDistinct bytes_eq (keys_of less) → Some (name, task) ≡ slice_get tasks place
      → place < length rows.tasks → many ≡ length task.preferred → one ≡ one_if (is_some task.machine)
      → AreTablesOf (without_task rows (name_at (task_names rows) place)) limits machines jobs less arcs
      (preferences - many) (running - one)
  tables-without_task place {less} {name} {task} {many} {one} is unique read below many-is one-is =
      let gone : List ℕ = name_at (task_names rows) place in
      let values : values_of less ≡ remove (values_of tasks) place =
      ap values_of is ∙ map-remove (λ (e : List ℕ × Task). e.1) tasks place in
      let named : StandsByName (λ (t : Task). t.name) less =
      subst (StandsByName (λ (t : Task). t.name)) (sym is)
      (StandsByName-remove (λ (t : Task). t.name) tasks place were.tasks_by_name) in
      let after : rows_in limits machines jobs less ≡ without_task rows gone =
      ap (λ (l : List Task). let r : TenantRows =
      record { limits = limits; machines = values_of machines; jobs = values_of jobs; tasks = l } in r)
      values
      ∙ ap (λ (r : TenantRows). let s : TenantRows = record r { tasks = remove r.tasks place } in s) view
      ∙ ap (λ (l : List Task). let r : TenantRows = record rows { tasks = l } in r)
      (sym (filter-remove (λ (t : Task). t.name) rows.tasks place sound.task_names_differ below)) in
      let kept : AreSound (without_task rows gone) =
      sound-without_task rows sound gone (subst (IsDistinct bytes_eq) (named ∙ ap task_names after) unique) in
      record {
        tables = record {
          machines_by_name = were.machines_by_name;
          jobs_by_name = were.jobs_by_name;
          tasks_by_name = named;
          sound = subst AreSound (sym after) kept;
          form = subst AreInForm (sym after) (form-without_task rows form gone);
          arcs_kept = were.arcs_kept;
          preferences_kept =
              omega (arith, many-is, preferences-at place name task read below, ap preference_count values);
          running_kept = omega (arith, one-is, running-at place name task read below, ap running_count values);
        };
        view = after;
      }

  -- a machine's arcs are among those that are kept
  pub arcs-at : (place : ℕ) (name : List ℕ) (machine : Machine) → Some (name, machine) ≡ slice_get machines place
      → place < length rows.machines
      → machine_arc_count (remove (values_of machines) place) + (1 + machine.slots) ≡ arcs
  arcs-at place name machine read below =
      let wide : Machine → ℕ = λ m. 1 + m.slots in
      let there : place < length (values_of machines) =
      omega (arith, below, ap (λ (r : TenantRows). length r.machines) view) in
      omega (
        arith,
        were.arcs_kept,
        sum_by-remove wide (values_of machines) place machine there,
        ap wide ((entry-at machines place name machine read).1 machine),
      )

  -- as many tasks run as do after the eviction, and those that were evicted
  pub running-drained : (gone : List ℕ) (out : ℕ) → out ≡ count_by (λ task. is_on gone task.machine) (values_of tasks)
      → running_count (map (evicted gone) (values_of tasks)) + out ≡ running
  running-drained gone out out-is = omega (arith, out-is, were.running_kept, running-evicted gone (values_of tasks))

  -- the name of a machine that was read
  pub read-name : (place : ℕ) (name : List ℕ) (machine : Machine) → Some (name, machine) ≡ slice_get machines place
      → place < length rows.machines
      → machine.name ≡ name_at (machine_names rows) place
  read-name place name machine read below =
      let there : place < length (values_of machines) =
      omega (arith, below, ap (λ (r : TenantRows). length r.machines) view) in
      ap (λ (m : Machine). m.name) (sym ((entry-at machines place name machine read).1 machine))
      ∙ sym (get_or-map (λ (m : Machine). m.name) (values_of machines) place machine [] there)
      ∙ ap (λ (r : TenantRows). name_at (machine_names r) place) view

  -- the tables without the machine at a place, which had `wide` slots and `out` tasks
  pub tables-without_machine : (place : ℕ) {less : List (List ℕ × Machine)} {name : List ℕ} {machine : Machine}
      {waiting : List (List ℕ × Task)} {wide left out : ℕ}
      → less ≡ remove machines place → IsDistinct bytes_eq (keys_of less)
      → Some (name, machine) ≡ slice_get machines place
      → place < length rows.machines → keys_of waiting ≡ keys_of tasks
      → values_of waiting ≡ map (evicted machine.name) (values_of tasks) → wide ≡ machine.slots
      → left ≡ preference_count (values_of waiting)
      → out ≡ count_by (λ task. is_on machine.name task.machine) (values_of tasks)
      → AreTablesOf (without_machine rows (name_at (machine_names rows) place)) limits less jobs waiting
      (arcs - (1 + wide)) left (running - out)
  tables-without_machine place {less} {name} {machine} {waiting} is unique read below same-keys evicts wide-is left-is
      out-is =
      let gone : List ℕ = name_at (machine_names rows) place in
      let gone-is : machine.name ≡ gone = read-name place name machine read below in
      let values : values_of less ≡ remove (values_of machines) place =
      ap values_of is ∙ map-remove (λ (e : List ℕ × Machine). e.1) machines place in
      let named : StandsByName (λ (m : Machine). m.name) less =
      subst (StandsByName (λ (m : Machine). m.name)) (sym is)
      (StandsByName-remove (λ (m : Machine). m.name) machines place were.machines_by_name) in
      let after : rows_in limits less jobs waiting ≡ without_machine rows gone =
      ap (λ (l : List Machine). let r : TenantRows =
      record { limits = limits; machines = l; jobs = values_of jobs; tasks = values_of waiting } in r)
      values
      ∙ ap (λ (l : List Task). let r : TenantRows =
      record { limits = limits; machines = remove (values_of machines) place; jobs = values_of jobs; tasks = l } in r)
      (evicts ∙ ap (λ (n : List ℕ). map (evicted n) (values_of tasks)) gone-is)
      ∙ ap (λ (r : TenantRows). let s : TenantRows =
      record r { machines = remove r.machines place; tasks = map (evicted gone) r.tasks } in s)
      view
      ∙ ap (λ (l : List Machine). let r : TenantRows =
      record rows { machines = l; tasks = map (evicted gone) rows.tasks } in r)
      (sym (filter-remove (λ (m : Machine). m.name) rows.machines place sound.machine_names_differ below)) in
      let kept : AreSound (without_machine rows gone) =
      sound-without_machine rows sound gone (subst (IsDistinct bytes_eq) (named ∙ ap machine_names after) unique) in
      record {
        tables = record {
          machines_by_name = named;
          jobs_by_name = were.jobs_by_name;
          tasks_by_name = same-keys ∙ were.tasks_by_name ∙ sym (names-evicted machine.name (values_of tasks))
              ∙ sym (ap (λ (l : List Task). map (λ (t : Task). t.name) l) evicts);
          sound = subst AreSound (sym after) kept;
          form = subst AreInForm (sym after) (form-without_machine rows form gone);
          preferences_kept = left-is;
          arcs_kept = omega (arith, wide-is, arcs-at place name machine read below, ap machine_arc_count values);
          running_kept = omega (arith, running-drained machine.name _ out-is, ap running_count evicts);
        };
        view = after;
      }

  pub tables-settled : (choices : List Choice) {placed : List (List ℕ × Task)} {patience now : ℕ}
      → is_legal (case_of rows) choices ≡ true
      → keys_of placed ≡ keys_of tasks
      → patience ≡ limits.patience
      → values_of placed ≡ zipped (settled patience (values_of machines)) (values_of tasks) choices
      → now ≡ running_count (values_of placed)
      → AreTablesOf (rows_after rows choices) limits machines jobs placed arcs preferences now
  tables-settled choices {placed} {patience} {now} legal same-keys same-patience values now-is =
      let is_legal_list : IsLegal (case_of rows) choices = to_legal (case_of rows) choices legal in
      let round : values_of placed ≡ zipped (task_after rows) rows.tasks choices =
      values ∙ ap (λ (p : ℕ). zipped (settled p (values_of machines)) (values_of tasks) choices) same-patience
      ∙ ap (λ (r : TenantRows). zipped (settled r.limits.patience r.machines) r.tasks choices) view in
      let after : rows_in limits machines jobs placed ≡ rows_after rows choices =
      ap (λ (l : List Task). let r : TenantRows =
      record { limits = limits; machines = values_of machines; jobs = values_of jobs; tasks = l } in r)
      round
      ∙ ap (λ (r : TenantRows). let s : TenantRows =
      record r { tasks = zipped (task_after rows) rows.tasks choices } in s)
      view in
      record {
        tables = record {
          machines_by_name = were.machines_by_name;
          jobs_by_name = were.jobs_by_name;
          tasks_by_name =
              same-keys ∙ were.tasks_by_name ∙ ap task_names view
              ∙ sym (names-zipped rows rows.tasks choices (one_each rows sound choices is_legal_list))
              ∙ sym (ap (λ (l : List Task). map (λ (t : Task). t.name) l) round);
          sound = subst AreSound (sym after) (sound-rows_after rows sound choices is_legal_list);
          form = subst AreInForm (sym after) (form-rows_after rows form choices);
          arcs_kept = were.arcs_kept;
          preferences_kept =
              were.preferences_kept ∙ ap (λ (r : TenantRows). preference_count r.tasks) view
              ∙ sym (preferences-zipped rows rows.tasks choices (one_each rows sound choices is_legal_list))
              ∙ sym (ap preference_count round);
          running_kept = now-is;
        };
        view = after;
      }
