-- The case beside the tables stays that of their rows.
use Rattle.std.proofs.Common.{◌≡◌, ℕ, ◌+◌, ◌<◌, ◌≤◌, true, List, length, is_some}
use Rattle.std.proofs.Common.{sym, ap, subst, ◌∙◌, arith}
use mir.Syntax.{w64}
use mir.Val.{Fits}
use Rattle.std.specs.Map.{values_of}
use Rattle.std.proofs.lemmas.List.{length-map, length_push}
use Rattle.std.proofs.lemmas.List.Sums.{count_by-le-length}
use Rattle.firm_rules.specs.Limits.{TenantLimits}
use Rattle.firm_rules.specs.ArenaUse.{FitsLimits}
use Rattle.firm_rules.specs.Book.{TenantRows, with_job, with_machine, with_restored}
use Rattle.firm_rules.specs.Sound.{AreSound}
use Rattle.firm_rules.specs.SoundBook.{AreInForm}
use Rattle.firm_rules.specs.Placement.{Case, is_legal}
use Rattle.firm_rules.specs.Round.{case_of, demand_of, rows_after, task_after}
use Rattle.firm_rules.specs.inner.Tables.{AreTablesAndCase, rows_in}
use Rattle.firm_rules.specs.declared.book.Machine.{Machine}
use Rattle.firm_rules.specs.declared.book.Job.{Job}
use Rattle.firm_rules.specs.declared.book.Task.{Task}
use Rattle.firm_rules.specs.declared.rounds.Choice.{Choice}
use Rattle.firm_rules.proofs.Legals.{to_legal}
use Rattle.firm_rules.proofs.SoundRows.{length-zipped}

-- a case that was that of the rows, and has changed as their case has
pub kept : {old rows after new : TenantRows} {was now : Case} (f : Case → Case) → was ≡ case_of old → old ≡ rows
    → now ≡ f was → case_of after ≡ f (case_of rows) → new ≡ after → now ≡ case_of new
kept f was-is view now-is law after-is =
    now-is ∙ ap f (was-is ∙ ap case_of view) ∙ sym law ∙ ap case_of (sym after-is)

-- there are as many tasks after a round as choices
pub settled-counted : (rows : TenantRows) (choices : List Choice) → is_legal (case_of rows) choices ≡ true
    → length choices ≡ length (rows_after rows choices).tasks
settled-counted rows choices legal =
    let one_each : length choices ≡ length rows.tasks =
    (to_legal (case_of rows) choices legal).one_each ∙ length-map rows.tasks (demand_of rows) in
    one_each ∙ sym (length-zipped (task_after rows) rows.tasks choices one_each)

module _ {limits : TenantLimits} {machines : List (List ℕ × Machine)} {jobs : List (List ℕ × Job)}
    {tasks : List (List ℕ × Task)} {arcs preferences running : ℕ} {case : Case}
    (were : AreTablesAndCase limits machines jobs tasks arcs preferences running case)
    {rows : TenantRows}
    (view : rows_in limits machines jobs tasks ≡ rows) where
  pub sound-rows : AreSound rows
  sound-rows = subst AreSound view were.tables.sound

  pub form-rows : AreInForm rows
  form-rows = subst AreInForm view were.tables.form

  pub is-case : case ≡ case_of rows
  is-case = were.case ∙ ap case_of view

  pub slots-counted : length case.slots ≡ length rows.machines
  slots-counted = ap (λ (k : Case). length k.slots) is-case ∙ length-map rows.machines (λ (m : Machine). m.slots)

  pub jobs-counted : case.jobs ≡ length rows.jobs
  jobs-counted = ap (λ (k : Case). k.jobs) is-case

  pub tasks-counted : length case.tasks ≡ length rows.tasks
  tasks-counted = ap (λ (k : Case). length k.tasks) is-case ∙ length-map rows.tasks (demand_of rows)

  -- the rows are few
  pub few-rows : length rows.machines + length rows.jobs + length rows.tasks ≤ 4096
  few-rows = omega (arith, sound-rows.fits.nodes, sound-rows.most_nodes)

  -- nor are the counts that are kept of them large
  pub running-few : running ≤ 4096
  running-few =
      omega (
        arith,
        few-rows,
        were.tables.running_kept,
        count_by-le-length (λ (task : Task). is_some task.machine) (values_of tasks),
        ap (λ (r : TenantRows). length r.tasks) view,
      )

  pub preferences-few : preferences ≤ 65536
  preferences-few =
      omega (arith, were.tables.preferences_kept, were.tables.sound.fits.arcs, were.tables.sound.most_arcs)

  pub arcs-few : arcs ≤ 65536
  arcs-few = omega (arith, were.tables.arcs_kept, were.tables.sound.fits.arcs, were.tables.sound.most_arcs)

  -- where one more row fits the limits, the case has room for it
  pub room-for_machine : (name : List ℕ) (slots : ℕ) → FitsLimits (with_machine rows name slots)
      → length case.slots < 4096
  room-for_machine name slots fits =
      let machine : Machine = record { name = name; slots = slots } in
      omega (arith, fits.nodes, sound-rows.most_nodes, slots-counted, length_push rows.machines machine)

  pub room-for_job : (name : List ℕ) (weight : ℕ) → FitsLimits (with_job rows name weight) → case.jobs < 4096
  room-for_job name weight fits =
      let job : Job = record { name = name; weight = weight } in
      omega (arith, fits.nodes, sound-rows.most_nodes, jobs-counted, length_push rows.jobs job)

  pub room-for_task : (task : Task) → FitsLimits (with_restored rows task) → length case.tasks < 4096
  room-for_task task fits =
      omega (arith, fits.nodes, sound-rows.most_nodes, tasks-counted, length_push rows.tasks task)

-- a few more are counted in a word
pub few-fit : (a b : ℕ) → a ≤ 65536 → b ≤ 65536 → Fits w64 (a + b)
few-fit a b a-few b-few = omega (arith, a-few, b-few)

-- the same entries, and the same case
pub unchanged : {limits : TenantLimits} {machines new-machines : List (List ℕ × Machine)}
    {jobs new-jobs : List (List ℕ × Job)} {tasks new-tasks : List (List ℕ × Task)} {arcs preferences running : ℕ}
    {case new-case : Case} → AreTablesAndCase limits machines jobs tasks arcs preferences running case
    → new-machines ≡ machines → new-jobs ≡ jobs → new-tasks ≡ tasks → new-case ≡ case
    → AreTablesAndCase limits new-machines new-jobs new-tasks arcs preferences running new-case
unchanged {limits} {machines} {new-machines} {jobs} {new-jobs} {tasks} {new-tasks} {arcs} {preferences} {running} {case}
    {new-case} were m j t k =
    subst (λ (l : List (List ℕ × Machine)). AreTablesAndCase limits l new-jobs new-tasks arcs preferences running
    new-case) (sym m)
    (subst (λ (l : List (List ℕ × Job)). AreTablesAndCase limits machines l new-tasks arcs preferences running
    new-case) (sym j)
    (subst (λ (l : List (List ℕ × Task)). AreTablesAndCase limits machines jobs l arcs preferences running new-case)
    (sym t)
    (subst (λ (c : Case). AreTablesAndCase limits machines jobs tasks arcs preferences running c) (sym k) were)))
