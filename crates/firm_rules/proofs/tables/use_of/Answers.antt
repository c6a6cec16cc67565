use Rattle.std.proofs.Common.{◌≡◌, ◌≤◌, ℕ, ◌+◌, ◌*◌, List, length, ap, ◌∙◌, arith}
use mir.Syntax.{w64}
use mir.Val.{Fits}
use Rattle.std.proofs.lemmas.List.{length-map}
use Rattle.firm_rules.specs.ArenaUse.{arena_arcs, arena_nodes, arena_use}
use Rattle.firm_rules.specs.Book.{TenantRows}
use Rattle.firm_rules.specs.Limits.{TenantLimits}
use Rattle.firm_rules.specs.inner.Tables.{AreTables, rows_in}
use Rattle.firm_rules.specs.declared.book.Machine.{Machine}
use Rattle.firm_rules.specs.declared.book.Job.{Job}
use Rattle.firm_rules.specs.declared.book.Task.{Task}
use Rattle.firm_rules.specs.declared.book.Use.{Use}
use Rattle.firm_rules.proofs.CaseKept.{arcs-few, few-rows, preferences-few}
use Rattle.firm_rules.specs.Placement.{Case}
use Rattle.firm_rules.specs.inner.Tables.{AreTablesAndCase}
use Rattle.firm_rules.proofs.tables.use_of.Goals as goal

-- what is counted of the tables is what their rows use
counted : {limits : TenantLimits} {machines : List (List ℕ × Machine)} {jobs : List (List ℕ × Job)}
    {tasks : List (List ℕ × Task)} {arcs preferences running : ℕ}
    → AreTables limits machines jobs tasks arcs preferences running → (rows : TenantRows)
    → rows_in limits machines jobs tasks ≡ rows → (m j t : ℕ) → m ≡ length machines → j ≡ length jobs → t ≡ length tasks
    → (let it : Use = record { nodes = 2 + m + j + t; arcs = arcs + j + 3 * t + preferences } in it ≡ arena_use rows)
counted {limits} {machines} {jobs} {tasks} {arcs} {preferences} were rows view m j t m-is j-is t-is =
    let all : TenantRows = rows_in limits machines jobs tasks in
    let m-rows : length all.machines ≡ length machines = length-map machines (λ (e : List ℕ × Machine). e.1) in
    let j-rows : length all.jobs ≡ length jobs = length-map jobs (λ (e : List ℕ × Job). e.1) in
    let t-rows : length all.tasks ≡ length tasks = length-map tasks (λ (e : List ℕ × Task). e.1) in
    let nodes : 2 + m + j + t ≡ arena_nodes all = omega (arith, m-is, j-is, t-is, m-rows, j-rows, t-rows) in
    let uses : arcs + j + 3 * t + preferences ≡ arena_arcs all =
    omega (arith, j-is, t-is, j-rows, t-rows, were.arcs_kept, were.preferences_kept) in
    ap (λ (n : ℕ). let it : Use = record { nodes = n; arcs = arcs + j + 3 * t + preferences } in it) nodes
    ∙ ap (λ (n : ℕ). let it : Use = record { nodes = arena_nodes all; arcs = n } in it) uses
    ∙ ap arena_use view

pub returns : goal.returns
returns g c =
    counted c.rows.invariant.tables c.args.rows.now c.rows.view_is c.len-machines.result c.len-jobs.result
    c.len-tasks.result c.len-machines.ensures.len c.len-jobs.ensures.len c.len-tasks.ensures.len

-- no table has more rows than a tenant may have nodes
few : {limits : TenantLimits} {machines : List (List ℕ × Machine)} {jobs : List (List ℕ × Job)}
    {tasks : List (List ℕ × Task)} {arcs preferences running : ℕ} {case : Case} {rows : TenantRows}
    → AreTablesAndCase limits machines jobs tasks arcs preferences running case
    → rows_in limits machines jobs tasks ≡ rows → (m j t : ℕ) → m ≡ length machines → j ≡ length jobs
    → t ≡ length tasks → m + j + t ≤ 4096
few {limits} {machines} {jobs} {tasks} were view m j t m-is j-is t-is =
    omega (
      arith,
      few-rows were view,
      m-is,
      j-is,
      t-is,
      length-map machines (λ (e : List ℕ × Machine). e.1),
      length-map jobs (λ (e : List ℕ × Job). e.1),
      length-map tasks (λ (e : List ℕ × Task). e.1),
      ap (λ (r : TenantRows). length r.machines) view,
      ap (λ (r : TenantRows). length r.jobs) view,
      ap (λ (r : TenantRows). length r.tasks) view,
    )

module _ (m j t arcs preferences : ℕ) (rows-few : m + j + t ≤ 4096) (arcs-are-few : arcs ≤ 65536)
    (are-few : preferences ≤ 65536) where
  one : Fits w64 (2 + m)
  one = omega (arith, rows-few)

  two : Fits w64 (2 + m + j)
  two = omega (arith, rows-few)

  all : Fits w64 (2 + m + j + t)
  all = omega (arith, rows-few)

  of-jobs : Fits w64 (arcs + j)
  of-jobs = omega (arith, rows-few, arcs-are-few)

  of-tasks : Fits w64 (3 * t)
  of-tasks = omega (arith, rows-few)

  of-both : Fits w64 (arcs + j + 3 * t)
  of-both = omega (arith, rows-few, arcs-are-few)

  of-all : Fits w64 (arcs + j + 3 * t + preferences)
  of-all = omega (arith, rows-few, arcs-are-few, are-few)

pub overflow_add-result : goal.overflow_add-result
overflow_add-result g c =
    one c.len-machines.result c.len-jobs.result c.len-tasks.result c.rows.inside.machine_arc_count
    c.rows.inside.preferences
    (few c.rows.invariant c.rows.view_is c.len-machines.result c.len-jobs.result c.len-tasks.result
    c.len-machines.ensures.len c.len-jobs.ensures.len c.len-tasks.ensures.len)
    (arcs-few c.rows.invariant c.rows.view_is) (preferences-few c.rows.invariant c.rows.view_is)

pub overflow_add-result-2 : goal.overflow_add-result-2
overflow_add-result-2 g c =
    two c.len-machines.result c.len-jobs.result c.len-tasks.result c.rows.inside.machine_arc_count
    c.rows.inside.preferences
    (few c.rows.invariant c.rows.view_is c.len-machines.result c.len-jobs.result c.len-tasks.result
    c.len-machines.ensures.len c.len-jobs.ensures.len c.len-tasks.ensures.len)
    (arcs-few c.rows.invariant c.rows.view_is) (preferences-few c.rows.invariant c.rows.view_is)

pub overflow_add-result-3 : goal.overflow_add-result-3
overflow_add-result-3 g c =
    all c.len-machines.result c.len-jobs.result c.len-tasks.result c.rows.inside.machine_arc_count
    c.rows.inside.preferences
    (few c.rows.invariant c.rows.view_is c.len-machines.result c.len-jobs.result c.len-tasks.result
    c.len-machines.ensures.len c.len-jobs.ensures.len c.len-tasks.ensures.len)
    (arcs-few c.rows.invariant c.rows.view_is) (preferences-few c.rows.invariant c.rows.view_is)

pub overflow_add-result-4 : goal.overflow_add-result-4
overflow_add-result-4 g c =
    of-jobs c.len-machines.result c.len-jobs.result c.len-tasks.result c.rows.inside.machine_arc_count
    c.rows.inside.preferences
    (few c.rows.invariant c.rows.view_is c.len-machines.result c.len-jobs.result c.len-tasks.result
    c.len-machines.ensures.len c.len-jobs.ensures.len c.len-tasks.ensures.len)
    (arcs-few c.rows.invariant c.rows.view_is) (preferences-few c.rows.invariant c.rows.view_is)

pub overflow_mul-result : goal.overflow_mul-result
overflow_mul-result g c =
    of-tasks c.len-machines.result c.len-jobs.result c.len-tasks.result c.rows.inside.machine_arc_count
    c.rows.inside.preferences
    (few c.rows.invariant c.rows.view_is c.len-machines.result c.len-jobs.result c.len-tasks.result
    c.len-machines.ensures.len c.len-jobs.ensures.len c.len-tasks.ensures.len)
    (arcs-few c.rows.invariant c.rows.view_is) (preferences-few c.rows.invariant c.rows.view_is)

pub overflow_add-result-5 : goal.overflow_add-result-5
overflow_add-result-5 g c =
    of-both c.len-machines.result c.len-jobs.result c.len-tasks.result c.rows.inside.machine_arc_count
    c.rows.inside.preferences
    (few c.rows.invariant c.rows.view_is c.len-machines.result c.len-jobs.result c.len-tasks.result
    c.len-machines.ensures.len c.len-jobs.ensures.len c.len-tasks.ensures.len)
    (arcs-few c.rows.invariant c.rows.view_is) (preferences-few c.rows.invariant c.rows.view_is)

pub overflow_add-result-6 : goal.overflow_add-result-6
overflow_add-result-6 g c =
    of-all c.len-machines.result c.len-jobs.result c.len-tasks.result c.rows.inside.machine_arc_count
    c.rows.inside.preferences
    (few c.rows.invariant c.rows.view_is c.len-machines.result c.len-jobs.result c.len-tasks.result
    c.len-machines.ensures.len c.len-jobs.ensures.len c.len-tasks.ensures.len)
    (arcs-few c.rows.invariant c.rows.view_is) (preferences-few c.rows.invariant c.rows.view_is)
