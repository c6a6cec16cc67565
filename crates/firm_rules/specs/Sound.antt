-- What holds of the rows of a tenant at all times.
use Rattle.std.specs.Prelude.{◌≡◌, ◌≤◌, true, All, IfSome, length, bytes_eq}
use Rattle.std.specs.List.{IsDistinct}
use Rattle.firm_rules.specs.Names.{is_among}
use Rattle.firm_rules.specs.Limits.{longest_patience}
use Rattle.firm_rules.specs.Preferences.{most_preferences}
use Rattle.firm_rules.specs.Book.{TenantRows, machine_names, job_names, task_names, running_on}
use Rattle.firm_rules.specs.ArenaUse.{FitsLimits}

-- no machine runs more tasks than it has slots
abbrev pub HasRoom : TenantRows → Type 0
HasRoom rows = All (λ machine. running_on rows machine.name ≤ machine.slots) rows.machines

-- names differ in each list; each task's job is there, and so is the machine of each that runs; a task prefers at most
-- 4 machines, which differ and are there; no machine runs more tasks than it has slots; no task has waited for more
-- rounds than the patience; the counts fit the limits; slots, weights and the limits of nodes, arcs, spread, churn,
-- remote and patience are in their ranges (the life, which no round reads, is in its range by `Limits`)
pub record AreSound (rows : TenantRows) : Type 0 where
  pub machine_names_differ : IsDistinct bytes_eq (machine_names rows)
  pub job_names_differ : IsDistinct bytes_eq (job_names rows)
  pub task_names_differ : IsDistinct bytes_eq (task_names rows)
  pub jobs_there : All (λ task. is_among (job_names rows) task.job ≡ true) rows.tasks
  pub machines_there : All (λ task. IfSome task.machine (λ name. is_among (machine_names rows) name ≡ true)) rows.tasks
  pub preferred_there : All (λ task. All (λ name. is_among (machine_names rows) name ≡ true) task.preferred) rows.tasks
  pub preferred_few : All (λ task. length task.preferred ≤ most_preferences) rows.tasks
  pub preferred_differ : All (λ task. IsDistinct bytes_eq task.preferred) rows.tasks
  pub room : All (λ machine. running_on rows machine.name ≤ machine.slots) rows.machines
  pub waited : All (λ task. task.waited ≤ rows.limits.patience) rows.tasks
  pub fits : FitsLimits rows
  pub slots : All (λ machine. (1 ≤ machine.slots) × (machine.slots ≤ 64)) rows.machines
  pub weights : All (λ job. (1 ≤ job.weight) × (job.weight ≤ 1000000)) rows.jobs
  pub most_nodes : rows.limits.nodes ≤ 4096
  pub most_arcs : rows.limits.arcs ≤ 65536
  pub most_spread : rows.limits.spread ≤ 1000
  pub most_churn : rows.limits.churn ≤ 1000000
  pub most_remote : rows.limits.remote ≤ 1000000
  pub most_patience : rows.limits.patience ≤ longest_patience
