-- Rows on the way to all of them.
use Rattle.std.specs.Prelude.{ℕ, [], take}
use Rattle.firm_rules.specs.Book.{TenantRows}

-- the first n machines alone
abbrev pub machines_first : TenantRows → ℕ → TenantRows
machines_first rows n = record rows { machines = take n rows.machines; jobs = []; tasks = [] }

-- the machines, and the first n jobs
abbrev pub jobs_first : TenantRows → ℕ → TenantRows
jobs_first rows n = record rows { jobs = take n rows.jobs; tasks = [] }

-- the machines and jobs, and the first n tasks
abbrev pub tasks_first : TenantRows → ℕ → TenantRows
tasks_first rows n = record rows { tasks = take n rows.tasks }
