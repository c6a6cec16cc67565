-- How a case is kept, by place, and what becomes of its tasks as rows change.
use Rattle.std.specs.Prelude.{ℕ, ◌-◌, ◌<◌, ◌≤◌, ◌==◌, Bool, not, nat_lt, List, length, map, filter, All, Option, Some}
use Rattle.std.specs.Prelude.{None}
use Rattle.std.specs.Prelude.{IfSome, if◌then◌else◌}
use Rattle.firm_rules.specs.Limits.{TenantLimits}
use Rattle.firm_rules.specs.Placement.{Demand as RoundDemand, Case as RoundCase}
use Rattle.firm_rules.specs.declared.demands.Demand.{Demand}

-- what a task brings, as definitions see it
abbrev pub seen : Demand → RoundDemand
seen demand =
    record {
      home = demand.home;
      preferred = demand.preferred.items;
      delay = demand.delay;
      job = demand.job;
    }

-- what a round is about, as definitions see it
abbrev pub case_seen : TenantLimits → ℕ → List ℕ → List Demand → RoundCase
case_seen limits jobs slots demands =
    record {
      spread = limits.spread;
      churn = limits.churn;
      remote = limits.remote;
      slots = slots;
      jobs = jobs;
      limit = limits.nodes;
      tasks = map seen demands;
    }

-- a task that runs on one of this number of machines, if it runs, and prefers at most 4 of them
pub record Fits (machines : ℕ) (task : RoundDemand) : Type 0 where
  pub home : IfSome task.home (λ place. place < machines)
  pub preferred : All (λ place. place < machines) task.preferred
  pub few : length task.preferred ≤ 4
  pub delay : task.delay ≤ 2000000

-- the numbers of a case are in their ranges
pub record CaseFits (case : RoundCase) : Type 0 where
  pub tasks : All (Fits (length case.slots)) case.tasks
  pub slots : All (λ slots. slots ≤ 64) case.slots
  pub few_machines : length case.slots ≤ 4096
  pub few_tasks : length case.tasks ≤ 4096

-- the place of a row once that at a place is gone: those behind it move down by one
abbrev pub place_without : ℕ → ℕ → ℕ
place_without gone place = if nat_lt gone place then place - 1 else place

-- the same of a task's own machine, which it has no longer if that is the one
abbrev pub home_without : ℕ → Option ℕ → Option ℕ
home_without gone None = None
home_without gone (Some place) = if place == gone then None else Some (place_without gone place)

-- and of the machines that it prefers
abbrev pub preferred_without : ℕ → List ℕ → List ℕ
preferred_without gone places = map (place_without gone) (filter (λ place. not (place == gone)) places)

-- a task once the machine at a place is gone; one that ran there has not waited, so its delay stays
abbrev pub without_machine_at : ℕ → RoundDemand → RoundDemand
without_machine_at gone task =
    record task {
      home = home_without gone task.home;
      preferred = preferred_without gone task.preferred;
    }

-- a task of another job once the job at a place is gone
abbrev pub without_job_at : ℕ → RoundDemand → RoundDemand
without_job_at gone task = record task { job = place_without gone task.job }

-- a task on the machine at a place, or waiting, with this delay
abbrev pub placed : Option ℕ → ℕ → RoundDemand → RoundDemand
placed home delay task = record task { home = home; delay = delay }
