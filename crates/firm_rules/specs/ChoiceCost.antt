-- What a choice costs a task, part by part, and the machines that may cost it less than the others.
use Rattle.std.specs.Prelude.{ℕ, ◌+◌, ◌++◌, List, nat_lt, length, is_some, if◌then◌else◌}
use Rattle.std.specs.Option.{option_to_list}
use Rattle.firm_rules.specs.declared.rounds.Choice.{Choice}
use Rattle.firm_rules.specs.declared.rounds.Choice.TheVariants.{On, Wait}
use Rattle.firm_rules.specs.Placement.{Demand, Case, leaves, is_remote}

-- churn, if the choice takes the task from its machine
abbrev pub churn_cost : Case → Demand → Choice → ℕ
churn_cost case task choice = if leaves task.home choice then case.churn else 0

-- the rest of what the choice costs the task: to run on a machine that is remote for it, or to wait
abbrev pub remote_cost : Case → Demand → Choice → ℕ
remote_cost case task (On j) = if is_remote task j then case.remote else 0
remote_cost case task Wait = 0

abbrev pub wait_cost : Demand → Choice → ℕ
wait_cost task (On j) = 0
wait_cost task Wait = task.delay

-- what a machine that is neither its own nor preferred costs the task
abbrev pub wide_cost : Case → Demand → ℕ
wide_cost case task =
    (if is_some task.home then case.churn else 0) + (if nat_lt 0 (length task.preferred) then case.remote else 0)

-- the machines that may cost the task less: its own, and those it prefers
abbrev pub near : Demand → List ℕ
near task = option_to_list task.home ++ task.preferred
