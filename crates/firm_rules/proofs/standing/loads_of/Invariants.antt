use Rattle.std.proofs.Common.{ℕ, ◌≡◌, ◌<◌, length, take, slice_index}
use Rattle.std.specs.Prelude.{count_by}
use Rattle.firm_rules.specs.Placement.{runs_at}
use Rattle.firm_rules.specs.Round.{case_of}
use Rattle.firm_rules.proofs.standing.loads_of.Given as goal

abbrev pub invariant-loop-task : goal.invariant-loop-task
invariant-loop-task l =
    (length l.loads ≡ 4096)
    × ((j : ℕ) → j < 4096
    → slice_index l.loads j ≡ count_by (λ task. runs_at task.home j) (take l.task (case_of l.rows).tasks))
