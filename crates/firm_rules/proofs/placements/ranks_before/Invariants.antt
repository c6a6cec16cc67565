use Rattle.std.proofs.Common.{◌≡◌, length, drop}
use Rattle.firm_rules.specs.Placement.{comes_before}
use Rattle.firm_rules.specs.Round.{case_of}
use Rattle.firm_rules.proofs.placements.ranks_before.Given as goal

abbrev pub invariant-loop-task : goal.invariant-loop-task
invariant-loop-task g l =
    comes_before (length l.rows.machines) (drop l.task (case_of l.rows).tasks) (drop l.task l.first)
    (drop l.task l.second)
    ≡ comes_before (length l.rows.machines) (case_of l.rows).tasks l.first l.second
