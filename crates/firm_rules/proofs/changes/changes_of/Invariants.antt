use Rattle.std.proofs.Common.{◌≡◌, ◌++◌, drop}
use Rattle.std.specs.List.{flat_map}
use Rattle.firm_rules.specs.Round.{changes_made, task_changes, zipped}
use Rattle.firm_rules.proofs.changes.changes_of.Given as goal

abbrev pub invariant-loop-task : goal.invariant-loop-task
invariant-loop-task g l =
    l.list.items
    ++ flat_map (λ some. some) (zipped (task_changes l.rows) (drop l.task l.rows.tasks) (drop l.task l.placement))
    ≡ changes_made l.rows l.placement
