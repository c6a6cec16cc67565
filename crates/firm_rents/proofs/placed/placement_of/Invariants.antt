use Rattle.std.proofs.Common.{◌≡◌, map, take}
use Rattle.firm_rents.specs.Placed.{choice_of}
use Rattle.firm_rents.proofs.placed.placement_of.Given as goal

abbrev pub invariant-loop-task : goal.invariant-loop-task
invariant-loop-task l = l.placement.items ≡ map (λ task. choice_of l.rows task.machine) (take l.task l.rows.tasks)
