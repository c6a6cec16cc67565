use Rattle.std.proofs.Common.{◌≡◌, ◌*◌, ◌≤◌, take}
use Rattle.firm_rents.specs.Rents.{all_least}
use Rattle.firm_rents.proofs.bounds.paid_of_all.Given as goal

abbrev pub invariant-loop-task : goal.invariant-loop-task
invariant-loop-task l =
    (l.paid ≡ all_least l.case l.rents (take l.task l.case.tasks)) × (l.paid ≤ l.task * 4194304)
