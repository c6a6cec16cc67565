use Rattle.std.proofs.Common.{◌≡◌, map}
use Rattle.firm_rules.specs.inner.Demands.{seen, without_machine_at}
use Rattle.firm_rules.proofs.TaskWrites.{written}
use Rattle.firm_rules.proofs.demands.leave_machine.Given as goal

-- the tasks before this one have left it
abbrev pub invariant-loop-task : goal.invariant-loop-task
invariant-loop-task l =
    map seen l.demands
    ≡ written (map (without_machine_at l.place) (map seen l.initial.demands)) (map seen l.initial.demands) l.task
