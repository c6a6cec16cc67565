use Rattle.std.proofs.Common.{◌≡◌, ◌*◌, ◌≤◌, take, length}
use Rattle.firm_rules.specs.Placement.{load, load_cost, total}
use Rattle.firm_rents.specs.CostParts.{move_cost, preemption_cost, part}
use Rattle.firm_rules.specs.ChoiceCost.{remote_cost, wait_cost}
use Rattle.firm_rents.proofs.cost_parts.parts_of.Given as goal

abbrev pub invariant-loop-task : goal.invariant-loop-task
invariant-loop-task l = record {
  loads : l.parts.loads ≡ total (λ j. load_cost l.case.spread (load l.placement j)) (length l.case.slots);
  moves : l.parts.moves ≡ part (move_cost l.case) (take l.task l.case.tasks) (take l.task l.placement);
  preemptions : l.parts.preemptions
      ≡ part (preemption_cost l.case) (take l.task l.case.tasks) (take l.task l.placement);
  waits : l.parts.waits ≡ part wait_cost (take l.task l.case.tasks) (take l.task l.placement);
  remote : l.parts.remote ≡ part (remote_cost l.case) (take l.task l.case.tasks) (take l.task l.placement);
  few_moves : l.parts.moves ≤ l.task * 2097152;
  few_preemptions : l.parts.preemptions ≤ l.task * 2097152;
  few_waits : l.parts.waits ≤ l.task * 2097152;
  few_remote : l.parts.remote ≤ l.task * 2097152;
}
