use Rattle.std.proofs.Common.{◌≡◌, ◌*◌, ◌≤◌, length}
use Rattle.firm_rules.proofs.RunningCosts.{Spent}
use Rattle.firm_rules.proofs.cases.Case.cost_of.Given as goal

abbrev pub invariant-loop-task : goal.invariant-loop-task
invariant-loop-task g l = record {
  long : length l.loads ≡ 4096;
  spent : Spent l.self l.placement l.task l.loads l.cost;
  most : l.cost ≤ l.task * 8388608;
}
