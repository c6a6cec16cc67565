use Rattle.std.proofs.Common.{◌≤◌}
use Rattle.firm_rules.proofs.changes.moves.Given as goal

abbrev pub invariant-loop-task : goal.invariant-loop-task
invariant-loop-task g l = l.moves ≤ l.task
