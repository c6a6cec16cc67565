use Rattle.std.proofs.Common.{◌≡◌}
use Rattle.test_hall.proofs.tests.solving.add_rows.Given as goal

abbrev pub invariant-loop-number : goal.invariant-loop-number
invariant-loop-number g l = l.desk.queue ≡ l.hall.id
