use Rattle.std.proofs.Common.{◌≡◌}
use Rattle.test_rounds.proofs.tests.queues.put_all.Given as goal

abbrev pub invariant-loop : goal.invariant-loop
invariant-loop g l = (l.pass.queue ≡ l.fn.pass.queue) × (l.pass.put ≡ l.counter)
