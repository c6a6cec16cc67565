use Rattle.std.proofs.Common.{◌≡◌, All}
use Rattle.test_rounds.proofs.tests.queues.take_steps.Given as goal

abbrev pub invariant-loop-step : goal.invariant-loop-step
invariant-loop-step g l = All (λ p. p.queue ≡ l.queue.id) l.puts.items × (l.pass.queue ≡ l.queue.id)
