use Rattle.std.proofs.Common.{◌≡◌, All}
use Rattle.test_hall.proofs.tests.turns.poll_back.Given as goal

abbrev pub invariant-loop : goal.invariant-loop
invariant-loop g l = (l.asked.queue ≡ l.hall.id) × All (λ d. d.queue ≡ l.hall.id) l.desks.items
