use Rattle.std.proofs.Common.{◌≡◌, All}
use Rattle.test_hall.proofs.tests.wakes.put_two_each_turn.Given as goal

abbrev pub invariant-loop-turn : goal.invariant-loop-turn
invariant-loop-turn g l = All (λ d. d.queue ≡ l.hall.id) l.desks.items
