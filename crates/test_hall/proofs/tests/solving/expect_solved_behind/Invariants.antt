use Rattle.std.proofs.Common.{◌≡◌, All}
use Rattle.test_hall.proofs.tests.solving.expect_solved_behind.Given as goal

abbrev pub invariant-loop-number : goal.invariant-loop-number
invariant-loop-number g l = All (λ d. d.queue ≡ l.hall.id) l.desks.items
