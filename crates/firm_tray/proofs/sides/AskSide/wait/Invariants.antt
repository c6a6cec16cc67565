use Rattle.std.proofs.Common.{◌≡◌}
use Rattle.firm_tray.proofs.sides.AskSide.wait.Given as goal

abbrev pub invariant-loop : goal.invariant-loop
invariant-loop g l = l.side.book ≡ l.fn.self.book
