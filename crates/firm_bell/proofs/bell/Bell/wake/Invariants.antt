use Rattle.std.proofs.Common.{◌≡◌}
use Rattle.firm_bell.proofs.bell.Bell.wake.Given as goal

abbrev pub invariant-loop : goal.invariant-loop
invariant-loop l = l.woken.wakes ≡ l.counter
