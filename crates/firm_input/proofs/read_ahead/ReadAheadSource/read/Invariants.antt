use Rattle.std.proofs.Common.{◌≡◌}
use Rattle.firm_input.proofs.read_ahead.ReadAheadSource.read.Given as goal

abbrev pub invariant-loop : goal.invariant-loop
invariant-loop g l = l.self ≡ l.initial.self
