use Rattle.std.proofs.Common.{◌≡◌}
use Rattle.firm_text.proofs.Places.{places_to}
use Rattle.firm_text.proofs.registers.Register.of.Given as goal

-- the first tenants, `at` in number, have their places
abbrev pub invariant-loop-at : goal.invariant-loop-at
invariant-loop-at l = l.places ≡ places_to l.at l.roster.rows
