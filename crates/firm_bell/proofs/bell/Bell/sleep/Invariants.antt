use Rattle.std.proofs.Common.{◌≡◌}
use Rattle.firm_bell.proofs.bell.Bell.sleep.Given as goal

abbrev pub invariant-loop : goal.invariant-loop
invariant-loop g l = (l.seat.table_id ≡ l.fn.seat.table_id) × (l.seat.me.0 ≡ l.fn.seat.me.0)
