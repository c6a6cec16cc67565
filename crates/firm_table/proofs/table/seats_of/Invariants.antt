use Rattle.std.proofs.Common.{◌≡◌, take}
use Rattle.firm_table.specs.Interleaving.{opening_seats}
use Rattle.firm_table.proofs.table.seats_of.Given as goal

abbrev pub invariant-loop-place : goal.invariant-loop-place
invariant-loop-place l = l.seats.items ≡ take l.place (opening_seats l.roster.rows)
