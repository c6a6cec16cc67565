use Rattle.std.proofs.Common.{◌<◌, length}
use Rattle.firm_rents.proofs.tables.lowest_place.Given as goal

abbrev pub invariant-loop-place : goal.invariant-loop-place
invariant-loop-place l = 0 < length l.rents → l.lowest < length l.rents
