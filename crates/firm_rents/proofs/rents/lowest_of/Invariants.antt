use Rattle.std.specs.Prelude.{slice_index}
use Rattle.firm_rents.specs.Lowest.{IsLowest}
use Rattle.firm_rents.proofs.rents.lowest_of.Given as goal

abbrev pub invariant-loop-place : goal.invariant-loop-place
invariant-loop-place l = IsLowest (slice_index l.rents) l.place l.one l.other l.lowest
