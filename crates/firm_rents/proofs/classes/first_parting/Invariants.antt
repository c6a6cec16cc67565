use Rattle.std.proofs.Common.{◌+◌}
use Rattle.firm_rents.proofs.Comparing.{IsLeft}
use Rattle.firm_rents.proofs.classes.first_parting.Given as goal

abbrev pub invariant-loop-here : goal.invariant-loop-here
invariant-loop-here l = record {
  one : IsLeft l.classes l.one l.here l.first;
  other : IsLeft l.classes l.other l.there l.second;
}

abbrev pub decreases-loop-here : goal.decreases-loop-here
decreases-loop-here l = l.here + l.there
