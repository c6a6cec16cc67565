use Rattle.std.proofs.Common.{◌+◌, ◌<◌, ℕ, length}
use Rattle.firm_rents.specs.inner.Classes.{offered, Covers, Differ}
use Rattle.firm_rents.proofs.Comparing.{IsLooked}
use Rattle.firm_rents.proofs.classes.first_differences.Given as goal

abbrev pub invariant-loop-here : goal.invariant-loop-here
invariant-loop-here l = record {
  here : l.here < length l.classes;
  there : l.there < length l.classes;
  one_time : Covers (offered l.classes l.one) (offered l.classes l.other) l.found l.one.time;
  other_time : Covers (offered l.classes l.one) (offered l.classes l.other) l.found l.other.time;
  looked : (t : ℕ) → IsLooked l.classes l.one l.other l.found l.here l.there t;
  differ : Differ (offered l.classes l.one) (offered l.classes l.other) l.found;
}

abbrev pub decreases-loop-here : goal.decreases-loop-here
decreases-loop-here l = l.here + l.there
