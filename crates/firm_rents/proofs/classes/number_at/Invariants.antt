use Rattle.std.proofs.Common.{◌≡◌, ◌<◌, length}
use Rattle.firm_rents.specs.inner.Classes.{number}
use Rattle.firm_rents.proofs.classes.number_at.Given as goal

abbrev pub invariant-loop-at : goal.invariant-loop-at
invariant-loop-at l = record {
  inside : l.at < length l.classes;
  same : number l.classes l.class l.time ≡ number l.classes l.at l.time;
}

abbrev pub decreases-loop-at : goal.decreases-loop-at
decreases-loop-at l = l.at
