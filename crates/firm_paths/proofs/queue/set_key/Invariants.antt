use Rattle.std.proofs.Common.{◌≡◌, ◌*◌, ◌<◌, drop, set}
use Rattle.firm_paths.proofs.Tournament.{IsMending}
use Rattle.firm_paths.proofs.queue.set_key.Given as goal

abbrev pub invariant-loop-at : goal.invariant-loop-at
invariant-loop-at l = record {
  at : l.at < 2 * l.places;
  mending : IsMending l.places l.at l.keys;
  leaves : drop l.places l.keys ≡ set (drop l.places l.fn.keys) l.place l.key;
}

abbrev pub decreases-loop-at : goal.decreases-loop-at
decreases-loop-at l = l.at
