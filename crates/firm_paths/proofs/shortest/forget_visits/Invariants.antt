use Rattle.std.proofs.Common.{◌≡◌, length}
use Rattle.firm_paths.specs.inner.Queue.{AreLeft}
use Rattle.firm_paths.proofs.shortest.forget_visits.Given as goal

abbrev pub invariant-loop-i : goal.invariant-loop-i
invariant-loop-i l = record {
  size : length l.states ≡ length l.fn.states;
  left : AreLeft l.states l.queue l.visits l.i;
}
