use Rattle.std.proofs.Common.{◌≡◌, ℕ, ◌+◌, ◌<◌, [], length, take}
use Rattle.crossbeam_queue.specs.Passes.{view, IsPassOf}
use Rattle.firm_rounds.specs.inner.Gathered.{AddsPops}
use Rattle.firm_rounds.specs.Passes.{spent_pop}
use Rattle.firm_rounds.specs.Turning.{turned}
use Rattle.firm_rounds.proofs.gathering.give_pops.Given as goal

abbrev pub invariant-loop-i : goal.invariant-loop-i
invariant-loop-i l = record {
  keep : IsPassOf l.ring l.keep;
  all : (view l.keep).all ≡ (view l.initial.keep).all;
  some : 0 < length (view l.keep).shares;
  shares : AddsPops (view l.initial.keep) (view l.keep) (take l.i l.initial.passes);
  passes : l.passes ≡ turned spent_pop l.i l.initial.passes;
}
