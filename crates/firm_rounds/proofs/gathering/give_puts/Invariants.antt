use Rattle.std.proofs.Common.{◌≡◌, ℕ, ◌+◌, ◌<◌, [], length, take}
use Rattle.crossbeam_queue.specs.Passes.{view, IsPassOf}
use Rattle.firm_rounds.specs.declared.protocol.Share.{Share}
use Rattle.firm_rounds.specs.Rounds.{weigh, share}
use Rattle.firm_rounds.specs.Passes.{spent_put}
use Rattle.firm_rounds.specs.Turning.{turned}
use Rattle.firm_rounds.proofs.gathering.give_puts.Given as goal

abbrev pub invariant-loop-i : goal.invariant-loop-i
invariant-loop-i l = record {
  keep : IsPassOf l.ring l.keep;
  all : (view l.keep).all ≡ (view l.initial.keep).all;
  some : 0 < length (view l.keep).shares;
  shares : (f : Share → ℕ)
      → weigh f (view l.keep).shares
      ≡ weigh f (view l.initial.keep).shares + weigh (λ p. f (share p.place p.put [])) (take l.i l.initial.passes);
  passes : l.passes ≡ turned spent_put l.i l.initial.passes;
}
