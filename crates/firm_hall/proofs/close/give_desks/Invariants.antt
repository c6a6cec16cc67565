use Rattle.std.proofs.Common.{◌≡◌, ℕ, ◌+◌, [], take}
use Rattle.firm_rounds.specs.declared.protocol.Share.{Share}
use Rattle.firm_rounds.specs.Rounds.{weigh, share}
use Rattle.firm_rounds.specs.Turning.{turned}
use Rattle.firm_hall.specs.Desks.{spent_desk}
use Rattle.firm_hall.proofs.close.give_desks.Given as goal

abbrev pub invariant-loop-i : goal.invariant-loop-i
invariant-loop-i l = record {
  id : l.closing.id ≡ l.initial.closing.id;
  shares : (f : Share → ℕ)
      → weigh f l.closing.shares
      ≡ weigh f l.initial.closing.shares + weigh (λ d. f (share d.place d.put [])) (take l.i l.initial.desks);
  desks : l.desks ≡ turned spent_desk l.i l.initial.desks;
}
