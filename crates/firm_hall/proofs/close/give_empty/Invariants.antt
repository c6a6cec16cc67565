use Rattle.std.proofs.Common.{◌≡◌, ℕ, ◌+◌, [], take}
use Rattle.firm_rounds.specs.declared.protocol.Share.{Share}
use Rattle.firm_rounds.specs.Rounds.{weigh, share}
use Rattle.firm_rounds.specs.Turning.{turned}
use Rattle.firm_hall.specs.Desks.{spent_place}
use Rattle.firm_hall.proofs.close.give_empty.Given as goal

abbrev pub invariant-loop-i : goal.invariant-loop-i
invariant-loop-i l = record {
  id : l.closing.id ≡ l.initial.closing.id;
  shares : (f : Share → ℕ)
      → weigh f l.closing.shares
      ≡ weigh f l.initial.closing.shares + weigh (λ e. f (share e.place e.put [])) (take l.i l.initial.empty);
  empty : l.empty ≡ turned spent_place l.i l.initial.empty;
}
