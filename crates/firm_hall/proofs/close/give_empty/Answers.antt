use Rattle.std.proofs.Common.{ap, ◌∙◌, []}
use Rattle.firm_rounds.specs.Rounds.{weigh, share}
use Rattle.firm_rounds.specs.Passes.{ClosingIs}
use Rattle.firm_hall.specs.Desks.{PlaceIs, spent_place}
use Rattle.firm_hall.proofs.Shutting.{weight_next, turned_next}
use Rattle.firm_hall.proofs.close.give_empty.Goals as goal

pub loop-i-preserved : goal.loop-i-preserved
loop-i-preserved c =
    let i = c.loop-i.i in let all = c.args.empty.now in let x = c.index-empty-i.result in let inv =
    c.loop-i.invariant in
    let part = λ (y : PlaceIs). share y.place y.put [] in
    let now = c.give.ensures.closing in
    record {
      id = ap (λ (v : ClosingIs). v.id) now ∙ inv.id;
      shares = λ f. weight_next part spent_place i all c.loop-i.empty x _ _ c.loop-i-test.true inv.empty now f
          (weigh f c.args.closing.now.shares) (inv.shares f);
      empty = turned_next part spent_place i all c.loop-i.empty x _ _ c.loop-i-test.true inv.empty now _
          c.give.ensures.desk;
    }
