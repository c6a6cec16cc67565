use Rattle.std.proofs.Common.{ap, ◌∙◌, []}
use Rattle.firm_rounds.specs.Rounds.{weigh, share}
use Rattle.firm_rounds.specs.Passes.{ClosingIs}
use Rattle.firm_hall.specs.Desks.{DeskIs, spent_desk}
use Rattle.firm_hall.proofs.Shutting.{weight_next, turned_next}
use Rattle.firm_hall.proofs.close.give_desks.Goals as goal

pub loop-i-preserved : goal.loop-i-preserved
loop-i-preserved c =
    let i = c.loop-i.i in let all = c.args.desks.now in let x = c.index-desks-i.result in let inv =
    c.loop-i.invariant in
    let part = λ (y : DeskIs). share y.place y.put [] in
    let now = c.give.ensures.closing in
    record {
      id = ap (λ (v : ClosingIs). v.id) now ∙ inv.id;
      shares = λ f. weight_next part spent_desk i all c.loop-i.desks x _ _ c.loop-i-test.true inv.desks now f
          (weigh f c.args.closing.now.shares) (inv.shares f);
      desks = turned_next part spent_desk i all c.loop-i.desks x _ _ c.loop-i-test.true inv.desks now _
          c.give.ensures.desk;
    }
