use Rattle.std.proofs.Common.{ap, arith, sym, ◌+◌, ◌∙◌}
use Rattle.crossbeam_queue.specs.Passes.{view}
use Rattle.firm_rounds.specs.Rounds.{ticket}
use Rattle.firm_rounds.specs.Passes.{PutIs}
use Rattle.firm_rounds.proofs.Fairs.{puts_as}
use Rattle.firm_rounds.proofs.passes.PutPass.try_put.Goals as goal

pub push_as-requires-clause-rule : goal.push_as-requires-clause-rule
push_as-requires-clause-rule g c =
    let all = ap (λ (p : PutIs). p.queue.all) c.self.view_is in let live = c.requires.of.1 in
    let put = ap (λ (p : PutIs). p.put) c.self.view_is in let room = c.requires.room in
    let next = ap (λ (p : PutIs). ticket p.place (p.put + 1)) c.self.view_is in (
      puts_as _ _ (view c.self.inside.seat).all c.self.inside.place c.self.inside.put _ _ c.self.invariant.1
          (omega arith) c.requires.of.2 (c.requires.next ∙ sym next) (c.self.invariant.3.1 (omega arith)),
      λ items views h at. tt,
    )
