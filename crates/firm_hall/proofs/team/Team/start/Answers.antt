use Rattle.std.proofs.Common.{rules, ◌≡◌, ap, ◌∙◌}
use Rattle.std.specs.declared.thread.PromisedHandle.{PromisedHandle}
use Rattle.firm_rounds.specs.Passes.{PopIs, QueueIs}
use Rattle.firm_hall.specs.declared.workers.Report.{Report}
use Rattle.firm_hall.specs.declared.team.OfHall.{OfHall}
use Rattle.firm_hall.proofs.Alls.{all_rest, all_push}
use Rattle.firm_hall.proofs.team.Team.start.Goals as goal

pub loop-pass-preserved : goal.loop-pass-preserved
loop-pass-preserved g c =
    let id = c.args.self.hall.now.id in
    record {
      passes = all_rest (λ (p : PopIs). p.queue ≡ id) _ _ _ c.in-Some.ensures.steps.0 c.loop-pass.invariant.passes;
      handles = all_push (λ (h : PromisedHandle Report OfHall). h.promise.0.value.id ≡ id) _ _ _
          c.push_reserved.ensures.items c.loop-pass.invariant.handles
          (ap (λ (p : OfHall). p.0.value.id) c.in-Ok.ensures.ok ∙ ap (λ (q : QueueIs). q.id) c.of.ensures);
      count = search rules;
      room = search rules;
    }
