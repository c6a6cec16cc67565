use Rattle.std.proofs.Common.{rules, ◌≡◌, ◌∙◌}
use Rattle.std.specs.declared.thread.PromisedHandle.{PromisedHandle}
use Rattle.firm_hall.specs.declared.workers.Report.{Report}
use Rattle.firm_rounds.specs.Passes.{PopIs}
use Rattle.firm_hall.specs.declared.team.OfHall.{OfHall}
use Rattle.firm_hall.proofs.Alls.{all_head, all_rest, all_push}
use Rattle.firm_hall.proofs.team.Running.join.Goals as goal

pub loop-handle-preserved : goal.loop-handle-preserved
loop-handle-preserved g c =
    let id = c.args.self.hall.now.id in
    record {
      handles = all_rest (λ (h : PromisedHandle Report OfHall). h.promise.0.value.id ≡ id) _ _ _
          c.in-Some.ensures.steps.0 c.loop-handle.invariant.handles;
      reports = all_push (λ (r : PopIs). r.queue ≡ id) _ _ _ c.push_reserved.ensures.items
          c.loop-handle.invariant.reports
          (c.join.ensures ∙ all_head
          (λ (h : PromisedHandle Report OfHall). h.promise.0.value.id ≡ id) _ _ _ c.in-Some.ensures.steps.0
          c.loop-handle.invariant.handles);
      count = search rules;
      room = search rules;
    }
