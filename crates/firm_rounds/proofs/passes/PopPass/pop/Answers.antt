use Rattle.std.proofs.Common.{ap, arith, ◌≡◌, ◌<◌, ◌∙◌, false, true}
use Rattle.crossbeam_queue.specs.Passes.{view}
use Rattle.firm_rounds.specs.Rounds.{share_of}
use Rattle.firm_rounds.specs.Passes.{PopIs}
use Rattle.firm_rounds.proofs.Fairs.{pops_few, some_of, counts}
use Rattle.firm_rounds.proofs.passes.PopPass.pop.Goals as goal

pub pop_as-requires-clause-rule : goal.pop_as-requires-clause-rule
pop_as-requires-clause-rule g c =
    let all = ap (λ (p : PopIs). p.queue.all) c.self.view_is in let live = c.requires.of.1 in
    (pops_few _ _ (some_of _ _ c.self.invariant.0.3 (omega arith)), λ items views h at. (views, _, at, h))

pub invariant_of-self-2 : goal.invariant_of-self-2
invariant_of-self-2 g c =
    let all = ap (λ (p : PopIs). p.queue.all) c.self.view_is in let live = c.requires.of.1 in
    let was = share_of (view c.self.inside.seat) in
    let now = c.in-Some.ensures.rule in
    let n = counts _ _ was.place c.self.inside.count was.got _ _ (c.self.invariant.0.3.1 (omega arith)) now.0 now.1
    c.self.invariant.0.1 in (
      (c.pop_as.ensures.queue.2 ∙ c.self.invariant.0.0, n.0, n.1, n.2),
      c.make_owed_call.ensures.listens.1,
      omega (
        arith,
        c.make_owed_call.ensures.took.0,
        c.took-self-inside.ensures.took.0,
        c.self.invariant.2,
      ),
      λ (e : false ≡ true). cc,
    )
