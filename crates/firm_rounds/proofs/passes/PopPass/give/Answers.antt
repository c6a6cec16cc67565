use Rattle.std.proofs.Common.{rules, [], ◌∷◌, ap, ◌∙◌, arith}
use Rattle.crossbeam_queue.specs.Passes.{view}
use Rattle.firm_rounds.specs.Rounds.{share, share_of}
use Rattle.firm_rounds.specs.inner.Seats.{sight}
use Rattle.firm_rounds.specs.Passes.{PopIs}
use Rattle.firm_rounds.proofs.Fairs.{gives, some_of}
use Rattle.firm_rounds.proofs.passes.PopPass.give.Goals as goal

pub another-requires-clause-rule : goal.another-requires-clause-rule
another-requires-clause-rule c =
    let all = ap (λ (p : PopIs). p.queue.all) c.self.view_is in let live = c.requires.1 in
    gives _ _ (some_of _ _ c.self.invariant.0.3 (omega arith))

pub returns-clause-seat : goal.returns-clause-seat
returns-clause-seat c =
    let all = ap (λ (p : PopIs). p.queue.all) c.self.view_is in let live = c.requires.1 in
    let place = (share_of (view c.self.inside.seat)).place in (
      search rules,
      (
        place,
        c.another.ensures.rule.1
            ∙ (c.self.invariant.0.3.1 (omega arith)
            ∙ ap (λ (p : PopIs). sight p.queue.all (share place 0 p.got ∷ [])) c.self.view_is),
      ),
    )
