use Rattle.std.proofs.Common.{ap, arith}
use Rattle.firm_rounds.specs.Passes.{PutIs}
use Rattle.firm_rounds.proofs.Fairs.{gives, some_of}
use Rattle.firm_rounds.proofs.passes.PutPass.give.Goals as goal

pub another-requires-clause-rule : goal.another-requires-clause-rule
another-requires-clause-rule c =
    let all = ap (λ (p : PutIs). p.queue.all) c.self.view_is in let live = c.requires.1 in
    gives _ _ (some_of _ _ c.self.invariant.3 (omega arith))
