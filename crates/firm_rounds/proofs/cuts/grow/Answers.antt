use Rattle.std.proofs.Common.{rules, ◌∙◌}
use Rattle.firm_rounds.proofs.Fairs.{grows}
use Rattle.firm_rounds.proofs.Cutting.{grown_on}
use Rattle.firm_rounds.proofs.cuts.grow.Goals as goal

pub another-requires-clause-rule : goal.another-requires-clause-rule
another-requires-clause-rule c = grows _ _ _ c.loop.invariant.1

pub loop-preserved : goal.loop-preserved
loop-preserved c = (search rules, c.another.ensures.rule.0 ∙ grown_on _ _ _ c.loop.invariant.1)
