use Rattle.std.proofs.Common.{rules, ◌<◌, length, ap, ◌∙◌, arith}
use Rattle.crossbeam_queue.specs.Passes.{view}
use Rattle.firm_rounds.specs.declared.protocol.Sight.{Sight}
use Rattle.firm_rounds.proofs.Fairs.{cuts}
use Rattle.firm_rounds.proofs.Cutting.{held_left, held_cut}
use Rattle.firm_rounds.proofs.cuts.cut.Goals as goal

pub another-requires-clause-rule : goal.another-requires-clause-rule
another-requires-clause-rule c = cuts _ _ (let wide = ap (λ (v : Sight). length v.shares) c.requires.2 in omega arith)

pub returns-clause-kept : goal.returns-clause-kept
returns-clause-kept c =
    let now =
    c.another.ensures.rule.0 in
    (search rules, ap (λ (v : Sight). v.all) now, now ∙ held_left _ _ _ c.requires.2 c.requires.1)

pub returns-clause-cut : goal.returns-clause-cut
returns-clause-cut c = (search rules, c.another.ensures.rule.1 ∙ held_cut _ _ _ c.requires.2 c.requires.1)
