use Rattle.std.proofs.Common.{ap, refl, get_or}
use Rattle.firm_rounds.specs.Passes.{ClosingIs}
use Rattle.firm_hall.proofs.Shutting.{gathered}
use Rattle.firm_hall.proofs.close.gather.Goals as goal

pub returns-clause-shares : goal.returns-clause-shares
returns-clause-shares c =
    let cut = c.split_at_mut-head.ensures in let begun = c.begin-closing.ensures.closing in
    gathered c.begin-closing.result.shares c.give_desks.new.closing.shares c.give_empty.new.closing.shares
    c.give_reports.new.closing.shares begun.0 _ _ c.args.reports.now c.args.desks.now c.args.empty.now _ _ cut.value
    cut.front_len
    (refl {a = get_or c.split_at_mut-head.result.0.now 0 c.index-head-0.result})
    (ap (λ (v : ClosingIs). v.shares) begun.1) c.give_desks.ensures.shares c.give_empty.ensures.shares
    c.give_reports.ensures.shares
