use Rattle.std.proofs.Common.{arith}
use Rattle.firm_rents.proofs.Payments.{costs_more}
use Rattle.firm_rents.proofs.choices.excess.Goals as goal

pub returns-clause-more : goal.returns-clause-more
returns-clause-more c =
    costs_more c.args.case.now c.args.rents.now c.args.task c.args.chosen c.args.other c.saturating_sub.result
    c.requires.task
    (omega (arith, c.saturating_sub.ensures, c.paid.ensures.paid, c.paid-2.ensures.paid))
