use Rattle.std.proofs.Common.{false, arith}
use Rattle.firm_canon.proofs.Counts.{nothing_made}
use Rattle.firm_canon.proofs.States.{goes_counted}
use Rattle.firm_canon.proofs.choosing.Choosing.begin.Goals as goal

pub returns-clause-goes_on : goal.returns-clause-goes_on
returns-clause-goes_on c =
    goes_counted c.args.self.now c.args.self.now.scratch.now false c.args.self.now.spent 0 1 c.requires.ready
    c.requires.ready.spent (omega arith)
    (nothing_made c.args.self.now.scratch.now _)
