use Rattle.std.proofs.Common.{arith}
use Rattle.firm_rents.proofs.Suiting.{all_small}
use Rattle.firm_rents.proofs.first.are_small.Goals as goal

pub returns : goal.returns
returns c = λ e. all_small c.args.amounts.now 1099511627776 (λ j l. c.loop-place.invariant j (omega arith))
