use Rattle.std.proofs.Common.{arith}
use Rattle.firm_rents.proofs.Comparing.{by_dearer}
use Rattle.firm_rents.proofs.classes.cheaper_since.Goals as goal

pub returns : goal.returns
returns c =
    λ t a b later early la lb. by_dearer c.args.classes.now c.args.one c.args.other c.cheaper_from.result a b
    (omega arith) (c.cheaper_from.ensures (omega (arith, later, early))) (omega (arith, later, la))
    (omega (arith, later, lb))
