use Rattle.firm_rents.proofs.Comparing.{cheaper_of}
use Rattle.std.proofs.Common.{arith}
use Rattle.firm_rents.proofs.classes.cheaper_from_parted.Goals as goal

pub returns-then-found : goal.returns-then-found
returns-then-found c =
    λ some. cheaper_of c.args.classes.now c.args.one c.args.other c.first_differences-found.result
    c.first_differences-found.ensures.covers c.first_differences-found.ensures.differ (omega arith) some
