use Rattle.std.proofs.Common.{arith}
use Rattle.std.proofs.lemmas.Bool.{ltb-true}
use Rattle.firm_rents.proofs.Suiting.{all_below}
use Rattle.firm_rents.proofs.first.are_below.Goals as goal

pub returns-clause-below : goal.returns-clause-below
returns-clause-below c =
    λ e. all_below c.args.places.now c.args.classes (omega (arith, ltb-true))
    (λ j l. c.loop-place.invariant j (omega arith))
