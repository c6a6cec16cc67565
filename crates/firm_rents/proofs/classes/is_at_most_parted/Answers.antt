use Rattle.std.proofs.Common.{arith}
use Rattle.std.proofs.lemmas.Bool.{leb-true, leb-false}
use Rattle.firm_rents.proofs.Comparing.{sooner_of_class}
use Rattle.firm_rents.proofs.classes.is_at_most_parted.Goals as goal

pub returns-then-one-other-clause-yes : goal.returns-then-one-other-clause-yes
returns-then-one-other-clause-yes c =
    λ e. sooner_of_class c.args.classes.now c.args.one c.args.other (omega arith) (omega arith)
    (omega (arith, leb-true))

pub returns-then-one-other-clause-no : goal.returns-then-one-other-clause-no
returns-then-one-other-clause-no c =
    λ e. sooner_of_class c.args.classes.now c.args.other c.args.one (omega arith) (omega arith)
    (omega (arith, leb-false))
