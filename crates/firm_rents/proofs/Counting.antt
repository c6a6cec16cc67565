-- How counts of work go on.
use Rattle.std.proofs.Common.{◌∙◌, arith}
use Rattle.firm_levels.specs.Work.{Spent, GoesOn}

pub goes_on : {first then last : Spent} → GoesOn first then → GoesOn then last → GoesOn first last
goes_on one other = record { most = other.most ∙ one.most; looks = omega (arith, one.looks, other.looks) }
