use Rattle.std.proofs.Common.{rules}
use Rattle.firm_bell.proofs.Moves.{takes_in}
use Rattle.firm_bell.proofs.bell.Bell.took.Goals as goal

pub fetch_sub-before-requires : goal.fetch_sub-before-requires
fetch_sub-before-requires c = (search rules, search rules, takes_in _ _ _ (search rules))
