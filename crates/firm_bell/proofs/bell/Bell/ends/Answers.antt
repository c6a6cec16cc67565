use Rattle.std.proofs.Common.{rules}
use Rattle.firm_bell.proofs.Moves.{ends_in}
use Rattle.firm_bell.proofs.bell.Bell.ends.Goals as goal

pub load-is_over-requires : goal.load-is_over-requires
load-is_over-requires c = (search rules, search rules, ends_in _ _ _ (search rules) (search rules))
