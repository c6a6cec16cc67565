use Rattle.std.proofs.Common.{rules}
use Rattle.firm_bell.proofs.Moves.{learns_shut_in}
use Rattle.firm_bell.proofs.bell.Bell.is_shut.Goals as goal

pub load-requires : goal.load-requires
load-requires c = (search rules, search rules, learns_shut_in _ _ _ (search rules))
