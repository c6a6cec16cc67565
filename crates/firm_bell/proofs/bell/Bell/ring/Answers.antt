use Rattle.std.proofs.Common.{rules}
use Rattle.firm_bell.proofs.Moves.{rings_in}
use Rattle.firm_bell.proofs.bell.Bell.ring.Goals as goal

pub swap-owed-requires : goal.swap-owed-requires
swap-owed-requires c = (search rules, search rules, rings_in _ _ _ (search rules))
