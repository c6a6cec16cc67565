use Rattle.std.proofs.Common.{rules}
use Rattle.firm_bell.proofs.Moves.{announces_in}
use Rattle.firm_bell.proofs.bell.Bell.announce.Goals as goal

pub compare_exchange-requires : goal.compare_exchange-requires
compare_exchange-requires c = (search rules, search rules, announces_in _ _ _ _ _ c.requires.1 (search rules))
