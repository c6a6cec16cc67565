use Rattle.std.proofs.Common.{rules}
use Rattle.firm_bell.proofs.Moves.{lies_down_in}
use Rattle.firm_bell.proofs.bell.Bell.lies_down.Goals as goal

pub load-requires : goal.load-requires
load-requires c = (search rules, search rules, lies_down_in _ _ _ c.requires.1)
