use Rattle.std.proofs.Common.{rules}
use Rattle.firm_bell.proofs.Moves.{wakes_up_in}
use Rattle.firm_bell.proofs.bell.Bell.wakes_up.Goals as goal

pub compare_exchange-requires : goal.compare_exchange-requires
compare_exchange-requires c =
    (search rules, search rules, wakes_up_in _ _ _ _ _ c.requires.seat.1 (search rules) (search rules) (search rules))
