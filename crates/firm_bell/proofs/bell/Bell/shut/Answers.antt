use Rattle.std.proofs.Common.{rules}
use Rattle.firm_bell.proofs.Moves.{shuts_in}
use Rattle.firm_bell.proofs.bell.Bell.shut.Goals as goal

pub swap_new_seat-seat-requires : goal.swap_new_seat-seat-requires
swap_new_seat-seat-requires c = (search rules, shuts_in _)
