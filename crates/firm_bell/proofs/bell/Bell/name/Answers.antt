use Rattle.std.proofs.Common.{rules}
use Rattle.firm_bell.proofs.Moves.{comes_in}
use Rattle.firm_bell.proofs.bell.Bell.name.Goals as goal

pub load_new_seat-seat-requires : goal.load_new_seat-seat-requires
load_new_seat-seat-requires c = (search rules, comes_in _)
