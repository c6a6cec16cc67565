use Rattle.std.proofs.Common.{rules}
use Rattle.firm_bell.proofs.Moves.{calls_in}
use Rattle.firm_bell.proofs.bell.Bell.call.Goals as goal

pub fetch_max-before-requires : goal.fetch_max-before-requires
fetch_max-before-requires c =
    (search rules, search rules, calls_in _ _ _ _ c.requires.seat.1 (search rules) (search rules))
