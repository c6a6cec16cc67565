use Rattle.std.proofs.Common.{rules}
use Rattle.firm_tray.proofs.Moves.{deals_as, sides_as}
use Rattle.firm_tray.proofs.sides.Tray.open.Goals as goal

pub load-requires : goal.load-requires
load-requires c = (search rules, search rules, deals_as c.args.tenant.now _ _ _ _ (search rules) (search rules))

pub split_seat-asking-requires : goal.split_seat-asking-requires
split_seat-asking-requires c =
    (search rules, search rules, λ s. sides_as c.args.tenant.now _ _ _ s (search rules) (search rules))
