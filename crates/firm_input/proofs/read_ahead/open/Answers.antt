use Rattle.std.proofs.Common.{ap, refl, rules}
use Rattle.firm_input.specs.Rule.{fresh}
use Rattle.firm_input.specs.inner.Steps.{Hand}
use Rattle.firm_input.proofs.Moves.{deals_as, divides_at}
use Rattle.firm_input.proofs.read_ahead.open.Goals as goal

pub vacant-requires : goal.vacant-requires
vacant-requires g c = (fresh c.in_ok-reader.reader, refl, tt)

pub load-requires : goal.load-requires
load-requires g c = (search rules, search rules, deals_as c.in_ok-reader.reader _ _ _ c.in_ok-board.ensures.4)

pub split_seat-resting-requires : goal.split_seat-resting-requires
split_seat-resting-requires g c =
    (search rules, search rules, divides_at _ _ _ (ap (λ (me : Hand). me.0) c.load.ensures.2))
