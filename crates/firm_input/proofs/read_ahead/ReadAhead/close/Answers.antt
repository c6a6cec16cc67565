use Rattle.std.proofs.Common.{rules}
use Rattle.firm_input.proofs.Moves.{closes_as, has}
use Rattle.firm_input.proofs.read_ahead.ReadAhead.close.Goals as goal

pub store-requires : goal.store-requires
store-requires g c =
    (search rules, search rules, closes_as _ _ _ _ (has _ _ _ c.in-Some-Some.is-0 c.source.invariant.1))
