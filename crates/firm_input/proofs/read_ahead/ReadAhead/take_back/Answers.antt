use Rattle.std.proofs.Common.{rules}
use Rattle.firm_input.proofs.Moves.{lent, waits_as, reader_back, slot_held}
use Rattle.firm_input.proofs.read_ahead.ReadAhead.take_back.Goals as goal

pub compare_exchange-requires : goal.compare_exchange-requires
compare_exchange-requires g c =
    (search rules, search rules, waits_as _ _ _ _ (lent _ _ (search rules) c.self.invariant.1))

pub exchange-requires : goal.exchange-requires
exchange-requires g c =
    let seen = reader_back _ _ _ c.compare_exchange.ensures.2 c.if-compare_exchange-eq-READ.true in
    (search rules, slot_held _ _ _ seen.2)
