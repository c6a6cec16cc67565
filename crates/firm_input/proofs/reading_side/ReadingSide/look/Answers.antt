use Rattle.std.proofs.Common.{◌≡◌, ◌∙◌, Some, rules, subst, sym}
use Rattle.std.specs.Io.KnownBytes.{Keeps}
use Rattle.std.proofs.KnownBytes.{Keeps-trans}
use Rattle.firm_input.specs.Rule.{Left}
use Rattle.firm_input.proofs.Moves.{looks_as, reader_seen, slot_held, put_once, same_item, same_reader}
use Rattle.firm_input.proofs.Moves.{returns_as}
use Rattle.firm_input.proofs.reading_side.ReadingSide.look.Goals as goal

pub load-turn-requires : goal.load-turn-requires
load-turn-requires g c = (search rules, search rules, looks_as _ _ _ c.self.invariant.1)

pub exchange-requires : goal.exchange-requires
exchange-requires g c =
    let seen = reader_seen _ _ _ c.load-turn.ensures.2 c.if-turn-eq-ASKED.true in
    (search rules, slot_held _ _ _ seen.3)

pub store-requires : goal.store-requires
store-requires g c =
    let seen = reader_seen _ _ _ c.load-turn.ensures.2 c.if-turn-eq-ASKED.true in
    let got : c.exchange.result ≡ Some seen.1 = same_item _ _ _ _ seen.3 c.exchange.ensures.2 in
    let same : seen.1 ≡ c.in-Some.reader = same_reader _ _ (sym got ∙ c.in-Some.is) in
    let kept : Keeps seen.0 c.read_ahead.new.self =
    Keeps-trans seen.0 c.in-Some.reader _ (subst (λ (reader : Left). Keeps seen.0 reader) same seen.2)
    c.read_ahead.ensures in
    let once = put_once _ _ _ _ _ seen.3 c.exchange.ensures.3 in
    let twice = put_once _ _ _ _ _ once c.exchange-then-turn-eq-ASKED.ensures.3 in
    (search rules, search rules, returns_as seen.0 c.read_ahead.new.self _ _ _ kept twice)
