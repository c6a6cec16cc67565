use Rattle.std.proofs.Common.{◌≡◌, ◌∙◌, Some, rules}
use Rattle.firm_input.proofs.Moves.{has, lends_as, put_once}
use Rattle.firm_input.proofs.read_ahead.ReadAhead.lend.Goals as goal

pub store-requires : goal.store-requires
store-requires g c =
    let found : c.take-reader.result ≡ Some c.in-Some.reader = c.take-reader.ensures.value ∙ c.in-Some.is in
    let here = has _ _ _ c.in-Some.is c.self.invariant.1 in
    let put = put_once _ _ _ _ _ here c.exchange.ensures.3 in
    (search rules, search rules, lends_as _ c.in-Some.reader _ _ _ (rw found at put))
