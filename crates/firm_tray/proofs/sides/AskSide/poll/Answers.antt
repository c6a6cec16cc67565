use Rattle.std.proofs.Common.{rules}
use Rattle.firm_tray.proofs.Moves.{sees_as, slot_seen, solved_seen}
use Rattle.firm_tray.proofs.sides.AskSide.poll.Goals as goal

pub compare_exchange-requires : goal.compare_exchange-requires
compare_exchange-requires c = (
  search rules,
  search rules,
  sees_as c.self.inside.seat.me.0.book c.self.inside.seat.me.0.vain _ _ _ _ (search rules) (search rules),
)

pub exchange-requires : goal.exchange-requires
exchange-requires c =
    (search rules, slot_seen c.self.inside.seat.me _ _ c.compare_exchange.ensures.2 c.if-compare_exchange-eq1.true)

pub returns-then-compare_exchange-eq1 : goal.returns-then-compare_exchange-eq1
returns-then-compare_exchange-eq1 c =
    solved_seen c.args.self.book c.self.inside.seat.me _ _ c.exchange.result c.unwrap.result (search rules)
    c.compare_exchange.ensures.2 c.if-compare_exchange-eq1.true (search rules) (search rules)
