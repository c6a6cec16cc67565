use Rattle.std.proofs.Common.{◌≡◌, take}
use Rattle.firm_rules.specs.SoundBook.{highest}
use Rattle.firm_rules.specs.inner.Bids.{wide_bid}
use Rattle.firm_rules.proofs.standing.wide_bid.Given as goal

abbrev pub invariant-loop-number : goal.invariant-loop-number
invariant-loop-number l =
    (l.remote ≡ l.rows.limits.remote) × (l.most ≡ highest (wide_bid l.rows) (take l.number l.rows.tasks))
