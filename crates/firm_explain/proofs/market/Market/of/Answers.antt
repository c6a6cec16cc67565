use Rattle.std.proofs.Common.{◌≡◌, Bool, true, false, not, true≢false, refl}
use Rattle.std.specs.Prelude.{IsTrue}
use Rattle.firm_explain.proofs.market.Market.of.Goals as goal

true_where : (b : Bool) → not b ≡ false → IsTrue b
true_where true e = refl
true_where false e = absurd (true≢false e)

pub invariant_of-result-clause-shown_by_low : goal.invariant_of-result-clause-shown_by_low
invariant_of-result-clause-shown_by_low c =
    c.shows_least-by_low.ensures.shown.0 (true_where c.shows_least-by_low.result.least c.if-not-by_low.false)

pub invariant_of-result-clause-shown_by_high : goal.invariant_of-result-clause-shown_by_high
invariant_of-result-clause-shown_by_high c =
    c.shows_least-by_high.ensures.shown.0 (true_where c.shows_least-by_high.result.least c.if-not-by_high.false)

pub invariant_of-result-clause-in_order : goal.invariant_of-result-clause-in_order
invariant_of-result-clause-in_order c =
    c.in_ok-high.ensures.highest c.in_ok-low.low c.in_ok-low.ensures.rents
    (c.shows_least-by_low.ensures.shown.0 (true_where c.shows_least-by_low.result.least c.if-not-by_low.false))
