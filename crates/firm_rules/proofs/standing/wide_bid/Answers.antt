use Rattle.std.proofs.Common.{◌≡◌, Some, sym, ◌∙◌, arith}
use Rattle.std.specs.Prelude.{slice_get}
use Rattle.firm_rules.specs.inner.Bids.{wide_bid}
use Rattle.firm_rules.specs.declared.book.Task.{Task}
use Rattle.firm_rules.proofs.Bids.{highest-more}
use Rattle.firm_rules.proofs.standing.wide_bid.Goals as goal

pub loop-number-preserved : goal.loop-number-preserved
loop-number-preserved c =
    let rows = c.args.rows.now in
    let task : Task = c.in-Some.task in
    let there : slice_get rows.tasks c.loop-number.number ≡ Some task = sym c.task_at.ensures ∙ c.in-Some.is in (
      c.loop-number.invariant.0,
      omega (
        arith,
        c.max-most.ensures,
        c.saturating_sub.ensures,
        c.bid_of.ensures,
        c.loop-number.invariant.0,
        c.loop-number.invariant.1,
        highest-more (wide_bid rows) rows.tasks c.loop-number.number task there,
      ),
    )
