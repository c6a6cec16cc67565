use Rattle.std.proofs.Common.{ℕ, arith}
use Rattle.std.proofs.lemmas.Bool.{leb-true}
use Rattle.firm_rents.specs.inner.Classes.{IsSpent}
use Rattle.firm_rents.proofs.Suiting.{one_more}
use Rattle.firm_rents.proofs.first.passed.Goals as goal

pub loop-spent-preserved : goal.loop-spent-preserved
loop-spent-preserved c =
    let begun = c.args.begun in
    record {
      spent = one_more (λ (j : ℕ). IsSpent c.args.rents.now c.args.mark.lowest begun j) c.loop-spent.spent
          c.loop-spent.invariant.spent
          (c.loop-spent.invariant.next begun (omega (arith, leb-true, c.from.ensures))
          (omega (arith, c.ranges.begun.fits)));
      next = c.spent_since-since.ensures;
    }
