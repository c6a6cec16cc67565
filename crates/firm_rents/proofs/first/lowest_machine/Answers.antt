use Rattle.std.proofs.Common.{ℕ, arith}
use Rattle.firm_rents.specs.inner.Classes.{IsLeast}
use Rattle.firm_rents.proofs.Suiting.{one_more}
use Rattle.firm_rents.proofs.first.lowest_machine.Goals as goal

pub loop-place-preserved : goal.loop-place-preserved
loop-place-preserved c =
    let rents = c.args.rents.now in
    record {
      inside = λ some. c.lesser-lowest.ensures.within;
      most = omega (arith, c.lesser-lowest.ensures.within);
      least = one_more (λ (j : ℕ). IsLeast rents c.lesser-lowest.result j) c.loop-place.place
          (λ j l. c.lesser-lowest.ensures.kept j (c.loop-place.invariant.least j l)) c.lesser-lowest.ensures.other;
    }
