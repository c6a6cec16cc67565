-- No arc lies past the loop's end.
use Rattle.std.proofs.Common.{arith}
use Rattle.firm_net.proofs.Clears.{cleared-end}
use Rattle.firm_net.proofs.links.clear_rows.Goals as goal

pub returns : goal.returns
returns c =
    cleared-end c.args.links.now c.loop-place.links c.loop-place.place c.loop-place.invariant
    (λ p past. c.used-place-end.ensures.nothing p (omega (arith, past)))
