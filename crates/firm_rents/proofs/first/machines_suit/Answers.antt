use Rattle.std.proofs.Common.{ℕ, subst, arith}
use Rattle.std.specs.Prelude.{slice_index}
use Rattle.firm_rents.specs.inner.Classes.{level_rents, SuitsLoad}
use Rattle.firm_rents.proofs.Suiting.{one_more}
use Rattle.firm_rents.proofs.first.machines_suit.Goals as goal

pub loop-place-preserved : goal.loop-place-preserved
loop-place-preserved c =
    let place = c.loop-place.place in
    let rents = level_rents c.args.rents.now in
    one_more (λ (j : ℕ). SuitsLoad c.args.case.now rents j (slice_index c.args.loads.now j)) place
    c.loop-place.invariant
    (subst (SuitsLoad c.args.case.now rents place) c.from.ensures (c.suits_load.ensures c.if-not-suits_load.false))

pub returns : goal.returns
returns c = λ e j l. c.loop-place.invariant j (omega arith)
