use Rattle.std.proofs.Common.{◌<◌, length, arith}
use Rattle.firm_rents.proofs.Bounding.{set_below}
use Rattle.firm_rents.proofs.tables.raise_one.Goals as goal

pub returns-clause-below : goal.returns-clause-below
returns-clause-below c = λ bounds each before.
    (let l : c.args.place < length c.args.rents.now = omega arith in
    set_below c.args.rents.now c.raise_to.new.rents bounds c.args.place _ l c.raise_to.ensures
    (omega (arith, each c.args.place c.requires.place, before c.args.place)) before)
