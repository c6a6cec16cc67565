use Rattle.std.proofs.Common.{◌<◌, length, arith}
use Rattle.firm_rules.specs.declared.rounds.Choice.TheVariants.{On}
use Rattle.firm_rents.proofs.tables.pays_on.Goals as goal

pub returns : goal.returns
returns c = λ bounds less more least fewer within each.
    (let l : c.args.place < length c.args.rents.now = omega arith in
    let here = within c.args.place l in
    let pays = each (On c.args.place) c.requires.place in
    omega (arith, here, pays))
