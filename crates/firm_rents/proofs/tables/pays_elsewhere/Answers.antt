use Rattle.std.proofs.Common.{◌<◌, length, arith}
use Rattle.firm_rules.specs.declared.rounds.Choice.TheVariants.{On, Wait}
use Rattle.firm_rules.specs.Placement.{task_at}
use Rattle.firm_rents.proofs.Cheapest.{wide-le}
use Rattle.firm_rents.proofs.tables.pays_elsewhere.Goals as goal

pub loop-place-init : goal.loop-place-init
loop-place-init c = λ bounds less more least fewer within each.
    (let l : c.args.lowest < length c.args.rents.now = omega arith in
    let here = within c.args.lowest l in
    let pays = each (On c.args.lowest) c.requires.lowest in
    let waits = each Wait tt in
    omega (arith, here, pays, waits, wide-le c.args.case.now (task_at c.args.case.now c.args.task) c.args.lowest))

pub loop-place-preserved : goal.loop-place-preserved
loop-place-preserved c = λ bounds less more least fewer within each.
    omega (
      arith,
      c.loop-place.invariant bounds less more least fewer within each,
      c.pays_on.ensures bounds less more least fewer within each,
    )
