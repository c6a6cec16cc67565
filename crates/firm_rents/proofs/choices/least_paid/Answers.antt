use Rattle.std.proofs.Common.{arith}
use Rattle.firm_rules.specs.Placement.{task_at}
use Rattle.firm_rents.proofs.Cheapest.{least_is}
use Rattle.firm_rents.proofs.choices.least_paid.Goals as goal

pub returns-clause-paid : goal.returns-clause-paid
returns-clause-paid c =
    let least = least_is c.args.case.now c.args.rents.now (task_at c.args.case.now c.args.task)
    c.cheapest_other-machine.result c.cheapest_other-machine.ensures in
    omega (arith, least, c.min.ensures, c.cost_of_choice-wait.ensures.cost, c.paid.ensures.paid)
