use Rattle.std.proofs.Common.{arith}
use Rattle.firm_rules.specs.Placement.{task_at}
use Rattle.firm_rules.proofs.CaseLists.{cost_split}
use Rattle.firm_rules.proofs.cases.Case.cost_of_choice.Goals as goal

pub returns-clause-cost : goal.returns-clause-cost
returns-clause-cost g c =
    omega (
      arith,
      cost_split c.args.self.now (task_at c.args.self.now c.args.task) c.args.choice,
      c.rest_of.ensures.rest,
      c.churn_of.ensures.churn,
    )
