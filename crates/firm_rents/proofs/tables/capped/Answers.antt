use Rattle.std.proofs.lemmas.Grind.{common_steps}
use Rattle.std.proofs.Common.{arith}
use Rattle.firm_rents.proofs.tables.capped.Goals as goal

pub returns-clause-one_each : goal.returns-clause-one_each
returns-clause-one_each c = grind (arith, common_steps)

pub returns-clause-small : goal.returns-clause-small
returns-clause-small c = grind (arith, common_steps)

pub returns-clause-capped : goal.returns-clause-capped
returns-clause-capped c = grind (arith, common_steps)

pub returns-clause-within : goal.returns-clause-within
returns-clause-within c = grind (arith, common_steps)
