use Rattle.std.proofs.lemmas.Grind.{common_steps}
use Rattle.std.proofs.Common.{arith}
use Rattle.firm_rents.proofs.tables.paid_for.Goals as goal

pub loop-place-init : goal.loop-place-init
loop-place-init c = grind (arith, common_steps)

pub slot_cost-requires-clause-few_slots : goal.slot_cost-requires-clause-few_slots
slot_cost-requires-clause-few_slots c = grind (arith, common_steps)
