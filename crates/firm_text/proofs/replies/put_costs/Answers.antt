use Rattle.std.proofs.lemmas.Grind.{common_steps, elements}
use Rattle.std.proofs.Common.{arith}
use Rattle.firm_text.proofs.replies.put_costs.Goals as goal

pub returns-clause-kept : goal.returns-clause-kept
returns-clause-kept c = grind (arith, elements)

pub returns-clause-added : goal.returns-clause-added
returns-clause-added c = grind (arith, common_steps)
