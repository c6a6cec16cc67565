use Rattle.std.proofs.lemmas.Grind.{common_steps}
use Rattle.std.proofs.Common.{arith}
use Rattle.firm_text.proofs.replies.put_operator_words.Goals as goal

pub returns-in-Admitted-clause-added : goal.returns-in-Admitted-clause-added
returns-in-Admitted-clause-added c = grind (arith, common_steps)

pub returns-in-Retired-clause-added : goal.returns-in-Retired-clause-added
returns-in-Retired-clause-added c = grind (arith, common_steps)
