use Rattle.firm_rules.proofs.Legals.{judged}
use Rattle.firm_rules.proofs.laws.legality_is_judged.Goals as goal

pub returns : goal.returns
returns c = judged
