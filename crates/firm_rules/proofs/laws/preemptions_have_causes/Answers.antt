use Rattle.firm_rules.proofs.Causes.{caused}
use Rattle.firm_rules.proofs.laws.preemptions_have_causes.Goals as goal

pub returns : goal.returns
returns c = caused
