use Rattle.firm_rules.proofs.Exchanges.{bounded}
use Rattle.firm_rules.proofs.laws.patience_bounds_preemptions.Goals as goal

pub returns : goal.returns
returns c = bounded
