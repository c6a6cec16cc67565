use Rattle.firm_rules.proofs.Exchanges.{gains}
use Rattle.firm_rules.proofs.laws.preemptions_gain.Goals as goal

pub returns : goal.returns
returns c = gains
