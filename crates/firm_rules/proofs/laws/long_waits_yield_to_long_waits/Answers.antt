use Rattle.firm_rules.proofs.Waits.{yield}
use Rattle.firm_rules.proofs.laws.long_waits_yield_to_long_waits.Goals as goal

pub returns : goal.returns
returns c = yield
