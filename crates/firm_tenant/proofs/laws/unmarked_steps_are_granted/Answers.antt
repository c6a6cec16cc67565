use Rattle.firm_tenant.proofs.Steps.{granted}
use Rattle.firm_tenant.proofs.laws.unmarked_steps_are_granted.Goals as goal

pub returns : goal.returns
returns c = granted
