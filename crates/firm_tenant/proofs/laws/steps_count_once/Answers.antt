use Rattle.firm_tenant.proofs.Steps.{count_once}
use Rattle.firm_tenant.proofs.laws.steps_count_once.Goals as goal

pub returns : goal.returns
returns c = count_once
