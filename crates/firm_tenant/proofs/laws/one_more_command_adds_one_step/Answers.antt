use Rattle.firm_tenant.proofs.Steps.{one_more}
use Rattle.firm_tenant.proofs.laws.one_more_command_adds_one_step.Goals as goal

pub returns : goal.returns
returns c = one_more
