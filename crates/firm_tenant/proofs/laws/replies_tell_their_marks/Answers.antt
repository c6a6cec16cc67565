use Rattle.firm_tenant.proofs.Steps.{told}
use Rattle.firm_tenant.proofs.laws.replies_tell_their_marks.Goals as goal

pub returns : goal.returns
returns c = told
