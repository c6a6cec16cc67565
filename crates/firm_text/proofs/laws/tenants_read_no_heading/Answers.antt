use Rattle.firm_text.proofs.Forms.{tenants_read_no_heading}
use Rattle.firm_text.proofs.laws.tenants_read_no_heading.Goals as goal

pub returns : goal.returns
returns c = tenants_read_no_heading
