use Rattle.firm_text.proofs.Forms.{refuses_for_the_form}
use Rattle.firm_text.proofs.laws.refuses_for_the_form.Goals as goal

pub returns : goal.returns
returns c = refuses_for_the_form
