use Rattle.firm_text.proofs.Forms.{admits_what_fits}
use Rattle.firm_text.proofs.laws.admits_what_fits.Goals as goal

pub returns : goal.returns
returns c = admits_what_fits
