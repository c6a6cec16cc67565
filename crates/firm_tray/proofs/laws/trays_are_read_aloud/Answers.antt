use Rattle.firm_tray.proofs.ReadAloud.{reads}
use Rattle.firm_tray.proofs.laws.trays_are_read_aloud.Goals as goal

pub returns : goal.returns
returns c = reads
