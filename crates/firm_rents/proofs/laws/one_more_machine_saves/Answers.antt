use Rattle.firm_rents.proofs.OtherSlots.{one_more_machine}
use Rattle.firm_rents.proofs.laws.one_more_machine_saves.Goals as goal

pub returns : goal.returns
returns c = one_more_machine
