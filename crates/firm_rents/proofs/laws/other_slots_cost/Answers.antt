use Rattle.firm_rents.proofs.OtherSlots.{other_slots}
use Rattle.firm_rents.proofs.laws.other_slots_cost.Goals as goal

pub returns : goal.returns
returns c = other_slots
