use Rattle.firm_rents.proofs.Levels.{shown_first}
use Rattle.firm_rents.proofs.laws.rents_show_first.Goals as goal

pub returns : goal.returns
returns c = shown_first c.loads_are_sums_of_slots.ensures.sums c.loads_are_sums_of_slots.ensures.rises
