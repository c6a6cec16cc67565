use Rattle.firm_rents.proofs.Payments.{that_show_suit}
use Rattle.firm_rents.proofs.laws.rents_that_show_suit.Goals as goal

pub returns : goal.returns
returns c = that_show_suit c.loads_are_sums_of_slots.ensures.sums c.loads_are_sums_of_slots.ensures.rises
