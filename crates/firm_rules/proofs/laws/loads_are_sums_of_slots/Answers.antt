use Rattle.firm_rules.proofs.SlotCosts.{sums, rises, within}
use Rattle.firm_rules.proofs.laws.loads_are_sums_of_slots.Goals as goal

pub returns-clause-sums : goal.returns-clause-sums
returns-clause-sums c = sums

pub returns-clause-rises : goal.returns-clause-rises
returns-clause-rises c = rises

pub returns-clause-most : goal.returns-clause-most
returns-clause-most c = within
