use Rattle.firm_rules.proofs.Orders.{ordered}
use Rattle.firm_rules.proofs.laws.the_first_difference_decides.Goals as goal

pub returns : goal.returns
returns c = ordered
