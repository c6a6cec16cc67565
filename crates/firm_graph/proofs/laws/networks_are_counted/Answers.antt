use Rattle.firm_graph.proofs.Counts.{counted}
use Rattle.firm_graph.proofs.laws.networks_are_counted.Goals as goal

pub returns : goal.returns
returns c = counted
