use Rattle.firm_graph.proofs.Fronts.{front-few}
use Rattle.firm_graph.proofs.preferred.PreferredArcs.len.Goals as goal

pub returns-clause-most : goal.returns-clause-most
returns-clause-most c = front-few c.self.inside.arcs c.self.inside.len c.self.invariant
