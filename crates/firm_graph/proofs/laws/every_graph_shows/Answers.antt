use Rattle.firm_graph.proofs.Shown.{graph-shows}
use Rattle.firm_graph.proofs.laws.every_graph_shows.Goals as goal

pub returns : goal.returns
returns c = λ g is. graph-shows g is
