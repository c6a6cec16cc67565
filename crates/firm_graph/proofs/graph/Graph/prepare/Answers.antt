use Rattle.firm_graph.specs.Graph.{IsGraph}
use Rattle.firm_graph.specs.inner.Inside.{graph_of}
use Rattle.firm_graph.proofs.Reflows.{reflowed_graph, clear-same}
use Rattle.firm_graph.proofs.Shown.{graph-shows, cleared-rests}
use Rattle.firm_graph.proofs.graph.Graph.prepare.Goals as goal

kept : (c : goal.After-clear_flow) → IsGraph (record (graph_of c.self.inside) { net = c.clear_flow.new.self })
kept c =
    reflowed_graph (graph_of c.self.inside) c.clear_flow.new.self c.self.invariant.graph c.clear_flow.ensures.net
    (clear-same c.self.inside.net c.clear_flow.new.self c.clear_flow.ensures.clears)

pub invariant_of-self : goal.invariant_of-self
invariant_of-self c = record { graph = kept c; sources = c.self.invariant.sources }

pub returns-clause-graph : goal.returns-clause-graph
returns-clause-graph c = kept c

pub returns-clause-shows : goal.returns-clause-shows
returns-clause-shows c = graph-shows (record (graph_of c.self.inside) { net = c.clear_flow.new.self }) (kept c)

pub returns-clause-rest : goal.returns-clause-rest
returns-clause-rest c =
    cleared-rests (record (graph_of c.self.inside) { net = c.clear_flow.new.self }) c.self.inside.net (kept c).mirrors
    c.clear_flow.ensures.clears
