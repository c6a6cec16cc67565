use Rattle.firm_graph.specs.Graph.{IsGraph}
use Rattle.firm_graph.specs.inner.Inside.{graph_of}
use Rattle.firm_graph.proofs.Reflows.{reflowed_graph}
use Rattle.firm_graph.proofs.Shown.{graph-shows}
use Rattle.firm_graph.proofs.graph.Graph.push.Goals as goal

kept : (c : goal.After-push) → IsGraph (record (graph_of c.self.inside) { net = c.push.new.self })
kept c =
    reflowed_graph (graph_of c.self.inside) c.push.new.self c.self.invariant.graph c.push.ensures.net
    c.push.ensures.same

pub invariant_of-self : goal.invariant_of-self
invariant_of-self c = record { graph = kept c; sources = c.self.invariant.sources }

pub returns-clause-graph : goal.returns-clause-graph
returns-clause-graph c = kept c

pub returns-clause-shows : goal.returns-clause-shows
returns-clause-shows c = graph-shows (record (graph_of c.self.inside) { net = c.push.new.self }) (kept c)
