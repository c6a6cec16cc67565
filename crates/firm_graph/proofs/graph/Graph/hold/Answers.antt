use Rattle.std.proofs.Common.{subst}
use Rattle.firm_graph.specs.Graph.{Graph, IsGraph}
use Rattle.firm_graph.specs.View.{Shows}
use Rattle.firm_graph.specs.Ids.{view_of}
use Rattle.firm_graph.specs.inner.Inside.{graph_of}
use Rattle.firm_graph.proofs.Reflows.{reflowed_graph, set-same}
use Rattle.firm_graph.proofs.Shown.{graph-shows}
use Rattle.firm_graph.proofs.graph.Graph.hold.Goals as goal

kept : (c : goal.After-set) → IsGraph (record (graph_of c.self.inside) { net = c.set.new.self })
kept c =
    reflowed_graph (graph_of c.self.inside) c.set.new.self c.self.invariant.graph c.set.ensures.net
    (set-same c.self.inside.net c.set.new.self c.args.arc c.in-Some.row c.args.low c.cap.result c.cost.result
    c.flow.result c.set.result c.in-Some.ensures.row
    c.cap.ensures.value c.cost.ensures.value c.set.ensures.sets c.set.ensures.unchanged)

pub invariant_of-self : goal.invariant_of-self
invariant_of-self c = record { graph = kept c; sources = c.self.invariant.sources }

pub returns-clause-graph : goal.returns-clause-graph
returns-clause-graph c = kept c

pub returns-clause-shows : goal.returns-clause-shows
returns-clause-shows c = graph-shows (record (graph_of c.self.inside) { net = c.set.new.self }) (kept c)

pub returns-in_default-clause-shows : goal.returns-in_default-clause-shows
returns-in_default-clause-shows c =
    let P : Graph → Type 0 = λ (g : Graph). Shows (view_of g) in
    subst P c.self.view_is (graph-shows (graph_of c.self.inside) c.self.invariant.graph)
