use Rattle.std.proofs.Common.{subst}
use Rattle.firm_graph.specs.Graph.{Graph}
use Rattle.firm_graph.specs.View.{Shows}
use Rattle.firm_graph.specs.Ids.{view_of}
use Rattle.firm_graph.specs.inner.Inside.{graph_of}
use Rattle.firm_net.specs.Net.{CountsAre}
use Rattle.firm_rules.specs.ArenaUse.{arena_nodes, arena_arcs}
use Rattle.firm_graph.proofs.Totals.{nodes-counted}
use Rattle.firm_graph.proofs.Counts.{arcs-counted}
use Rattle.firm_graph.proofs.Shown.{graph-shows}
use Rattle.firm_graph.proofs.graph.Graph.net.Goals as goal

pub returns-clause-shows : goal.returns-clause-shows
returns-clause-shows c =
    let P : Graph → Type 0 = λ (g : Graph). Shows (view_of g) in
    subst P c.self.view_is (graph-shows (graph_of c.self.inside) c.self.invariant.graph)

pub returns-clause-counts : goal.returns-clause-counts
returns-clause-counts c =
    let g : Graph = graph_of c.self.inside in
    let P : Graph → Type 0 = λ (h : Graph). CountsAre h.net (arena_nodes h.rows) (arena_arcs h.rows) in
    subst P c.self.view_is
    (record {
      counted_nodes = nodes-counted g c.self.invariant.graph.mirrors;
      counted_arcs = arcs-counted g
          c.self.invariant.graph.mirrors;
    })
