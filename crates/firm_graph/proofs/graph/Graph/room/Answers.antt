use Rattle.std.proofs.Common.{◌≡◌, ◌+◌, arith, subst}
use Rattle.firm_rules.specs.ArenaUse.{arena_nodes, arena_arcs}
use Rattle.firm_graph.specs.Graph.{Graph}
use Rattle.firm_graph.specs.inner.Inside.{graph_of}
use Rattle.firm_graph.proofs.Totals.{nodes-counted}
use Rattle.firm_graph.proofs.Counts.{arcs-counted}
use Rattle.firm_graph.proofs.graph.Graph.room.Goals as goal

pub returns-clause-nodes : goal.returns-clause-nodes
returns-clause-nodes c =
    let g : Graph = graph_of c.self.inside in
    let P : Graph → Type 0 = λ (h : Graph). c.room.result.0 + arena_nodes h.rows ≡ h.rows.limits.nodes in
    let here : P g = omega (arith, nodes-counted g c.self.invariant.graph.mirrors) in
    subst P c.self.view_is here

pub returns-clause-arcs : goal.returns-clause-arcs
returns-clause-arcs c =
    let g : Graph = graph_of c.self.inside in
    let P : Graph → Type 0 = λ (h : Graph). c.room.result.1 + arena_arcs h.rows ≡ h.rows.limits.arcs in
    let here : P g = omega (arith, arcs-counted g c.self.invariant.graph.mirrors) in
    subst P c.self.view_is here
