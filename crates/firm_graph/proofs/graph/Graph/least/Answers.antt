use mathlib.Core.List.{map-map}
use Rattle.std.proofs.Common.{ℕ, List, length, arith, ap, subst, sym, ◌∙◌}
use Rattle.std.proofs.lemmas.List.{length-map}
use Rattle.firm_net.specs.declared.row.NodeId.{NodeId}
use Rattle.firm_net.specs.Net.{arc_count}
use Rattle.firm_paths.specs.Workspace.{HasSearched}
use Rattle.firm_paths.specs.NetArcs.{arcs_of}
use Rattle.firm_flow.specs.Flow.{IsDeficientCut}
use Rattle.firm_flow.specs.NetFlow.{places, AreDistinctNodes, IsLeastFlow}
use Rattle.firm_graph.specs.Graph.{Graph}
use Rattle.firm_graph.specs.declared.ids.TaskParts.{TaskParts}
use Rattle.firm_graph.specs.inner.Inside.{graph_of}
use Rattle.firm_graph.proofs.Cuts.{no-cut, distinct}
use Rattle.firm_graph.proofs.Reflows.{reflowed_graph}
use Rattle.firm_graph.specs.Network.{task_nodes as case_tasks}
use Rattle.firm_graph.specs.Ids.{node_id, view_of}
use Rattle.firm_graph.proofs.Shown.{graph-shows, sources-named, task-count}
use Rattle.firm_graph.proofs.graph.Graph.least.Goals as goal

pub solve-requires-clause-nodes : goal.solve-requires-clause-nodes
solve-requires-clause-nodes c =
    let g : Graph = graph_of c.self.inside in
    subst (λ (l : List NodeId). AreDistinctNodes g.net l g.sink)
    (sym (c.deref.ensures.value ∙ c.self.invariant.sources)) (distinct g c.self.invariant.graph.mirrors)

pub unreachable-requires : goal.unreachable-requires
unreachable-requires c =
    let g : Graph = graph_of c.self.inside in
    let cut = c.in_default.ensures.no_way in
    no-cut g cut.0 c.self.invariant.graph.mirrors c.self.invariant.graph.sound
    (subst (λ (l : List NodeId). IsDeficientCut (arcs_of g.net) (places l) g.sink.id.place cut.0)
    (c.deref.ensures.value ∙ c.self.invariant.sources) cut.1)

pub returns-clause-graph : goal.returns-clause-graph
returns-clause-graph c =
    reflowed_graph (graph_of c.self.inside) c.solve.new.net c.self.invariant.graph c.solve.ensures.net
    c.solve.ensures.same

pub invariant_of-self : goal.invariant_of-self
invariant_of-self c = record { graph = returns-clause-graph c; sources = c.self.invariant.sources }

pub returns-clause-shows : goal.returns-clause-shows
returns-clause-shows c =
    graph-shows (record (graph_of c.self.inside) { net = c.solve.new.net }) (returns-clause-graph c)

pub returns-clause-least : goal.returns-clause-least
returns-clause-least c =
    let g : Graph = graph_of c.self.inside in
    subst (λ (l : List ℕ). IsLeastFlow c.solve.new.net l g.sink.id.place)
    (ap places (c.deref.ensures.value ∙ c.self.invariant.sources ∙ sym (sources-named g c.self.invariant.graph))
    ∙ map-map (λ (n : NodeId). n.id.place) (node_id g) (case_tasks (view_of g).case)) c.in-Ok.ensures.least

pub returns-clause-counts : goal.returns-clause-counts
returns-clause-counts c =
    let g : Graph = graph_of c.self.inside in
    let made = c.solve.ensures.counts in (
      made.0,
      omega (
        arith,
        ap (λ (l : List NodeId). length l) (c.deref.ensures.value ∙ c.self.invariant.sources),
        length-map g.tasks (λ (p : TaskParts). p.node),
        ap (λ (h : Graph). length (view_of h).case.tasks) c.self.view_is,
        task-count g c.self.invariant.graph,
      ),
      subst (λ (n : ℕ). HasSearched c.args.scratch.now c.solve.new.scratch made.0 n)
          (ap (λ (h : Graph). arc_count h.net) c.self.view_is) made.2,
    )
