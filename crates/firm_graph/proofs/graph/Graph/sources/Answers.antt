use Rattle.std.proofs.Common.{◌≡◌, map, sym, subst, ◌∙◌}
use Rattle.firm_graph.specs.Graph.{Graph}
use Rattle.firm_graph.specs.Network.{task_nodes}
use Rattle.firm_graph.specs.Ids.{view_of}
use Rattle.firm_graph.specs.inner.Inside.{graph_of}
use Rattle.firm_graph.proofs.Shown.{sources-named}
use Rattle.firm_graph.proofs.graph.Graph.sources.Goals as goal

pub returns-clause-value : goal.returns-clause-value
returns-clause-value c =
    let P : Graph → Type 0 = λ (g : Graph). c.deref.result.now ≡ map (view_of g).node (task_nodes (view_of g).case) in
    subst P c.self.view_is
    (c.deref.ensures.value ∙ c.self.invariant.sources ∙ sym
    (sources-named (graph_of c.self.inside) c.self.invariant.graph))
