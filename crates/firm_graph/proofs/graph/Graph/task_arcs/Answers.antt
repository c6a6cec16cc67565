use Rattle.std.proofs.Common.{◌≡◌, ◌<◌, length, sym, subst}
use Rattle.firm_graph.specs.Graph.{Graph}
use Rattle.firm_graph.specs.Ids.{view_of}
use Rattle.firm_graph.specs.inner.Inside.{graph_of}
use Rattle.firm_graph.specs.Network.{demand}
use Rattle.firm_graph.proofs.Shown.{preferences-counted}
use Rattle.firm_graph.proofs.graph.Graph.task_arcs.Goals as goal

pub returns-clause-preferences : goal.returns-clause-preferences
returns-clause-preferences c =
    let P : Graph → Type 0 = λ (g : Graph). length c.at.result.now.arcs.preferred
    ≡ length (demand (view_of g).case c.args.place).preferred in
    let Q : Graph → Type 0 = λ (g : Graph). c.args.place < length g.rows.tasks in
    subst P c.self.view_is
    (preferences-counted (graph_of c.self.inside) c.args.place c.at.result.now c.self.invariant.graph.mirrors
    (subst Q (sym c.self.view_is) c.requires) c.at.ensures)
