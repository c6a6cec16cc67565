use Rattle.std.proofs.Common.{◌≡◌, ◌∙◌, Some, length, ap, sym, subst}
use Rattle.firm_net.specs.Net.{IsNode, Net, row_at}
use Rattle.firm_net.specs.declared.row.NodeId.{NodeId}
use Rattle.firm_graph.specs.declared.network.Node.TheVariants.{Hub}
use Rattle.firm_canon.specs.inner.State.{prefix, price, root, view}
use Rattle.firm_canon.specs.declared.choosing.Choosing.{Choosing}
use Rattle.firm_canon.proofs.Ways.{wide_from}
use Rattle.firm_canon.proofs.choosing.Choosing.root.Goals as goal

pub returns-then-at_hub-clause-place : goal.returns-then-at_hub-clause-place
returns-then-at_hub-clause-place c =
    let s : Choosing = c.args.self.now in
    ap (λ (n : NodeId). n.id.place) c.hub.ensures.value
    ∙ ap (root (view s) (length (prefix s))) (sym c.if-at_hub.true)

pub returns-then-at_hub-clause-there : goal.returns-then-at_hub-clause-there
returns-then-at_hub-clause-there c =
    subst (λ (n : NodeId). IsNode c.args.self.now.graph.now.net n) (sym c.hub.ensures.value)
    (c.requires.ready.keeps.shows.nodes Hub tt)

pub returns-clause-place : goal.returns-clause-place
returns-clause-place c =
    let s : Choosing = c.args.self.now in
    let there : row_at s.graph.now.net c.own_arc-wide.result ≡ Some c.in-Some.row =
    ap (λ (n : Net). row_at n c.own_arc-wide.result) (sym c.net.ensures.value)
    ∙ (sym c.arc.ensures.row ∙ c.in-Some.is) in
    ap (λ (n : NodeId). n.id.place) c.tail.ensures.value
    ∙ (wide_from (view s) (price s) (prefix s) c.requires.ready.keeps c.requires.next c.own_arc-wide.result
    c.in-Some.row c.own_arc-wide.ensures.value there ∙ ap (root (view s) (length (prefix s))) (sym c.if-at_hub.false))
