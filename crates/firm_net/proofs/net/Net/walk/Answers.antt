-- The walk that the links name is that of the list.
use Rattle.std.proofs.Common.{◌≡◌, ◌≤◌, List, length, sym, ap, ◌∙◌, subst}
use Rattle.firm_arena.specs.Arena.{capacity_of}
use Rattle.firm_net.specs.Row.{Row}
use Rattle.firm_net.specs.Net.{Net, IsNet, rows_of, arcs_on}
use Rattle.firm_net.specs.inner.Links.{walk_rows}
use Rattle.firm_net.specs.declared.row.ArcId.{ArcId}
use Rattle.firm_net.specs.declared.links.ArcList.{ArcList}
use Rattle.firm_net.proofs.Walks.{walk-is, walk-none, walk-short}
use Rattle.firm_net.proofs.net.Net.walk.Goals as goal

arcs : (c : goal.After-new-2)
    → c.new-2.result ≡ rows_of c.args.self.now (arcs_on c.args.side c.args.self.now c.args.node)
arcs c =
    c.new-2.ensures
    ∙ ap (λ (l : ArcList). walk_rows c.args.side c.self.inside.links l.count l.first) c.list.ensures
    ∙ walk-is c.args.side c.self.inside.links c.self.inside.nodes c.args.self.now c.args.node c.in-Some.lists
    c.self.invariant.shows c.self.view_is (sym c.get.ensures.value ∙ sym c.in-Some.ensures)

pub returns-clause-arcs : goal.returns-clause-arcs
returns-clause-arcs c = arcs c

pub returns-clause-count : goal.returns-clause-count
returns-clause-count c =
    subst (λ (l : List (ArcId × Row)). length l ≤ capacity_of c.args.self.now.arcs) (sym (arcs c))
    (walk-short c.args.side c.args.self.now c.args.node
    (subst (λ (o : Net). IsNet o) c.self.view_is c.self.invariant.net))

none : (c : goal.After-new-in_default)
    → c.new-in_default.result ≡ rows_of c.args.self.now (arcs_on c.args.side c.args.self.now c.args.node)
none c =
    c.new-in_default.ensures
    ∙ ap (λ (l : ArcList). walk_rows c.args.side c.self.inside.links l.count l.first) c.new.ensures
    ∙ walk-none c.args.side c.self.inside.links c.self.inside.nodes c.args.self.now c.args.node c.self.view_is
    (sym c.get.ensures.value ∙ sym c.in_default.ensures)

pub returns-in_default-clause-arcs : goal.returns-in_default-clause-arcs
returns-in_default-clause-arcs c = none c

pub returns-in_default-clause-count : goal.returns-in_default-clause-count
returns-in_default-clause-count c =
    subst (λ (l : List (ArcId × Row)). length l ≤ capacity_of c.args.self.now.arcs) (sym (none c))
    (walk-short c.args.side c.args.self.now c.args.node
    (subst (λ (o : Net). IsNet o) c.self.view_is c.self.invariant.net))
