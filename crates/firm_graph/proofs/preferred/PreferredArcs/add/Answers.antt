use Rattle.std.proofs.Common.{◌+◌, ◌<◌, ◌++◌, ◌∷◌, [], List, length, arith, ap, ◌∙◌}
use Rattle.firm_net.specs.declared.row.ArcId.{ArcId}
use Rattle.firm_graph.specs.inner.Tables.{arcs_in}
use Rattle.firm_graph.proofs.Fronts.{are-front, arcs-padded, front-added, added-counted}
use Rattle.firm_graph.proofs.preferred.PreferredArcs.add.Goals as goal

room : (c : goal.After-self-1) → c.self.inside.len < 4
room c = omega (arith, c.self.invariant.counted, c.requires, ap (λ (l : List ArcId). length l) c.self.view_is)

pub invariant_of-self : goal.invariant_of-self
invariant_of-self c =
    are-front _ (arcs_in c.self.inside.arcs ++ c.args.arc ∷ []) (c.self.inside.len + 1)
    (front-added c.self.inside.arcs c.self.inside.len c.args.arc c.self.invariant (room c))
    (added-counted c.self.inside.arcs c.self.inside.len c.args.arc c.self.invariant)
    (omega (arith, room c))

pub returns : goal.returns
returns c =
    arcs-padded _ (arcs_in c.self.inside.arcs ++ c.args.arc ∷ [])
    (front-added c.self.inside.arcs c.self.inside.len c.args.arc c.self.invariant (room c))
    ∙ ap (λ (l : List ArcId). l ++ c.args.arc ∷ []) c.self.view_is
