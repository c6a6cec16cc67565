use Rattle.std.proofs.Common.{◌≡◌, ◌-◌, ◌<◌, Option, None, List, length, get_or, set, arith, ap, ◌∙◌}
use Rattle.std.specs.List.{remove}
use Rattle.std.proofs.lemmas.Slice.{put_mid-rotated}
use borrow.Rule.Slice.PartMut.{put_mid}
use Rattle.firm_net.specs.declared.row.ArcId.{ArcId}
use Rattle.firm_graph.specs.inner.Tables.{arcs_in, padded}
use Rattle.firm_graph.proofs.Fronts.{are-front, arcs-padded, front-length, front-removed, removed-counted}
use Rattle.firm_graph.proofs.preferred.PreferredArcs.remove.Goals as goal

below : (c : goal.After-self-1) → c.args.place < c.self.inside.len
below c = omega (arith, c.self.invariant.counted, c.requires, ap (λ (l : List ArcId). length l) c.self.view_is)

emptied : (c : goal.After-self-1)
    → set (put_mid c.args.place (4 - c.args.place) c.self.inside.arcs c.rotate_left.new.self) 3 None
    ≡ padded (remove (arcs_in c.self.inside.arcs) c.args.place)
emptied c =
    let full : length c.self.inside.arcs ≡ 4 = front-length c.self.inside.arcs c.self.inside.len c.self.invariant in
    let here = below c in
    ap (λ (t : List (Option ArcId)). set t 3 None)
    (put_mid-rotated c.args.place (4 - c.args.place) c.self.inside.arcs c.rotate_left.new.self None
    (omega (arith, here, full, c.self.invariant.counted, c.self.invariant.few)) (omega (arith, full))
    c.rotate_left.ensures.after)
    ∙ front-removed c.self.inside.arcs c.self.inside.len c.args.place
    (get_or c.self.inside.arcs c.args.place None) c.self.invariant here

pub invariant_of-self : goal.invariant_of-self
invariant_of-self c =
    are-front _ (remove (arcs_in c.self.inside.arcs) c.args.place) (c.self.inside.len - 1) (emptied c)
    (removed-counted c.self.inside.arcs c.self.inside.len c.args.place c.self.invariant (below c))
    (omega (arith, c.self.invariant.counted, c.self.invariant.few))

pub returns : goal.returns
returns c =
    arcs-padded _ (remove (arcs_in c.self.inside.arcs) c.args.place) (emptied c)
    ∙ ap (λ (l : List ArcId). remove l c.args.place) c.self.view_is
