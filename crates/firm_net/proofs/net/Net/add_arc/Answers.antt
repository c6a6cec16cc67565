-- The parts show the net with the arc.
use Rattle.std.proofs.Common.{◌≡◌, ◌+◌, ◌<◌, ◌^◌, ◌∙◌, sym, ap, subst, arith, refl, inl, inr, Option, None, is_some}
use Rattle.std.specs.Prelude.{IsTrue}
use Rattle.std.proofs.lemmas.Bool.{false≢true, cases_lt}
use Rattle.firm_arena.specs.Arena.{Arena, find, len_of, capacity_of, changed_at, changed_all}
use Rattle.firm_net.specs.Net.{Net, with_arc, IsNet, IsNode, lists_at}
use Rattle.firm_net.specs.inner.Links.{list_of, with_arc_list, list_from, nodes_shown, cleared_link, Shows}
use Rattle.firm_net.specs.declared.row.NodeId.{NodeId}
use Rattle.firm_net.specs.declared.links.Link.{Link}
use Rattle.firm_net.specs.declared.links.Node.{Node}
use Rattle.firm_net.specs.declared.links.Side.TheVariants.{Out}
use Rattle.firm_net.proofs.Shown.{shown_net}
use Rattle.firm_net.proofs.Results.{AddsArc, adds_arc, first-fits, next-fits, if-some, node-found, node-missing}
use Rattle.firm_net.proofs.Results.{not-node, arcs-counted, arc-capacity, added-counted, same-nodes}
use Rattle.firm_net.proofs.net.Net.add_arc.Goals as goal

adds : (c : goal.After-self-2-1)
    → AddsArc c.link_at_front-2.new.links c.link_at_front-2.new.nodes c.args.self.now (record { id = c.in-Ok.id })
    c.args.row
adds c =
    adds_arc c.self.inside.links c.put.new.self c.link_at_front.new.links c.link_at_front-2.new.links
    c.self.inside.nodes c.link_at_front.new.nodes c.link_at_front-2.new.nodes c.args.self.now
    (record { id = c.in-Ok.id }) c.args.row c.new.result
    c.tail-tail.result c.head-head.result c.in-Some._from c.in-Some-copied._to
    c.self.invariant.net c.self.invariant.shows c.self.view_is c.tail-tail.ensures.row c.new.ensures
    c.tail-tail.ensures.value c.head-head.ensures.value
    c.in-Ok.ensures.place c.in-Ok.ensures.stamp (c.in-Ok.ensures.succeeds.0 refl).1 c.in-Ok.ensures.adds
    (sym c.get.ensures.value ∙ sym c.in-Some.ensures) (sym c.get-2.ensures.value ∙ sym c.in-Some-copied.ensures)
    c.link_at_front.ensures.nodes c.link_at_front.ensures.links c.link_at_front-2.ensures.nodes
    c.link_at_front-2.ensures.links

pub link_at_front-requires-clause-list : goal.link_at_front-requires-clause-list
link_at_front-requires-clause-list c =
    first-fits Out c.self.inside.links c.self.inside.nodes c.tail-tail.result c.self.invariant.net
    c.self.invariant.shows (ap (λ (o : Option Node). is_some o) (sym c.get.ensures.value ∙ sym c.in-Some.ensures))

pub link_at_front-requires-2-clause-list : goal.link_at_front-requires-2-clause-list
link_at_front-requires-2-clause-list c =
    next-fits c.self.inside.links c.self.inside.nodes c.link_at_front.new.nodes c.tail-tail.result.id.place
    (list_from c.in-Ok.id.place (list_of Out c.in-Some._from)) Out c.head-head.result c.self.invariant.net
    c.self.invariant.shows
    (if-some (find c.self.inside.nodes c.tail-tail.result.id)
    (λ owner. c.link_at_front.new.nodes
    ≡ changed_at c.self.inside.nodes c.tail-tail.result.id.place
    (with_arc_list Out (list_from c.in-Ok.id.place (list_of Out owner))))
    c.in-Some._from (sym c.get.ensures.value ∙ sym c.in-Some.ensures) c.link_at_front.ensures.nodes)
    (inl refl)
    (ap (λ (o : Option Node). is_some o) (sym c.get-2.ensures.value ∙ sym c.in-Some-copied.ensures))

pub invariant_of-self-2 : goal.invariant_of-self-2
invariant_of-self-2 c =
    let after : c.link_at_front-2.new.nodes.counter + c.link_at_front-2.new.links.counter
    ≡ c.args.self.now.nodes.counter + (c.args.self.now.arcs.counter + 1) =
    added-counted c.link_at_front-2.new.links c.link_at_front-2.new.nodes
    (with_arc c.args.self.now (record { id = c.in-Ok.id }) c.args.row) (adds c).is in
    let before : c.self.inside.nodes.counter + c.self.inside.links.counter
    ≡ c.args.self.now.nodes.counter + c.args.self.now.arcs.counter =
    added-counted c.self.inside.links c.self.inside.nodes c.args.self.now c.self.view_is in
    record {
      added = omega (arith, c.self.invariant.added, before, after);
      net = (adds c).net;
      shows = (adds c).shows;
      clear = λ e. absurd (false≢true e);
    }

pub returns-clause-adds : goal.returns-clause-adds
returns-clause-adds c = (adds c).is

pub returns-clause-row : goal.returns-clause-row
returns-clause-row c = (adds c).found

pub returns-clause-others : goal.returns-clause-others
returns-clause-others c = (adds c).others

pub returns-clause-counts : goal.returns-clause-counts
returns-clause-counts c = (adds c).counts

pub returns-clause-net : goal.returns-clause-net
returns-clause-net c = (adds c).net

tail-there : (c : goal.After-self-2-1) → IsNode c.args.self.now c.args.row.tail
tail-there c =
    subst (λ (n : NodeId). IsNode c.args.self.now n) c.tail-tail.ensures.value
    (node-found c.self.inside.links c.self.inside.nodes c.args.self.now c.tail-tail.result c.in-Some._from
    c.self.view_is (sym c.get.ensures.value ∙ sym c.in-Some.ensures))

head-there : (c : goal.After-self-2-1) → IsNode c.args.self.now c.args.row.head
head-there c =
    subst (λ (n : NodeId). IsNode c.args.self.now n) c.head-head.ensures.value
    (node-found c.self.inside.links c.self.inside.nodes c.args.self.now c.head-head.result c.in-Some-copied._to
    c.self.view_is (sym c.get-2.ensures.value ∙ sym c.in-Some-copied.ensures))

pub returns-clause-room : goal.returns-clause-room
returns-clause-room c =
    let room = c.in-Ok.ensures.succeeds.0 refl in (
      λ _. (
        tail-there c,
        head-there c,
        omega (
          arith,
          room.0,
          arcs-counted c.self.inside.links c.self.inside.nodes c.args.self.now c.self.view_is,
          arc-capacity c.self.inside.links c.self.inside.nodes c.args.self.now c.self.view_is,
        ),
      ),
      λ _. refl,
    )

pub returns-in_default-clause-gone : goal.returns-in_default-clause-gone
returns-in_default-clause-gone c =
    λ _. inl (subst (λ (n : NodeId). lists_at c.args.self.now n ≡ None) c.tail-tail.ensures.value
    (node-missing c.self.inside.links c.self.inside.nodes c.args.self.now c.tail-tail.result c.self.view_is
    (sym c.get.ensures.value ∙ sym c.in_default.ensures)))

pub returns-in_default-clause-room : goal.returns-in_default-clause-room
returns-in_default-clause-room c = (
  λ e. absurd (false≢true e),
  λ h. absurd (not-node c.args.self.now c.args.row.tail
      (subst (λ (n : NodeId). lists_at c.args.self.now n ≡ None) c.tail-tail.ensures.value
      (node-missing c.self.inside.links c.self.inside.nodes c.args.self.now c.tail-tail.result c.self.view_is
      (sym c.get.ensures.value ∙ sym c.in_default.ensures)))
      h.0),
)

pub returns-in_default-copied-clause-gone : goal.returns-in_default-copied-clause-gone
returns-in_default-copied-clause-gone c =
    λ _. inr (subst (λ (n : NodeId). lists_at c.args.self.now n ≡ None) c.head-head.ensures.value
    (node-missing c.self.inside.links c.self.inside.nodes c.args.self.now c.head-head.result c.self.view_is
    (sym c.get-2.ensures.value ∙ sym c.in_default-copied.ensures)))

pub returns-in_default-copied-clause-room : goal.returns-in_default-copied-clause-room
returns-in_default-copied-clause-room c = (
  λ e. absurd (false≢true e),
  λ h. absurd (not-node c.args.self.now c.args.row.head
      (subst (λ (n : NodeId). lists_at c.args.self.now n ≡ None) c.head-head.ensures.value
      (node-missing c.self.inside.links c.self.inside.nodes c.args.self.now c.head-head.result c.self.view_is
      (sym c.get-2.ensures.value ∙ sym c.in_default-copied.ensures)))
      h.1),
)

pub returns-in_default-put-clause-room : goal.returns-in_default-put-clause-room
returns-in_default-put-clause-room c = (
  λ e. absurd (false≢true e),
  λ h.
      c.in_default-put.ensures.succeeds.1 (
        omega (
          arith,
          h.2,
          arcs-counted c.self.inside.links c.self.inside.nodes c.args.self.now c.self.view_is,
          arc-capacity c.self.inside.links c.self.inside.nodes c.args.self.now c.self.view_is,
        ),
        omega (arith, c.requires, added-counted c.self.inside.links c.self.inside.nodes c.args.self.now c.self.view_is),
      ),
)

pub returns-in_default-put-clause-no_arc : goal.returns-in_default-put-clause-no_arc
returns-in_default-put-clause-no_arc c =
    let unworn : c.self.inside.links.counter + 1 < 2 ^ 64 =
    omega (arith, c.requires, added-counted c.self.inside.links c.self.inside.nodes c.args.self.now c.self.view_is) in
    let full : len_of c.self.inside.links ≡ capacity_of c.self.inside.links =
    elim (cases_lt (len_of c.self.inside.links) (capacity_of c.self.inside.links)) [
      | inl room ↦ absurd (false≢true (c.in_default-put.ensures.succeeds.1 (room, unworn)))
      | inr none ↦ omega (arith, none, c.in_default-put.ensures.map_before.fits)
    ] in
    λ _. (
      subst (λ (n : NodeId). IsNode c.args.self.now n) c.tail-tail.ensures.value
          (node-found c.self.inside.links c.self.inside.nodes c.args.self.now c.tail-tail.result c.in-Some._from
          c.self.view_is (sym c.get.ensures.value ∙ sym c.in-Some.ensures)),
      subst (λ (n : NodeId). IsNode c.args.self.now n) c.head-head.ensures.value
          (node-found c.self.inside.links c.self.inside.nodes c.args.self.now c.head-head.result c.in-Some-copied._to
          c.self.view_is (sym c.get-2.ensures.value ∙ sym c.in-Some-copied.ensures)),
      arcs-counted c.self.inside.links c.self.inside.nodes c.args.self.now c.self.view_is ∙ full
          ∙ sym (arc-capacity c.self.inside.links c.self.inside.nodes c.args.self.now c.self.view_is),
    )

kept-net : (c : goal.In_default-put) → IsNet (shown_net c.put.new.self c.self.inside.nodes)
kept-net c =
    subst (λ (l : Arena Link). IsNet (shown_net l c.self.inside.nodes)) (sym c.in_default-put.ensures.unchanged)
    c.self.invariant.net

pub invariant_of-self : goal.invariant_of-self
invariant_of-self c =
    record {
      added = c.self.invariant.added
          ∙ ap (λ (l : Arena Link). c.self.inside.nodes.counter + l.counter) (sym c.in_default-put.ensures.unchanged);
      net = kept-net c;
      shows =
          subst (λ (l : Arena Link). Shows l c.self.inside.nodes (nodes_shown l c.self.inside.nodes))
          (sym c.in_default-put.ensures.unchanged)
          c.self.invariant.shows;
      clear =
          subst (λ (l : Arena Link). IsTrue c.self.inside.clear → changed_all l cleared_link ≡ l)
          (sym c.in_default-put.ensures.unchanged)
          c.self.invariant.clear;
    }

pub returns-in_default-put-clause-net : goal.returns-in_default-put-clause-net
returns-in_default-put-clause-net c = kept-net c

pub returns-clause-nodes : goal.returns-clause-nodes
returns-clause-nodes c = (adds c).same_nodes

pub returns-clause-edit : goal.returns-clause-edit
returns-clause-edit c = (adds c).edit

pub returns-in_default-clause-adds : goal.returns-in_default-clause-adds
returns-in_default-clause-adds c = tt

pub returns-in_default-clause-counts : goal.returns-in_default-clause-counts
returns-in_default-clause-counts c = tt

pub returns-in_default-clause-edit : goal.returns-in_default-clause-edit
returns-in_default-clause-edit c = tt

pub returns-in_default-clause-row : goal.returns-in_default-clause-row
returns-in_default-clause-row c = tt

pub returns-in_default-clause-others : goal.returns-in_default-clause-others
returns-in_default-clause-others c = tt

pub returns-in_default-clause-place : goal.returns-in_default-clause-place
returns-in_default-clause-place c = tt

pub returns-in_default-clause-stamp : goal.returns-in_default-clause-stamp
returns-in_default-clause-stamp c = tt

pub returns-in_default-clause-no_arc : goal.returns-in_default-clause-no_arc
returns-in_default-clause-no_arc c = λ e. let wrong : ⊥ = cc in absurd wrong

pub returns-in_default-clause-nodes : goal.returns-in_default-clause-nodes
returns-in_default-clause-nodes c = λ n. (λ h. h, λ h. h)

pub returns-in_default-clause-unchanged : goal.returns-in_default-clause-unchanged
returns-in_default-clause-unchanged c = refl

pub returns-in_default-clause-net : goal.returns-in_default-clause-net
returns-in_default-clause-net c = subst IsNet c.self.view_is c.self.invariant.net

pub returns-in_default-clause-net_before : goal.returns-in_default-clause-net_before
returns-in_default-clause-net_before c = subst IsNet c.self.view_is c.self.invariant.net

pub returns-in_default-copied-clause-adds : goal.returns-in_default-copied-clause-adds
returns-in_default-copied-clause-adds c = tt

pub returns-in_default-copied-clause-counts : goal.returns-in_default-copied-clause-counts
returns-in_default-copied-clause-counts c = tt

pub returns-in_default-copied-clause-edit : goal.returns-in_default-copied-clause-edit
returns-in_default-copied-clause-edit c = tt

pub returns-in_default-copied-clause-row : goal.returns-in_default-copied-clause-row
returns-in_default-copied-clause-row c = tt

pub returns-in_default-copied-clause-others : goal.returns-in_default-copied-clause-others
returns-in_default-copied-clause-others c = tt

pub returns-in_default-copied-clause-place : goal.returns-in_default-copied-clause-place
returns-in_default-copied-clause-place c = tt

pub returns-in_default-copied-clause-stamp : goal.returns-in_default-copied-clause-stamp
returns-in_default-copied-clause-stamp c = tt

pub returns-in_default-copied-clause-no_arc : goal.returns-in_default-copied-clause-no_arc
returns-in_default-copied-clause-no_arc c = λ e. let wrong : ⊥ = cc in absurd wrong

pub returns-in_default-copied-clause-nodes : goal.returns-in_default-copied-clause-nodes
returns-in_default-copied-clause-nodes c = λ n. (λ h. h, λ h. h)

pub returns-in_default-copied-clause-unchanged : goal.returns-in_default-copied-clause-unchanged
returns-in_default-copied-clause-unchanged c = refl

pub returns-in_default-copied-clause-net : goal.returns-in_default-copied-clause-net
returns-in_default-copied-clause-net c = subst IsNet c.self.view_is c.self.invariant.net

pub returns-in_default-copied-clause-net_before : goal.returns-in_default-copied-clause-net_before
returns-in_default-copied-clause-net_before c = subst IsNet c.self.view_is c.self.invariant.net

pub returns-in_default-put-clause-adds : goal.returns-in_default-put-clause-adds
returns-in_default-put-clause-adds c = tt

pub returns-in_default-put-clause-counts : goal.returns-in_default-put-clause-counts
returns-in_default-put-clause-counts c = tt

pub returns-in_default-put-clause-edit : goal.returns-in_default-put-clause-edit
returns-in_default-put-clause-edit c = tt

pub returns-in_default-put-clause-row : goal.returns-in_default-put-clause-row
returns-in_default-put-clause-row c = tt

pub returns-in_default-put-clause-others : goal.returns-in_default-put-clause-others
returns-in_default-put-clause-others c = tt

pub returns-in_default-put-clause-place : goal.returns-in_default-put-clause-place
returns-in_default-put-clause-place c = tt

pub returns-in_default-put-clause-stamp : goal.returns-in_default-put-clause-stamp
returns-in_default-put-clause-stamp c = tt

pub returns-in_default-put-clause-gone : goal.returns-in_default-put-clause-gone
returns-in_default-put-clause-gone c = λ e. let wrong : ⊥ = cc in absurd wrong

pub returns-in_default-put-clause-unchanged : goal.returns-in_default-put-clause-unchanged
returns-in_default-put-clause-unchanged c =
    ap (λ (l : Arena Link). shown_net l c.self.inside.nodes) c.in_default-put.ensures.unchanged ∙ c.self.view_is

pub returns-in_default-put-clause-nodes : goal.returns-in_default-put-clause-nodes
returns-in_default-put-clause-nodes c =
    same-nodes _ _
    (ap (λ (l : Arena Link). shown_net l c.self.inside.nodes) c.in_default-put.ensures.unchanged ∙ c.self.view_is)

pub returns-in_default-put-clause-net_before : goal.returns-in_default-put-clause-net_before
returns-in_default-put-clause-net_before c = subst IsNet c.self.view_is c.self.invariant.net

pub returns-clause-unchanged : goal.returns-clause-unchanged
returns-clause-unchanged c = tt

pub returns-clause-net_before : goal.returns-clause-net_before
returns-clause-net_before c = subst IsNet c.self.view_is c.self.invariant.net

pub returns-clause-gone : goal.returns-clause-gone
returns-clause-gone c = λ e. let wrong : ⊥ = cc in absurd wrong

pub returns-clause-no_arc : goal.returns-clause-no_arc
returns-clause-no_arc c = λ e. let wrong : ⊥ = cc in absurd wrong

pub overflow_add-self : goal.overflow_add-self
overflow_add-self c =
    omega (
      arith,
      c.requires,
      c.self.invariant.added,
      added-counted c.self.inside.links c.self.inside.nodes c.args.self.now c.self.view_is,
    )

pub returns-clause-stamp : goal.returns-clause-stamp
returns-clause-stamp c = c.in-Ok.ensures.stamp ∙ ap (λ (n : Net). n.arcs.counter) c.self.view_is

pub link_at_front-requires-clause-place : goal.link_at_front-requires-clause-place
link_at_front-requires-clause-place c =
    omega (
      arith,
      c.in-Ok.ensures.place.within,
      arc-capacity c.self.inside.links c.self.inside.nodes _ refl,
      c.self.invariant.net.arc_limit,
    )

pub link_at_front-requires-2-clause-place : goal.link_at_front-requires-2-clause-place
link_at_front-requires-2-clause-place c =
    omega (
      arith,
      c.in-Ok.ensures.place.within,
      arc-capacity c.self.inside.links c.self.inside.nodes _ refl,
      c.self.invariant.net.arc_limit,
    )
