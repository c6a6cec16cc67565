use Rattle.std.proofs.Common.{ℕ, List, [], length, map, get_or, take, arith, ap, ◌∷◌, subst, length-append}
use Rattle.firm_net.specs.Edits.{IsEdit}
use Rattle.firm_net.specs.declared.row.NodeId.{NodeId}
use Rattle.firm_net.specs.declared.row.ArcId.{ArcId}
use Rattle.firm_graph.specs.Parts.{MachineParts}
use Rattle.firm_graph.specs.Graph.{preferred_spans}
use Rattle.std.proofs.lemmas.List.{get_or_default, length-map, length-take, take_all}
use Rattle.firm_graph.proofs.Near.{link-step, spans-counted, spans-few}
use Rattle.firm_graph.proofs.edits.link_preferred.Goals as goal

-- the node of the machine at a place
abbrev at_place : List MachineParts → NodeId → ℕ → NodeId
at_place machines other place = get_or (map (λ (p : MachineParts). p.node) machines) place other

pub link-arc-requires-clause-room : goal.link-arc-requires-clause-room
link-arc-requires-clause-room c =
    let heads : List NodeId = map (at_place c.args.machines.now c.args.node)
    (take c.loop-place.place-index c.args.places.now) in
    omega (
      arith,
      (c.loop-place.invariant.edit c.args.node).counted_arcs,
      (c.loop-place.invariant.edit c.args.node).arc_room,
      spans-counted c.args.node 0 heads c.loop-place.arcs,
    )

pub link-arc-requires-clause-stamps : goal.link-arc-requires-clause-stamps
link-arc-requires-clause-stamps c =
    let heads : List NodeId = map (at_place c.args.machines.now c.args.node)
    (take c.loop-place.place-index c.args.places.now) in
    omega (arith, (c.loop-place.invariant.edit c.args.node).added, spans-counted c.args.node 0 heads c.loop-place.arcs)

pub loop-place-preserved : goal.loop-place-preserved
loop-place-preserved c = record {
  edit = λ hub.
      let places : List ℕ = c.args.places.now in
      let place : ℕ = get_or places c.loop-place.place-index 0 in
      link-step c.args.net.now c.loop-place.net c.link-arc.new.net c.args.node (at_place c.args.machines.now hub)
      places c.loop-place.place-index place c.node_at.result c.loop-place.arcs c.add.new.self c.link-arc.result
      c.loop-place-test.true (get_or_default places c.loop-place.place-index 0 place c.loop-place-test.true)
      (c.node_at.ensures.node hub) c.loop-place.invariant.so_far c.add.ensures (c.loop-place.invariant.edit hub)
      c.link-arc.ensures.edit;
  so_far = omega (
    arith,
    ap (λ (l : List ArcId). length l) c.add.ensures,
    length-append c.loop-place.arcs (c.link-arc.result ∷ []),
  );
  node = c.link-arc.ensures.nodes c.args.node c.loop-place.invariant.node;
  nodes = λ n there. c.link-arc.ensures.nodes n (c.loop-place.invariant.nodes n there);
  heads = λ k d below.
      let was = c.loop-place.invariant.heads k d below in
      (c.link-arc.ensures.nodes _ was.0, was.1);
}

pub returns-clause-edit : goal.returns-clause-edit
returns-clause-edit c =
    λ hub.
    subst (λ (l : List ℕ). IsEdit c.args.net.now c.loop-place.net [] [] []
    (preferred_spans c.args.node 0 (map (at_place c.args.machines.now hub) l) c.loop-place.arcs))
    (take_all c.loop-place.place-index c.args.places.now c.loop-place-test.false) (c.loop-place.invariant.edit hub)

pub returns-clause-arcs : goal.returns-clause-arcs
returns-clause-arcs c =
    let taken : List ℕ = take c.loop-place.place-index c.args.places.now in
    omega (
      arith,
      (c.loop-place.invariant.edit c.args.node).counted_arcs,
      spans-few c.args.node 0 (map (at_place c.args.machines.now c.args.node) taken) c.loop-place.arcs,
      length-map taken (at_place c.args.machines.now c.args.node),
      length-take c.loop-place.place-index c.args.places.now,
    )

pub returns-clause-added : goal.returns-clause-added
returns-clause-added c =
    let taken : List ℕ = take c.loop-place.place-index c.args.places.now in
    omega (
      arith,
      (c.loop-place.invariant.edit c.args.node).added,
      spans-few c.args.node 0 (map (at_place c.args.machines.now c.args.node) taken) c.loop-place.arcs,
      length-map taken (at_place c.args.machines.now c.args.node),
      length-take c.loop-place.place-index c.args.places.now,
    )

pub returns-clause-arc_room : goal.returns-clause-arc_room
returns-clause-arc_room c = (c.loop-place.invariant.edit c.args.node).arc_room
