use Rattle.std.proofs.lemmas.Grind.{common_steps}
use Rattle.std.proofs.Common.{◌≡◌, ◌+◌, ℕ, arith, ap, subst, sym, ◌∙◌, List, ◌++◌, ◌∷◌, [], refl}
use Rattle.firm_rules.specs.Limits.{TenantLimits}
use Rattle.firm_net.specs.Edits.{IsEdit}
use Rattle.firm_graph.specs.Graph.{Graph, Mirrors, slot_spans}
use Rattle.firm_graph.specs.inner.Inside.{graph_of}
use Rattle.firm_graph.specs.Parts.{MachineParts}
use Rattle.firm_graph.proofs.Found.{hub-there, sink-there, fresh-other}
use Rattle.firm_graph.proofs.Additions.{machine-added, machine_added, room-left}
use Rattle.firm_graph.proofs.Said.{said}
use Rattle.firm_graph.proofs.graph.Graph.add_machine.Goals as goal

pub put_node-node-requires-clause-room : goal.put_node-node-requires-clause-room
put_node-node-requires-clause-room c =
    omega (
      arith,
      (room-left (graph_of c.self.inside) c.args.self.now 1 (1 + c.get-count.result) c.self.view_is
          c.self.invariant.graph.mirrors c.in_ok-find_room.ensures.fits).0,
    )

pub link-through-requires-clause-tail : goal.link-through-requires-clause-tail
link-through-requires-clause-tail c =
    c.put_node-node.ensures.nodes c.self.inside.hub (hub-there (graph_of c.self.inside) c.self.invariant.graph.mirrors)

pub link-through-requires-clause-ends : goal.link-through-requires-clause-ends
link-through-requires-clause-ends c =
    λ e. fresh-other c.self.inside.net c.put_node-node.result c.self.inside.hub c.put_node-node.ensures.fresh
    (hub-there (graph_of c.self.inside) c.self.invariant.graph.mirrors) (sym e)

pub link-through-requires-clause-room : goal.link-through-requires-clause-room
link-through-requires-clause-room c =
    omega (
      arith,
      (room-left (graph_of c.self.inside) c.args.self.now 1 (1 + c.get-count.result) c.self.view_is
          c.self.invariant.graph.mirrors c.in_ok-find_room.ensures.fits).1,
    )

pub link_slots-requires-clause-sink : goal.link_slots-requires-clause-sink
link_slots-requires-clause-sink c =
    c.link-through.ensures.nodes c.self.inside.sink
    (c.put_node-node.ensures.nodes c.self.inside.sink
    (sink-there (graph_of c.self.inside) c.self.invariant.graph.mirrors))

pub link_slots-requires-clause-ends : goal.link_slots-requires-clause-ends
link_slots-requires-clause-ends c =
    fresh-other c.self.inside.net c.put_node-node.result c.self.inside.sink c.put_node-node.ensures.fresh
    (sink-there (graph_of c.self.inside) c.self.invariant.graph.mirrors)

pub link_slots-requires-clause-room : goal.link_slots-requires-clause-room
link_slots-requires-clause-room c =
    omega (
      arith,
      (room-left (graph_of c.self.inside) c.args.self.now 1 (1 + c.get-count.result) c.self.view_is
          c.self.invariant.graph.mirrors c.in_ok-find_room.ensures.fits).1,
    )

kept : (c : goal.After-self-1)
    → Mirrors (record (graph_of c.self.inside) {
      rows = c.grow_machines.new.rows;
      net = c.link_slots.new.net;
      machines = c.push_reserved.new.list.items;
      asked = c.self.inside.asked + 1;
    })
kept c =
    let g : Graph = graph_of c.self.inside in
    let parts : MachineParts = record {
      node = c.put_node-node.result;
      through = c.link-through.result;
      slots =
          c.link_slots.new.slots.items;
    } in
    let count : c.get-count.result ≡ c.args.slots = c.get-count.ensures.value in
    let spread : c.spread.result ≡ g.rows.limits.spread = c.spread.ensures.value ∙ ap
    (λ (l : TenantLimits). l.spread) c.limits-limits.ensures.limits in
    let P : ℕ → Type 0 = λ (cap : ℕ). IsEdit c.put_node-node.new.net c.link-through.new.net [] [] []
    (record { arc = parts.through; tail = g.hub; head = parts.node; cap = cap; cost = 0 } ∷ []) in
    let Q : ℕ → Type 0 = λ (s : ℕ). IsEdit c.link-through.new.net c.link_slots.new.net [] [] []
    (slot_spans parts.node g.sink s 0 parts.slots) in
    said (machine_added g c.link_slots.new.net parts c.args.name c.args.slots) c.grow_machines.new.rows
    c.push_reserved.new.list.items g.jobs g.tasks c.in-Ok.ensures.ok
    (c.push_reserved.ensures.items ∙ ap (λ (l : List MachineParts). l ++ parts ∷ []) c.grow_machines.ensures.parts)
    refl refl
    (machine-added g c.put_node-node.new.net c.link-through.new.net c.link_slots.new.net parts c.args.name c.args.slots
    c.self.invariant.graph.mirrors c.self.invariant.graph.sound
    c.put_node-node.ensures.edit (subst P count c.link-through.ensures.edit) (subst Q spread c.link_slots.ensures.edit)
    (c.link_slots.ensures.count ∙ count) (omega (arith, count, c.get-count.ensures.most))
    (omega (arith, c.requires.asked, ap (λ (h : Graph). h.asked) c.self.view_is)))

pub invariant_of-self-2 : goal.invariant_of-self-2
invariant_of-self-2 c =
    record {
      graph = record { sound = c.in-Ok.ensures.sound; mirrors = kept c };
      sources = c.self.invariant.sources;
    }

pub returns-clause-graph : goal.returns-clause-graph
returns-clause-graph c = record { sound = c.in-Ok.ensures.sound; mirrors = kept c }

pub returns-in_err-find_room-clause-nodes : goal.returns-in_err-find_room-clause-nodes
returns-in_err-find_room-clause-nodes c = grind (arith, common_steps)

pub returns-in_err-find_room-clause-arcs : goal.returns-in_err-find_room-clause-arcs
returns-in_err-find_room-clause-arcs c = grind (arith, common_steps)

pub grow_machines-requires-clause-fits : goal.grow_machines-requires-clause-fits
grow_machines-requires-clause-fits c = grind (arith, common_steps)

pub returns-in_default-clause-nodes : goal.returns-in_default-clause-nodes
returns-in_default-clause-nodes c = grind (arith, common_steps)

pub returns-in_default-clause-arcs : goal.returns-in_default-clause-arcs
returns-in_default-clause-arcs c = grind (arith, common_steps)
