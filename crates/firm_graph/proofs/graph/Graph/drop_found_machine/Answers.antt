use Rattle.std.proofs.Common.{◌≡◌, ◌<◌, ℕ, Some, length, map, get_or, bytes_eq, arith, refl, ap, subst, sym, ◌∙◌, List}
use Rattle.std.proofs.Common.{◌++◌}
use Rattle.std.specs.List.{position}
use Rattle.std.proofs.lemmas.List.{length-map}
use Rattle.firm_net.specs.Net.{Net}
use Rattle.firm_net.specs.Edits.{Span}
use Rattle.firm_net.specs.declared.row.NodeId.{NodeId}
use Rattle.firm_net.specs.declared.row.ArcId.{ArcId}
use Rattle.firm_rules.specs.Book.{machine_names, without_machine, evicted, running_on}
use Rattle.firm_rules.specs.declared.book.Machine.{Machine}
use Rattle.firm_graph.specs.Parts.{MachineParts}
use Rattle.firm_graph.specs.declared.ids.MachineIds.TheInside.{Inside}
use Rattle.firm_graph.specs.declared.ids.TaskParts.{TaskParts}
use Rattle.firm_graph.specs.Graph.{Graph, Mirrors, graph_nodes, graph_spans, slot_spans}
use Rattle.firm_graph.specs.inner.Steps.{Holds, refitted, forgetting_rows}
use Rattle.firm_graph.specs.inner.Inside.{graph_of}
use Rattle.firm_graph.proofs.Drops.{IsFree}
use Rattle.firm_graph.proofs.Firsts.{all-out, all-loose}
use Rattle.firm_graph.proofs.Machines.{machine-unlinked, machine-free, machine-dropped, machine_dropped, name-at}
use Rattle.firm_graph.proofs.Said.{said}
use Rattle.firm_graph.proofs.Names.{machine-rows, seen-at, seen-below, seen-name}
use Rattle.firm_graph.proofs.graph.Graph.drop_found_machine.Goals as goal
use Rattle.firm_graph.proofs.graph.Graph.drop_found_machine.Goals.{After-unlink_slots}

abbrev parts_of : Inside → MachineParts
parts_of i = record { node = i.node; through = i.through; slots = i.slots.items }

abbrev Left : Net → Net → List ArcId → Type 0
Left old new slots =
    (ns : List NodeId) (ss : List Span) (node sink : NodeId) (spread : ℕ) → Holds old old ns
    (slot_spans node sink spread 0 slots ++ ss) → Holds old new ns ss

-- the graph, no task of which runs on the machine or prefers it
abbrev vacated : Graph → List ℕ → Net → List TaskParts → Graph
vacated g name net tasks = refitted g (record g.rows { tasks = map (evicted name) g.rows.tasks }) net tasks

-- what the net holds once the machine was vacated and its arcs removed
record Emptied (g : Graph) (tasks : List TaskParts) (net after : Net) (place : ℕ) (name : List ℕ)
    (parts : MachineParts) : Type 0 where
  mirrors : Mirrors (vacated g name net tasks)
  below : place < length g.machines
  at : parts ≡ get_or g.machines place parts
  named : position (bytes_eq name) (machine_names g.rows) ≡ Some place
  held : Holds net after (graph_nodes (vacated g name net tasks))
      (graph_spans (machine_dropped (vacated g name net tasks) net place))
  free : IsFree after parts.node

emptied : (c : After-unlink_slots)
    → Emptied (graph_of c.self.inside) c.forget_machine.new.tasks.items c.evict_tasks.new.net c.unlink_slots.new.net
    c.args.place c.args.name (parts_of c.parts.inside)
emptied c =
    let g : Graph = graph_of c.self.inside in
    let name : List ℕ = c.args.name in
    let place : ℕ = c.args.place in
    let net : Net = c.evict_tasks.new.net in
    let tasks : List TaskParts = c.forget_machine.new.tasks.items in
    let parts : MachineParts = parts_of c.parts.inside in
    let now : Graph = vacated g name net tasks in
    let mirrors : Mirrors now = c.evict_tasks.ensures.evicted
    (refitted g (forgetting_rows g.rows name) c.forget_machine.new.net tasks)
    (c.forget_machine.ensures.forgotten g c.self.invariant.graph.mirrors refl refl refl) refl
    refl refl refl in
    let below : place < length g.machines = omega (
      arith,
      seen-below machine_names g c.args.self.now name place c.self.view_is c.requires.found,
      length-map g.rows.machines (λ (m : Machine). m.name),
      c.self.invariant.graph.mirrors.machines,
    ) in
    let at : parts ≡ get_or g.machines place parts = subst
    (λ (p : MachineParts). p ≡ get_or g.machines place p) (sym c.parts.view_is) c.remove-parts.ensures.value in
    let named = seen-at machine_names g c.args.self.now name place c.self.view_is c.requires.found in
    let out = all-out name g.rows.tasks in
    let loose = all-loose name g.rows.tasks in
    let held = machine-unlinked now net place name parts mirrors below at named out loose c.unlink.new.net
    c.unlink_slots.new.net c.unlink.ensures.edit
    (subst (Left c.unlink.new.net c.unlink_slots.new.net) c.deref.ensures.value c.unlink_slots.ensures.left) in
    record {
      mirrors = mirrors;
      below = below;
      at = at;
      named = named;
      held = held;
      free = machine-free now net place name parts mirrors below at named out loose c.unlink_slots.new.net held;
    }

pub drop_node-requires-clause-there : goal.drop_node-requires-clause-there
drop_node-requires-clause-there c = (emptied (goal.at.drop_node-requires-clause-there c).After-unlink_slots).free.there

pub drop_node-requires-clause-out : goal.drop_node-requires-clause-out
drop_node-requires-clause-out c = (emptied (goal.at.drop_node-requires-clause-out c).After-unlink_slots).free.out

pub drop_node-requires-clause-into : goal.drop_node-requires-clause-into
drop_node-requires-clause-into c = (emptied (goal.at.drop_node-requires-clause-into c).After-unlink_slots).free.into

kept : (c : goal.After-drop-parts-inside)
    → Emptied (graph_of c.self.inside) c.forget_machine.new.tasks.items c.evict_tasks.new.net c.unlink_slots.new.net
    c.args.place c.args.name (parts_of c.parts.inside)
    → Mirrors (record (graph_of c.self.inside) {
      rows = c.drain-evicted.new.self;
      net = c.drop_node.new.net;
      machines = c.remove-parts.new.self.items;
      tasks = c.forget_machine.new.tasks.items;
    })
kept c e =
    let g : Graph = graph_of c.self.inside in
    let name : List ℕ = c.args.name in
    let place : ℕ = c.args.place in
    let now : Graph = vacated g name c.evict_tasks.new.net c.forget_machine.new.tasks.items in
    let rows = c.drain-evicted.ensures.rows
    ∙ ap (without_machine g.rows) (name-at (machine_names g.rows) name place e.named).0 in
    said (machine_dropped now c.drop_node.new.net place) c.drain-evicted.new.self c.remove-parts.new.self.items now.jobs
    c.forget_machine.new.tasks.items
    (machine-rows c.drain-evicted.new.self g.rows name place rows c.drain-evicted.ensures.machines)
    c.remove-parts.ensures.items refl
    refl
    (machine-dropped now c.drop_node.new.net place name (parts_of c.parts.inside) e.mirrors e.below e.at e.named
    (all-out name g.rows.tasks) (all-loose name g.rows.tasks) c.unlink_slots.new.net e.held c.drop_node.ensures.edit)

pub invariant_of-self : goal.invariant_of-self
invariant_of-self c =
    record {
      graph = record {
        sound = c.drain-evicted.ensures.sound;
        mirrors = kept c (emptied (goal.at.invariant_of-self c).After-unlink_slots);
      };
      sources = c.self.invariant.sources ∙ sym c.forget_machine.ensures.nodes;
    }

pub returns-clause-graph : goal.returns-clause-graph
returns-clause-graph c = record {
  sound = c.drain-evicted.ensures.sound;
  mirrors = kept c (emptied (goal.at.returns-clause-graph c).After-unlink_slots);
}

pub drain-evicted-requires : goal.drain-evicted-requires
drain-evicted-requires c =
    omega (
      arith,
      seen-below machine_names (graph_of c.self.inside) c.args.self.now c.args.name c.args.place c.self.view_is
          c.requires.found,
      length-map c.self.inside.rows.machines (λ (m : Machine). m.name),
    )

pub returns-clause-rows : goal.returns-clause-rows
returns-clause-rows c =
    c.drain-evicted.ensures.rows
    ∙ seen-name machine_names (graph_of c.self.inside) c.args.self.now c.args.name c.args.place c.self.view_is
    c.requires.found without_machine

pub returns-clause-count : goal.returns-clause-count
returns-clause-count c =
    c.drain-evicted.ensures.evicted
    ∙ seen-name machine_names (graph_of c.self.inside) c.args.self.now c.args.name c.args.place c.self.view_is
    c.requires.found running_on
