use Rattle.std.proofs.Common.{◌<◌, ℕ, length, map, arith, ap, sym, ◌∙◌, List, refl}
use Rattle.std.specs.List.{remove}
use Rattle.std.proofs.lemmas.List.{length-map}
use Rattle.indexmap.proofs.SetLemmas.{map-remove}
use Rattle.firm_net.specs.Net.{Net}
use Rattle.firm_net.specs.declared.row.NodeId.{NodeId}
use Rattle.firm_rules.specs.Book.{task_names, without_task}
use Rattle.firm_rules.specs.declared.book.Task.{Task}
use Rattle.firm_graph.specs.Graph.{Graph, Mirrors, graph_nodes, graph_spans}
use Rattle.firm_graph.specs.inner.Inside.{graph_of}
use Rattle.firm_graph.specs.declared.ids.TaskParts.{TaskParts}
use Rattle.firm_graph.specs.inner.Steps.{Holds}
use Rattle.firm_graph.proofs.Drops.{IsFree, task-dropped, task_dropped, task-unlinked, task-free}
use Rattle.firm_graph.proofs.Said.{said}
use Rattle.firm_graph.proofs.Names.{task-rows, seen-below, seen-name}
use Rattle.firm_graph.proofs.graph.Graph.drop_found_task.Goals as goal
use Rattle.firm_graph.proofs.graph.Graph.drop_found_task.Goals.{After-unlink_preferred}

-- what the net holds once the arcs of a task were removed
record Emptied (g : Graph) (after : Net) (place : ℕ) (parts : TaskParts) : Type 0 where
  below : place < length g.tasks
  held : Holds g.net after (graph_nodes g) (graph_spans (task_dropped g g.net place))
  free : IsFree after parts.node

emptied : (c : After-unlink_preferred)
    → Emptied (graph_of c.self.inside) c.unlink_preferred.new.net c.args.place c.remove-parts.result
emptied c =
    let g : Graph = graph_of c.self.inside in
    let is : Mirrors g = c.self.invariant.graph.mirrors in
    let below : c.args.place < length g.tasks = omega (
      arith,
      seen-below task_names g c.args.self.now c.args.name c.args.place c.self.view_is c.requires.found,
      length-map g.rows.tasks (λ (t : Task). t.name),
      is.tasks,
    ) in
    let held = task-unlinked g c.unlink.new.net c.unlink-2.new.net c.unlink-3.new.net c.unlink_preferred.new.net
    c.args.place c.remove-parts.result is below c.remove-parts.ensures.value
    c.unlink.ensures.edit c.unlink-2.ensures.edit c.unlink-3.ensures.edit c.unlink_preferred.ensures.left in
    record {
      below = below;
      held = held;
      free = task-free g c.unlink_preferred.new.net c.args.place c.remove-parts.result below
          c.remove-parts.ensures.value held;
    }

pub drop_node-requires-clause-there : goal.drop_node-requires-clause-there
drop_node-requires-clause-there c =
    (emptied (goal.at.drop_node-requires-clause-there c).After-unlink_preferred).free.there

pub drop_node-requires-clause-out : goal.drop_node-requires-clause-out
drop_node-requires-clause-out c = (emptied (goal.at.drop_node-requires-clause-out c).After-unlink_preferred).free.out

pub drop_node-requires-clause-into : goal.drop_node-requires-clause-into
drop_node-requires-clause-into c = (emptied (goal.at.drop_node-requires-clause-into c).After-unlink_preferred).free.into

kept : (c : goal.After-drop_node)
    → Emptied (graph_of c.self.inside) c.unlink_preferred.new.net c.args.place c.remove-parts.result
    → Mirrors (record (graph_of c.self.inside) {
      rows = c.remove_task.new.self;
      net = c.drop_node.new.net;
      tasks = c.remove-parts.new.self.items;
    })
kept c e =
    let g : Graph = graph_of c.self.inside in
    said (task_dropped g c.drop_node.new.net c.args.place) c.remove_task.new.self g.machines g.jobs
    c.remove-parts.new.self.items
    (task-rows c.remove_task.new.self g.rows _ c.args.place c.remove_task.ensures.rows
    c.remove_task.ensures.tasks) refl refl c.remove-parts.ensures.items
    (task-dropped g c.unlink_preferred.new.net c.drop_node.new.net c.args.place c.remove-parts.result
    c.self.invariant.graph.mirrors e.below c.remove-parts.ensures.value e.held c.drop_node.ensures.edit)

pub invariant_of-self : goal.invariant_of-self
invariant_of-self c =
    let node : TaskParts → NodeId = λ (p : TaskParts). p.node in
    record {
      graph = record {
        sound = c.remove_task.ensures.sound;
        mirrors = kept c (emptied (goal.at.invariant_of-self c).After-unlink_preferred);
      };
      sources = c.remove.ensures.items
          ∙ ap (λ (l : List NodeId). remove l c.args.place) c.self.invariant.sources
          ∙ sym (map-remove node c.self.inside.tasks.items c.args.place)
          ∙ sym (ap (λ (l : List TaskParts). map node l) c.remove-parts.ensures.items);
    }

pub returns-clause-graph : goal.returns-clause-graph
returns-clause-graph c = record {
  sound = c.remove_task.ensures.sound;
  mirrors = kept c (emptied (goal.at.returns-clause-graph c).After-unlink_preferred);
}

pub remove_task-requires : goal.remove_task-requires
remove_task-requires c =
    omega (
      arith,
      seen-below task_names (graph_of c.self.inside) c.args.self.now c.args.name c.args.place c.self.view_is
          c.requires.found,
      length-map c.self.inside.rows.tasks (λ (t : Task). t.name),
    )

pub returns-clause-rows : goal.returns-clause-rows
returns-clause-rows c =
    c.remove_task.ensures.rows
    ∙ seen-name task_names (graph_of c.self.inside) c.args.self.now c.args.name c.args.place c.self.view_is
    c.requires.found without_task

pub remove-parts-requires : goal.remove-parts-requires
remove-parts-requires c =
    omega (
      arith,
      seen-below task_names (graph_of c.self.inside) c.args.self.now c.args.name c.args.place c.self.view_is
          c.requires.found,
      length-map c.self.inside.rows.tasks (λ (t : Task). t.name),
      c.self.invariant.graph.mirrors.tasks,
    )
