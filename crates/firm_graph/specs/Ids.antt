-- How a graph's ids name the network of its rows.
use Rattle.std.specs.Prelude.{[], slice_index_or}
use Rattle.firm_net.specs.declared.row.NodeId.{NodeId}
use Rattle.firm_net.specs.declared.row.ArcId.{ArcId}
use Rattle.firm_rules.specs.Round.{case_of}
use Rattle.firm_graph.specs.Parts.{MachineParts}
use Rattle.firm_graph.specs.declared.ids.TaskArcs.{TaskArcs}
use Rattle.firm_graph.specs.declared.network.Node.{Node}
use Rattle.firm_graph.specs.declared.network.Node.TheVariants.{Sink, Hub, Machine, Owner, Task}
use Rattle.firm_graph.specs.declared.network.Key.{Key}
use Rattle.firm_graph.specs.declared.network.Key.TheVariants.{Through, Slot, Exit, Wide, Stay, Wait, Prefer}
use Rattle.firm_graph.specs.View.{View, Shows}
use Rattle.firm_graph.specs.Graph.{Graph, IsGraph, machine_nodes, job_nodes, task_nodes}

-- the node of the net for a node of the network
abbrev pub node_id : Graph → Node → NodeId
node_id g Sink = g.sink
node_id g Hub = g.hub
node_id g (Machine j) = slice_index_or (machine_nodes g) j g.hub
node_id g (Owner k) = slice_index_or (job_nodes g) k g.hub
node_id g (Task i) = slice_index_or (task_nodes g) i g.hub

-- what stands for a place where nothing is
abbrev pub no_arc : ArcId
no_arc = record { id = record { place = 0; stamp = 0 } }

abbrev pub no_machine : Graph → MachineParts
no_machine g = record { node = g.hub; through = no_arc; slots = [] }

abbrev pub no_arcs : TaskArcs
no_arcs = record { wide = no_arc; stay = no_arc; wait = no_arc; preferred = [] }

-- the arc of the net for an arc of the network
abbrev pub arc_id : Graph → Key → ArcId
arc_id g (Through j) = (slice_index_or g.machines j (no_machine g)).through
arc_id g (Slot j k) = slice_index_or (slice_index_or g.machines j (no_machine g)).slots k no_arc
arc_id g (Exit k) = (slice_index_or g.jobs k (record { node = g.hub; exit = no_arc })).exit
arc_id g (Wide i) = (slice_index_or g.tasks i (record { node = g.hub; arcs = no_arcs })).arcs.wide
arc_id g (Stay i) = (slice_index_or g.tasks i (record { node = g.hub; arcs = no_arcs })).arcs.stay
arc_id g (Wait i) = (slice_index_or g.tasks i (record { node = g.hub; arcs = no_arcs })).arcs.wait
arc_id g (Prefer i k) =
    slice_index_or (slice_index_or g.tasks i (record { node = g.hub; arcs = no_arcs })).arcs.preferred k no_arc

-- what the net of a graph shows: the network of the case of its rows, under the graph's ids
abbrev pub view_of : Graph → View
view_of g = record { case = case_of g.rows; net = g.net; node = node_id g; arc = arc_id g }

abbrev pub EveryGraphShows : Type 0
EveryGraphShows = (g : Graph) → IsGraph g → Shows (view_of g)
