use Rattle.std.proofs.lemmas.Grind.{common_steps}
use Rattle.std.proofs.Common.{◌≡◌, ◌≢◌, ◌<◌, ◌≤◌, ◌+◌, ℕ, cond, ltb, map, length, get_or, arith, ap, ap₂, sym, ◌∙◌}
use Rattle.std.proofs.Common.{List, ◌++◌, ◌∷◌, [], Some, bytes_eq, is_some, refl, subst}
use Rattle.std.specs.List.{All, position, slice_get}
use Rattle.std.proofs.lemmas.Bool.{both_ways}
use Rattle.std.proofs.lemmas.Option.{slice_get-get_or}
use Rattle.std.proofs.lemmas.List.{length-map, map-append}
use Rattle.firm_net.specs.declared.row.NodeId.{NodeId}
use Rattle.firm_net.specs.declared.row.ArcId.{ArcId}
use Rattle.firm_arena.specs.Arena.{capacity_of}
use Rattle.firm_net.specs.Net.{IsNode, arc_count}
use Rattle.firm_net.specs.Edits.{IsEdit}
use Rattle.firm_rules.specs.Book.{TenantRows, machine_names, job_names}
use Rattle.firm_rules.specs.Round.{IsFound, place_of}
use Rattle.firm_rules.specs.declared.book.NewTask.{NewTask}
use Rattle.firm_rules.specs.declared.book.Job.{Job}
use Rattle.firm_rules.specs.Limits.{TenantLimits}
use Rattle.firm_graph.specs.Parts.{MachineParts}
use Rattle.firm_graph.specs.Graph.{Graph, Mirrors, machine_nodes, preferred_spans}
use Rattle.firm_graph.specs.inner.Inside.{graph_of}
use Rattle.firm_graph.specs.declared.ids.TaskParts.{TaskParts}
use Rattle.firm_graph.specs.declared.ids.JobParts.{JobParts}
use Rattle.firm_graph.proofs.Found.{hub-there, machines-there, fresh-other}
use Rattle.firm_graph.proofs.Additions.{task-added, task_added, nodes_under, room-left, owner-read, weight-read}
use Rattle.firm_graph.proofs.Additions.{job-read}
use Rattle.firm_graph.proofs.Lookups.{nodes_under-at, position-is}
use Rattle.firm_graph.proofs.Totals.{machines-paired}
use Rattle.firm_graph.proofs.Said.{said}
use Rattle.firm_graph.proofs.graph.Graph.add_new_task.Goals as goal
use Rattle.firm_graph.proofs.graph.Graph.add_new_task.Goals.{After-as_slice-places, After-index}

-- the owner's place in the graph's own rows
owner-at : (g seen : Graph) (task : NewTask) → g ≡ seen → IsFound seen.rows task
    → position (bytes_eq task.job) (job_names g.rows) ≡ Some task.owner
owner-at g seen task view found =
    ap (λ (h : Graph). position (bytes_eq task.job) (job_names h.rows)) view ∙ found.owner

owner-below : (g seen : Graph) (task : NewTask) → g ≡ seen → IsFound seen.rows task → task.owner < length g.rows.jobs
owner-below g seen task view found =
    omega (
      arith,
      (position-is (bytes_eq task.job) (job_names g.rows) task.owner (owner-at g seen task view found)).1,
      length-map g.rows.jobs (λ (j : Job). j.name),
    )

-- as many places as preferences
places-counted : (rows : TenantRows) (task : NewTask) (places : List ℕ) → IsFound rows task
    → places ≡ task.machines.items → length places ≡ length task.preferred
places-counted rows task places found same =
    ap length same ∙ ap length found.machines ∙ length-map task.preferred (place_of rows)

-- the nodes at the places are those of the preferred machines
nodes-read : (g seen : Graph) (task : NewTask) → g ≡ seen → Mirrors g → IsFound seen.rows task
    → map (λ place. get_or (machine_nodes g) place g.hub) task.machines.items ≡ nodes_under g task.preferred
nodes-read g seen task view is found =
    ap (map (λ place. get_or (machine_nodes g) place g.hub))
    (found.machines ∙ ap (λ (h : Graph). map (place_of h.rows) task.preferred) (sym view))
    ∙ nodes_under-at (machine_names g.rows) (machine_nodes g) g.hub task.preferred (machines-paired g is.machines)

-- the net has room for the task's arcs
fits : (c : After-as_slice-places)
    → arc_count c.self.inside.net + (3 + length c.as_slice-places.result.now) ≤ capacity_of c.self.inside.net.arcs
fits c =
    omega (
      arith,
      (room-left (graph_of c.self.inside) c.args.self.now 1 (3 + c.len-count.result) c.self.view_is
          c.self.invariant.graph.mirrors
          c.in_ok-find_room.ensures.fits).1,
      places-counted c.args.self.now.rows c.args.task.now c.as_slice-places.result.now c.requires.found
          c.as_slice-places.ensures.value,
      c.len-count.ensures.value,
    )

owner-there : (c : After-index) → IsNode c.self.inside.net c.index.result.now.node
owner-there c =
    job-read (graph_of c.self.inside) c.args.task.now.owner c.index.result.now c.self.invariant.graph.mirrors
    c.args.task.now.job
    (owner-at (graph_of c.self.inside) c.args.self.now c.args.task.now c.self.view_is c.requires.found) c.index.ensures

pub put_node-node-requires-clause-room : goal.put_node-node-requires-clause-room
put_node-node-requires-clause-room c =
    omega (
      arith,
      (room-left (graph_of c.self.inside) c.args.self.now 1 (3 + c.len-count.result) c.self.view_is
          c.self.invariant.graph.mirrors
          c.in_ok-find_room.ensures.fits).0,
    )

pub link_preferred-preferred-requires-clause-heads : goal.link_preferred-preferred-requires-clause-heads
link_preferred-preferred-requires-clause-heads c =
    let g : Graph = graph_of c.self.inside in
    let P : List MachineParts → Type 0 = λ (ms : List MachineParts). All
    (λ head. IsNode c.put_node-node.new.net head × (c.put_node-node.result ≢ head))
    (map (λ (p : MachineParts). p.node) ms) in
    subst P (sym c.deref.ensures.value)
    (λ k d below.
    let head : NodeId = get_or (machine_nodes g) k d in
    let there : IsNode g.net head = machines-there g c.self.invariant.graph.mirrors k d below in (
      c.put_node-node.ensures.nodes head there,
      fresh-other c.self.inside.net c.put_node-node.result head c.put_node-node.ensures.fresh there,
    ))

pub link_preferred-preferred-requires-clause-room : goal.link_preferred-preferred-requires-clause-room
link_preferred-preferred-requires-clause-room c =
    omega (arith, fits (goal.at.link_preferred-preferred-requires-clause-room c).After-as_slice-places)

pub link-wait-requires-clause-head : goal.link-wait-requires-clause-head
link-wait-requires-clause-head c =
    c.link_preferred-preferred.ensures.nodes c.index.result.now.node
    (c.put_node-node.ensures.nodes c.index.result.now.node
    (owner-there (goal.at.link-wait-requires-clause-head c).After-index))

pub link-wait-requires-clause-ends : goal.link-wait-requires-clause-ends
link-wait-requires-clause-ends c =
    fresh-other c.self.inside.net c.put_node-node.result c.index.result.now.node c.put_node-node.ensures.fresh
    (owner-there (goal.at.link-wait-requires-clause-ends c).After-index)

pub link-wait-requires-clause-room : goal.link-wait-requires-clause-room
link-wait-requires-clause-room c = omega (arith, fits (goal.at.link-wait-requires-clause-room c).After-as_slice-places)

pub link-stay-requires-clause-head : goal.link-stay-requires-clause-head
link-stay-requires-clause-head c =
    c.link-wait.ensures.nodes c.self.inside.hub
    (c.link_preferred-preferred.ensures.nodes c.self.inside.hub
    (c.put_node-node.ensures.nodes c.self.inside.hub
    (hub-there (graph_of c.self.inside) c.self.invariant.graph.mirrors)))

pub link-stay-requires-clause-ends : goal.link-stay-requires-clause-ends
link-stay-requires-clause-ends c =
    fresh-other c.self.inside.net c.put_node-node.result c.self.inside.hub c.put_node-node.ensures.fresh
    (hub-there (graph_of c.self.inside) c.self.invariant.graph.mirrors)

pub link-stay-requires-clause-room : goal.link-stay-requires-clause-room
link-stay-requires-clause-room c = omega (arith, fits (goal.at.link-stay-requires-clause-room c).After-as_slice-places)

pub link-wide-requires-clause-head : goal.link-wide-requires-clause-head
link-wide-requires-clause-head c =
    c.link-stay.ensures.nodes c.self.inside.hub
    (c.link-wait.ensures.nodes c.self.inside.hub
    (c.link_preferred-preferred.ensures.nodes c.self.inside.hub
    (c.put_node-node.ensures.nodes c.self.inside.hub
    (hub-there (graph_of c.self.inside) c.self.invariant.graph.mirrors))))

pub link-wide-requires-clause-ends : goal.link-wide-requires-clause-ends
link-wide-requires-clause-ends c =
    fresh-other c.self.inside.net c.put_node-node.result c.self.inside.hub c.put_node-node.ensures.fresh
    (hub-there (graph_of c.self.inside) c.self.invariant.graph.mirrors)

pub link-wide-requires-clause-room : goal.link-wide-requires-clause-room
link-wide-requires-clause-room c = omega (arith, fits (goal.at.link-wide-requires-clause-room c).After-as_slice-places)

abbrev its_parts : goal.After-self-1 → TaskParts
its_parts c = record {
  node = c.put_node-node.result;
  arcs = record {
    wide = c.link-wide.result;
    stay = c.link-stay.result;
    wait = c.link-wait.result;
    preferred = c.link_preferred-preferred.result;
  };
}

kept : (c : goal.After-self-1)
    → Mirrors (record (graph_of c.self.inside) {
      rows = c.grow_tasks.new.rows;
      net = c.link-wide.new.net;
      tasks = c.push_task.new.tasks.items;
      asked = c.self.inside.asked + 1;
    })
kept c =
    let g : Graph = graph_of c.self.inside in
    let task : NewTask = c.args.task.now in
    let ids : List ArcId = c.link_preferred-preferred.result in
    let parts : TaskParts = its_parts c in
    let E : List NodeId → Type 0 = λ (heads : List NodeId). IsEdit c.put_node-node.new.net
    c.link_preferred-preferred.new.net [] [] [] (preferred_spans parts.node 0 heads ids) in
    let near : E (nodes_under g task.preferred) =
    subst E
    (ap₂ (λ (ms : List MachineParts) (places : List ℕ). map (λ place. get_or (map (λ (p : MachineParts). p.node) ms)
    place g.hub) places) c.deref.ensures.value c.as_slice-places.ensures.value
    ∙ nodes-read g c.args.self.now task c.self.view_is c.self.invariant.graph.mirrors c.requires.found)
    (c.link_preferred-preferred.ensures.edit g.hub) in
    let owner = owner-at g c.args.self.now task c.self.view_is c.requires.found in
    said (task_added g c.link-wide.new.net parts task.job task.name task.preferred)
    c.grow_tasks.new.rows g.machines g.jobs c.push_task.new.tasks.items c.in-Ok.ensures.ok refl refl
    (c.push_task.ensures.items ∙ ap (λ (l : List TaskParts). l ++ parts ∷ []) c.grow_tasks.ensures.parts)
    (task-added g c.put_node-node.new.net c.link_preferred-preferred.new.net c.link-wait.new.net c.link-stay.new.net
    c.link-wide.new.net parts task.job task.name task.preferred
    c.index.result.now.node c.away_cost.result c.get.result c.self.invariant.graph.mirrors
    c.put_node-node.ensures.edit near c.link-wait.ensures.edit c.link-stay.ensures.edit c.link-wide.ensures.edit
    (ap (λ (p : JobParts). p.node) c.index.ensures ∙ owner-read g task.job task.owner
    owner c.self.invariant.graph.mirrors.jobs c.index.result.now)
    (c.get.ensures.value ∙ weight-read g.rows task.job task.owner c.in-Some.row owner c.in-Some.ensures)
    (c.away_cost.ensures.value ∙ ap₂ (λ (n : ℕ) (l : TenantLimits). cond (ltb 0 n) l.remote 0) c.len-count.ensures.value
    c.limits-limits.ensures.limits)
    (c.link_preferred-preferred.ensures.count ∙ places-counted c.args.self.now.rows task c.as_slice-places.result.now
    c.requires.found c.as_slice-places.ensures.value)
    (omega (arith, c.len-count.ensures.value, c.len-count.ensures.most))
    (omega (arith, c.requires.asked, ap (λ (h : Graph). h.asked) c.self.view_is)))

pub invariant_of-self-2 : goal.invariant_of-self-2
invariant_of-self-2 c =
    let node : TaskParts → NodeId = λ (p : TaskParts). p.node in
    let parts : TaskParts = its_parts c in
    record {
      graph = record { sound = c.in-Ok.ensures.sound; mirrors = kept c };
      sources = c.push_reserved.ensures.items
          ∙ ap (λ (l : List NodeId). l ++ c.put_node-node.result ∷ [])
          (c.grow_tasks.ensures.sources ∙ c.self.invariant.sources)
          ∙ sym (map-append node c.self.inside.tasks.items (parts ∷ []))
          ∙ sym (ap (λ (l : List TaskParts). map node l)
          (c.push_task.ensures.items ∙ ap (λ (l : List TaskParts). l ++ parts ∷ []) c.grow_tasks.ensures.parts));
    }

pub returns-clause-graph : goal.returns-clause-graph
returns-clause-graph c = record { sound = c.in-Ok.ensures.sound; mirrors = kept c }

pub link_preferred-preferred-requires-clause-there : goal.link_preferred-preferred-requires-clause-there
link_preferred-preferred-requires-clause-there c =
    let count : ℕ = length c.deref.result.now in
    let same : length c.args.self.now.rows.machines ≡ count = omega (
      arith,
      ap (λ (h : Graph). length h.rows.machines) c.self.view_is,
      ap length c.deref.ensures.value,
      c.self.invariant.graph.mirrors.machines,
    ) in
    subst (λ (places : List ℕ). All (λ place. place < count) places) (sym c.as_slice-places.ensures.value)
    (subst (λ (n : ℕ). All (λ place. place < n) c.args.task.now.machines.items) same c.requires.found.below)

pub unreachable-requires : goal.unreachable-requires
unreachable-requires c =
    let g : Graph = graph_of c.self.inside in
    let nobody : Job = record { name = []; weight = 0 } in
    both_ways (is_some (slice_get g.rows.jobs c.args.task.now.owner)) (sym (ap is_some c.in_default.ensures))
    (ap is_some (slice_get-get_or g.rows.jobs c.args.task.now.owner nobody
    (owner-below g c.args.self.now c.args.task.now c.self.view_is c.requires.found)))

pub index-requires : goal.index-requires
index-requires c =
    omega (
      arith,
      owner-below (graph_of c.self.inside) c.args.self.now c.args.task.now c.self.view_is c.requires.found,
      c.self.invariant.graph.mirrors.jobs,
      c.self.inside.jobs.ok.0,
    )

pub returns-in_err-find_room-clause-nodes : goal.returns-in_err-find_room-clause-nodes
returns-in_err-find_room-clause-nodes c = grind (arith, common_steps)

pub returns-in_err-find_room-clause-arcs : goal.returns-in_err-find_room-clause-arcs
returns-in_err-find_room-clause-arcs c = grind (arith, common_steps)

pub grow_tasks-requires-clause-fits : goal.grow_tasks-requires-clause-fits
grow_tasks-requires-clause-fits c = grind (arith, common_steps)

pub returns-in_default-grow_tasks-clause-nodes : goal.returns-in_default-grow_tasks-clause-nodes
returns-in_default-grow_tasks-clause-nodes c = grind (arith, common_steps)

pub returns-in_default-grow_tasks-clause-arcs : goal.returns-in_default-grow_tasks-clause-arcs
returns-in_default-grow_tasks-clause-arcs c = grind (arith, common_steps)
