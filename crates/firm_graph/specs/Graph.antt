-- What a contract sees of a `Graph`: the rows of a tenant, and a net that holds what they make.
use Rattle.std.specs.Prelude.{◌≡◌, ℕ, ◌+◌, ◌*◌, ◌<◌, ◌≤◌, ◌^◌, List, [], ◌∷◌, ◌++◌, map, length, Option, Some, None}
use Rattle.std.specs.Prelude.{is_some, if◌then◌else◌, bytes_eq}
use Rattle.std.specs.List.{AllZip}
use Rattle.firm_arena.specs.Arena.{capacity_of}
use Rattle.firm_net.specs.Net.{Net, IsNet, added_of}
use Rattle.firm_net.specs.declared.row.NodeId.{NodeId}
use Rattle.firm_net.specs.declared.row.ArcId.{ArcId}
use Rattle.firm_rules.specs.Book.{TenantRows, machine_names, job_names}
use Rattle.firm_rules.specs.ArenaUse.{arena_nodes, arena_arcs}
use Rattle.firm_rules.specs.Sound.{AreSound}
use Rattle.firm_rules.specs.Placement.{slot_cost}
use Rattle.firm_rules.specs.declared.book.Machine.{Machine}
use Rattle.firm_rules.specs.declared.book.Job.{Job}
use Rattle.firm_rules.specs.declared.book.Task.{Task}
use Rattle.firm_net.specs.Edits.{Span, nodes_of, spans_of, AsOften}
use Rattle.firm_graph.specs.Parts.{MachineParts}
use Rattle.firm_graph.specs.Network.{away}
use Rattle.firm_graph.specs.declared.ids.JobParts.{JobParts}
use Rattle.firm_graph.specs.declared.ids.TaskParts.{TaskParts}

-- the rows, the net, the hub and the sink, what each machine, job and task has in the net, in the order of the rows,
-- and how many rows were asked for and added
pub record Graph : Type 0 where
  pub rows : TenantRows
  pub net : Net
  pub hub : NodeId
  pub sink : NodeId
  pub machines : List MachineParts
  pub jobs : List JobParts
  pub tasks : List TaskParts
  pub asked : ℕ

-- what `f` makes of the elements of two lists, one by one, end to end
abbrev pub flat_zip : {A B C : Type 0} → (A → B → List C) → List A → List B → List C
flat_zip f [] ys = []
flat_zip f (x ∷ xs) [] = []
flat_zip f (x ∷ xs) (y ∷ ys) = f x y ++ flat_zip f xs ys

-- the arcs of a machine's slots to the sink, from the k-th on
abbrev pub slot_spans : NodeId → NodeId → ℕ → ℕ → List ArcId → List Span
slot_spans node sink spread k [] = []
slot_spans node sink spread k (arc ∷ rest) =
    record { arc = arc; tail = node; head = sink; cap = 1; cost = slot_cost spread k }
    ∷ slot_spans node sink spread (k + 1) rest

-- the arcs of a machine
abbrev pub machine_spans : NodeId → NodeId → ℕ → Machine → MachineParts → List Span
machine_spans hub sink spread machine parts =
    record { arc = parts.through; tail = hub; head = parts.node; cap = machine.slots; cost = 0 }
    ∷ slot_spans parts.node sink spread 0 parts.slots

-- the arc of a job
abbrev pub job_spans : NodeId → ℕ → Job → JobParts → List Span
job_spans sink limit job parts = record { arc = parts.exit; tail = parts.node; head = sink; cap = limit; cost = 0 } ∷ []

-- where a task's arcs lead beside the hub, and what it costs to leave it waiting, apart from churn
pub record Target : Type 0 where
  pub home : NodeId
  pub owner : NodeId
  pub preferred : List NodeId
  pub delay : ℕ

-- the arcs of a task to the nodes of the machines that it prefers, one by one
abbrev pub preferred_spans : NodeId → ℕ → List NodeId → List ArcId → List Span
preferred_spans node cost [] arcs = []
preferred_spans node cost (head ∷ heads) [] = []
preferred_spans node cost (head ∷ heads) (arc ∷ arcs) =
    record { arc = arc; tail = node; head = head; cap = 1; cost = cost } ∷ preferred_spans node cost heads arcs

-- the arcs of a task
abbrev pub task_spans : NodeId → ℕ → ℕ → (Task → Target) → Task → TaskParts → List Span
task_spans hub churn remote target task parts =
    let runs = is_some task.machine in
    let leaving : ℕ = if runs then churn else 0 in
    let to : Target = target task in
    record {
      arc = parts.arcs.wide;
      tail = parts.node;
      head = hub;
      cap = 1;
      cost = leaving + away remote task.preferred;
    }
    ∷ record { arc = parts.arcs.stay; tail = parts.node; head = to.home; cap = if runs then 1 else 0; cost = 0 }
    ∷ record { arc = parts.arcs.wait; tail = parts.node; head = to.owner; cap = 1; cost = to.delay + leaving }
    ∷ preferred_spans parts.node leaving to.preferred parts.arcs.preferred

-- the node under a name; `other` where none has it
abbrev pub node_under : List (List ℕ) → List NodeId → NodeId → List ℕ → NodeId
node_under [] nodes other name = other
node_under (n ∷ names) [] other name = other
node_under (n ∷ names) (node ∷ nodes) other name =
    if bytes_eq name n then node else node_under names nodes other name

-- the weight of the job of a name; 0 where none has it
abbrev pub weight_under : List Job → List ℕ → ℕ
weight_under [] name = 0
weight_under (job ∷ jobs) name = if bytes_eq name job.name then job.weight else weight_under jobs name

-- the node of a task's machine, the hub while it waits
abbrev pub home_node : List (List ℕ) → List NodeId → NodeId → Option (List ℕ) → NodeId
home_node names nodes hub None = hub
home_node names nodes hub (Some name) = node_under names nodes hub name

abbrev pub machine_nodes : Graph → List NodeId
machine_nodes g = map (λ parts. parts.node) g.machines

abbrev pub job_nodes : Graph → List NodeId
job_nodes g = map (λ parts. parts.node) g.jobs

abbrev pub task_nodes : Graph → List NodeId
task_nodes g = map (λ parts. parts.node) g.tasks

abbrev pub target_of : Graph → Task → Target
target_of g task =
    record {
      home = home_node (machine_names g.rows) (machine_nodes g) g.hub task.machine;
      owner = node_under (job_names g.rows) (job_nodes g) g.hub task.job;
      preferred = map (node_under (machine_names g.rows) (machine_nodes g) g.hub) task.preferred;
      delay = weight_under g.rows.jobs task.job + task.waited;
    }

-- the nodes that the rows make
abbrev pub graph_nodes : Graph → List NodeId
graph_nodes g = g.hub ∷ g.sink ∷ machine_nodes g ++ (job_nodes g ++ task_nodes g)

-- the arcs that the rows make
abbrev pub graph_spans : Graph → List Span
graph_spans g =
    flat_zip (machine_spans g.hub g.sink g.rows.limits.spread) g.rows.machines g.machines
    ++ (flat_zip (job_spans g.sink g.rows.limits.nodes) g.rows.jobs g.jobs
    ++ flat_zip (task_spans g.hub g.rows.limits.churn g.rows.limits.remote (target_of g)) g.rows.tasks g.tasks)

-- the net holds the nodes and arcs that the rows make, and nothing else
pub record Mirrors (g : Graph) : Type 0 where
  pub net : IsNet g.net
  pub nodes : AsOften (nodes_of g.net) (graph_nodes g)
  pub spans : AsOften (spans_of g.net) (graph_spans g)
  pub slots : AllZip (λ machine parts. length parts.slots ≡ machine.slots) g.rows.machines g.machines
  pub preferred : AllZip (λ task parts. length parts.arcs.preferred ≡ length task.preferred) g.rows.tasks g.tasks
  pub machines : length g.machines ≡ length g.rows.machines
  pub jobs : length g.jobs ≡ length g.rows.jobs
  pub tasks : length g.tasks ≡ length g.rows.tasks
  pub node_room : capacity_of g.net.nodes ≡ g.rows.limits.nodes
  pub arc_room : capacity_of g.net.arcs ≡ g.rows.limits.arcs
  pub added : added_of g.net ≤ 2 + 66 * g.asked
  pub asked : g.asked ≤ 2 ^ 40

-- the rows are sound, and the net holds what they make
pub record IsGraph (g : Graph) : Type 0 where
  pub sound : AreSound g.rows
  pub mirrors : Mirrors g

-- the nodes of the rows pass the limit
abbrev pub LackNodes : TenantRows → Type 0
LackNodes rows = rows.limits.nodes < arena_nodes rows

-- the nodes of the rows fit the limit, and their arcs pass it
abbrev pub LackArcs : TenantRows → Type 0
LackArcs rows = (arena_nodes rows ≤ rows.limits.nodes) × (rows.limits.arcs < arena_arcs rows)
