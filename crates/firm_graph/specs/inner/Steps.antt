-- Rows and graphs on the way from one to the next.
use Rattle.std.specs.Prelude.{◌≡◌, ℕ, zero, suc, ◌+◌, ◌<◌, ◌≤◌, List, [], ◌∷◌, length, map, slice_index_or, Option}
use Rattle.std.specs.Prelude.{None}
use Rattle.std.specs.Prelude.{is_some, if◌then◌else◌}
use Rattle.std.specs.List.{remove}
use Rattle.firm_arena.specs.Arena.{capacity_of}
use Rattle.firm_net.specs.Net.{Net, IsNet, added_of}
use Rattle.firm_net.specs.Edits.{Span, nodes_of, spans_of, AsOften}
use Rattle.firm_net.specs.declared.row.NodeId.{NodeId}
use Rattle.firm_net.specs.declared.row.ArcId.{ArcId}
use Rattle.firm_rules.specs.Book.{TenantRows, machine_names, is_on, forgetting}
use Rattle.firm_rules.specs.Round.{task_after}
use Rattle.firm_rules.specs.declared.rounds.Choice.{Choice}
use Rattle.firm_rules.specs.declared.rounds.Choice.TheVariants.{Wait}
use Rattle.firm_rules.specs.declared.book.Task.{Task}
use Rattle.firm_graph.specs.declared.ids.TaskParts.{TaskParts}
use Rattle.firm_graph.specs.declared.ids.Stand.{Stand}
use Rattle.firm_graph.specs.Graph.{Graph, Mirrors, preferred_spans, home_node, machine_nodes}

-- the list with the element at a place changed
abbrev pub update_at : {X : Type 0} → List X → ℕ → (X → X) → List X
update_at [] place f = []
update_at (x ∷ xs) zero f = f x ∷ xs
update_at (x ∷ xs) (suc place) f = x ∷ update_at xs place f

-- the list with its first n elements changed, counted from i
abbrev pub changed_first : {X : Type 0} → (ℕ → X → X) → ℕ → ℕ → List X → List X
changed_first f i zero xs = xs
changed_first f i (suc n) [] = []
changed_first f i (suc n) (x ∷ xs) = f i x ∷ changed_first f (i + 1) n xs

-- the rows with the machine, the job or the task at a place removed
abbrev pub machine_gone : TenantRows → ℕ → TenantRows
machine_gone rows place = record rows { machines = remove rows.machines place }

abbrev pub job_gone : TenantRows → ℕ → TenantRows
job_gone rows place = record rows { jobs = remove rows.jobs place }

abbrev pub task_gone : TenantRows → ℕ → TenantRows
task_gone rows place = record rows { tasks = remove rows.tasks place }

-- the task with another machine and another number of rounds waited
abbrev pub placed : Option (List ℕ) → ℕ → Task → Task
placed machine waited task = record task { machine = machine; waited = waited }

-- the rows with another machine and number of rounds waited for the task at a place
abbrev pub with_task_at : TenantRows → ℕ → Option (List ℕ) → ℕ → TenantRows
with_task_at rows place machine waited = record rows { tasks = update_at rows.tasks place (placed machine waited) }

-- the rows with the machine of this name taken from the preferences of the first n tasks
abbrev pub forgetting_first : TenantRows → List ℕ → ℕ → TenantRows
forgetting_first rows name n = record rows { tasks = changed_first (λ _. forgetting name) 0 n rows.tasks }

-- the rows with the machine of this name taken from all preferences
abbrev pub forgetting_rows : TenantRows → List ℕ → TenantRows
forgetting_rows rows name = record rows { tasks = map (forgetting name) rows.tasks }

-- the task, waiting since no round if it ran on the machine of this name
abbrev pub thrown_out : List ℕ → Task → Task
thrown_out name task = if is_on name task.machine then placed None 0 task else task

-- the rows with the first n tasks thrown out of the machine
abbrev pub thrown_out_first : TenantRows → List ℕ → ℕ → TenantRows
thrown_out_first rows name n = record rows { tasks = changed_first (λ _. thrown_out name) 0 n rows.tasks }

-- the rows with the first n tasks as a round leaves them
abbrev pub settled_first : TenantRows → List Choice → ℕ → TenantRows
settled_first rows choices n =
    let settled : ℕ → Task → Task = λ i task. task_after rows task (slice_index_or choices i Wait) in
    record rows { tasks = changed_first settled 0 n rows.tasks }

abbrev pub no_task : Task
no_task = record { name = []; job = []; preferred = []; machine = None; waited = 0 }

abbrev pub task_at : TenantRows → ℕ → Task
task_at rows place = slice_index_or rows.tasks place no_task

-- the rows with the machine of this name taken from the preferences of the task at a place
abbrev pub with_forgetting_at : TenantRows → ℕ → List ℕ → TenantRows
with_forgetting_at rows place name = record rows { tasks = update_at rows.tasks place (forgetting name) }

-- the graph with another net, other rows, and other arcs of the tasks
abbrev pub refitted : Graph → TenantRows → Net → List TaskParts → Graph
refitted g rows net tasks = record g { rows = rows; net = net; tasks = tasks }

-- the graph stands over this net, its rows have the limits of these, and its task at a place, which is theirs, has
-- these parts
pub record IsFitting (g : Graph) (net : Net) (rows : TenantRows) (parts : TaskParts) (place : ℕ) : Type 0 where
  pub mirrors : Mirrors g
  pub over : g.net ≡ net
  pub below : place < length g.tasks
  pub its_parts : parts ≡ slice_index_or g.tasks place parts
  pub its_row : task_at g.rows place ≡ task_at rows place
  pub limits : g.rows.limits ≡ rows.limits

-- the graph with another net and other rows
abbrev pub moved : Graph → TenantRows → Net → Graph
moved g rows net = record g { rows = rows; net = net }

-- the graph stands over this net, its rows have the jobs and limits of these, its task at a place has these parts and
-- is of the same job as theirs, and a task that runs at this home, or waits, stands so
pub record IsPlacing (g : Graph) (net : Net) (rows : TenantRows) (parts : TaskParts) (place : ℕ) (stand : Stand)
    (home : Option (List ℕ)) : Type 0 where
  pub mirrors : Mirrors g
  pub over : g.net ≡ net
  pub below : place < length g.tasks
  pub its_parts : parts ≡ slice_index_or g.tasks place parts
  pub its_job : (task_at g.rows place).job ≡ (task_at rows place).job
  pub jobs : g.rows.jobs ≡ rows.jobs
  pub limits : g.rows.limits ≡ rows.limits
  pub node : stand.node ≡ home_node (machine_names g.rows) (machine_nodes g) g.hub home
  pub runs : stand.runs ≡ is_some home

-- how a task stands after a round that makes this choice for it: at the machine of the choice, by the node of its name,
-- or at the hub, once more left waiting
pub record Stands (rows : TenantRows) (nodes : List NodeId) (hub : NodeId) (task : Task) (choice : Choice)
    (stand : Stand) : Type 0 where
  pub node : stand.node ≡ home_node (machine_names rows) nodes hub (task_after rows task choice).machine
  pub runs : stand.runs ≡ is_some (task_after rows task choice).machine
  pub waited : stand.waited ≡ (task_after rows task choice).waited

-- an arc of a task to a machine that it prefers
abbrev pub near : NodeId → NodeId → ℕ → ArcId → Span
near node head cost arc = record { arc = arc; tail = node; head = head; cap = 1; cost = cost }

-- a task's arcs to the machines that it prefers, the first n of them at another cost
abbrev pub mixed_spans : NodeId → ℕ → ℕ → ℕ → List NodeId → List ArcId → List Span
mixed_spans node new old zero heads arcs = preferred_spans node old heads arcs
mixed_spans node new old (suc n) [] arcs = []
mixed_spans node new old (suc n) (head ∷ heads) [] = []
mixed_spans node new old (suc n) (head ∷ heads) (arc ∷ arcs) =
    near node head new arc ∷ mixed_spans node new old n heads arcs

-- the net holds these nodes and arcs, on the way from another that had as much room
pub record Holds (base now : Net) (ns : List NodeId) (ss : List Span) : Type 0 where
  pub net : IsNet now
  pub nodes : AsOften (nodes_of now) ns
  pub spans : AsOften (spans_of now) ss
  pub node_room : capacity_of now.nodes ≡ capacity_of base.nodes
  pub arc_room : capacity_of now.arcs ≡ capacity_of base.arcs
  pub added : added_of now ≤ added_of base
