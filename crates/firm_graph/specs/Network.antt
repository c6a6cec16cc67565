-- The network of a case: its nodes and its arcs as lists, told by places.
use Rattle.std.specs.Prelude.{◌≡◌, ℕ, zero, suc, ◌+◌, ◌*◌, ◌<◌, ◌≤◌, Bool, true, false, ⊤, List, [], ◌∷◌, ◌++◌, length}
use Rattle.std.specs.Prelude.{nat_lt, slice_index, slice_index_or, if◌then◌else◌, Option, Some, None}
use Rattle.firm_paths.specs.Network.{Arc}
use Rattle.firm_rules.specs.Book.{TenantRows}
use Rattle.firm_rules.specs.ArenaUse.{arena_nodes, arena_arcs}
use Rattle.firm_rules.specs.Placement.{Case, Demand, slot_cost}
use Rattle.firm_rules.specs.Round.{case_of}
use Rattle.firm_graph.specs.declared.network.Node.{Node}
use Rattle.firm_graph.specs.declared.network.Node.TheVariants.{Sink, Hub, Machine, Owner, Task}
use Rattle.firm_graph.specs.declared.network.Key.{Key}
use Rattle.firm_graph.specs.declared.network.Key.TheVariants.{Through, Slot, Exit, Wide, Stay, Wait, Prefer}

-- the lists of `f 0`, `f 1` and so on below `n`, end to end
abbrev pub gather : {A : Type 0} → (ℕ → List A) → ℕ → List A
gather f zero = []
gather f (suc n) = gather f n ++ f n

-- an arc with the lower bound and the flow of its key
abbrev pub arc : (Key → ℕ) → (Key → ℕ) → Key → Node → Node → ℕ → ℕ → Arc Node Key
arc low flow key tail head cap cost =
    record { key = key; tail = tail; head = head; low = low key; cap = cap; cost = cost; flow = flow key }

-- the slots of the machine at a place
abbrev pub slots_of : Case → ℕ → ℕ
slots_of c j = slice_index c.slots j

-- what the task at a place brings to a round
abbrev pub demand : Case → ℕ → Demand
demand c i = slice_index_or c.tasks i (record { home = None; preferred = []; delay = 0; job = 0 })

-- a task with a machine runs
abbrev pub runs : Option ℕ → Bool
runs None = false
runs (Some home) = true

-- a task's stay arc leads to its machine while it runs, and to the hub while it waits
abbrev pub stay_head : Option ℕ → Node
stay_head None = Hub
stay_head (Some home) = Machine home

-- the arcs of a machine: from the hub, with the capacity of its slots, and one to the sink for each slot, at its cost
abbrev pub machine_arcs : Case → (Key → ℕ) → (Key → ℕ) → ℕ → List (Arc Node Key)
machine_arcs c low flow j =
    arc low flow (Through j) Hub (Machine j) (slots_of c j) 0
    ∷ gather (λ k. arc low flow (Slot j k) (Machine j) Sink 1 (slot_cost c.spread k) ∷ []) (slots_of c j)

-- the arc of a job, with the capacity of the tenant's limit of nodes
abbrev pub job_arcs : Case → (Key → ℕ) → (Key → ℕ) → ℕ → List (Arc Node Key)
job_arcs c low flow k = arc low flow (Exit k) (Owner k) Sink c.limit 0 ∷ []

-- the place of the machine that is a task's k-th preference, counted from 0
abbrev pub preferred_at : Case → ℕ → ℕ → ℕ
preferred_at c i k = slice_index_or (demand c i).preferred k 0

-- what it costs to take a task from its machine: churn where it runs
abbrev pub leaving : Case → ℕ → ℕ
leaving c i = if runs (demand c i).home then c.churn else 0

-- what the way by the hub costs beside that: `remote` where there are preferences
abbrev pub away : {A : Type 0} → ℕ → List A → ℕ
away remote preferred = if nat_lt 0 (length preferred) then remote else 0

-- the arcs of a task to the machines that it prefers
abbrev pub preferred_arcs : Case → (Key → ℕ) → (Key → ℕ) → ℕ → List (Arc Node Key)
preferred_arcs c low flow i =
    gather (λ k. arc low flow (Prefer i k) (Task i) (Machine (preferred_at c i k)) 1 (leaving c i) ∷ [])
    (length (demand c i).preferred)

-- the arcs of a task: to the hub, to its machine, to its job, and to each machine that it prefers; what takes a running
-- task from its machine costs churn, and a task with preferences comes by the hub for `remote` more
abbrev pub task_arcs : Case → (Key → ℕ) → (Key → ℕ) → ℕ → List (Arc Node Key)
task_arcs c low flow i =
    arc low flow (Wide i) (Task i) Hub 1 (leaving c i + away c.remote (demand c i).preferred)
    ∷ arc low flow (Stay i) (Task i) (stay_head (demand c i).home) (if runs (demand c i).home then 1 else 0) 0
    ∷ arc low flow (Wait i) (Task i) (Owner (demand c i).job) 1 ((demand c i).delay + leaving c i)
    ∷ preferred_arcs c low flow i

-- the arcs of the network, with these lower bounds and flows
abbrev pub network : Case → (Key → ℕ) → (Key → ℕ) → List (Arc Node Key)
network c low flow =
    gather (machine_arcs c low flow) (length c.slots)
    ++ (gather (job_arcs c low flow) c.jobs ++ gather (task_arcs c low flow) (length c.tasks))

-- the nodes of the tasks, each the source of one unit
abbrev pub task_nodes : Case → List Node
task_nodes c = gather (λ i. Task i ∷ []) (length c.tasks)

-- the nodes of the network
abbrev pub nodes : Case → List Node
nodes c =
    Hub ∷ Sink ∷ gather (λ j. Machine j ∷ []) (length c.slots)
    ++ (gather (λ k. Owner k ∷ []) c.jobs ++ task_nodes c)

-- the node is one of the network of the case
abbrev pub IsNodeOf : Case → Node → Type 0
IsNodeOf c Sink = ⊤
IsNodeOf c Hub = ⊤
IsNodeOf c (Machine j) = j < length c.slots
IsNodeOf c (Owner k) = k < c.jobs
IsNodeOf c (Task i) = i < length c.tasks

-- the key is that of an arc of the network of the case
abbrev pub IsKeyOf : Case → Key → Type 0
IsKeyOf c (Through j) = j < length c.slots
IsKeyOf c (Slot j k) = (j < length c.slots) × (k < slots_of c j)
IsKeyOf c (Exit k) = k < c.jobs
IsKeyOf c (Wide i) = i < length c.tasks
IsKeyOf c (Stay i) = i < length c.tasks
IsKeyOf c (Wait i) = i < length c.tasks
IsKeyOf c (Prefer i k) = (i < length c.tasks) × (k < length (demand c i).preferred)

-- each task's job is there, and a job is allowed as many tasks as there are
pub record IsSound (c : Case) : Type 0 where
  pub jobs_in : (i : ℕ) → i < length c.tasks → (demand c i).job < c.jobs
  pub limit_fits : length c.tasks ≤ c.limit

-- the network of some rows has as many nodes and arcs as they take of the arena
pub record IsCounted (rows : TenantRows) : Type 0 where
  pub nodes : length (nodes (case_of rows)) ≡ arena_nodes rows
  pub arcs : (low flow : Key → ℕ) → length (network (case_of rows) low flow) ≡ arena_arcs rows

abbrev pub NetworksAreCounted : Type 0
NetworksAreCounted = (rows : TenantRows) → IsCounted rows
