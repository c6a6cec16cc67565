-- The network of a worked tenant, computed.
use Rattle.std.proofs.Common.{◌≡◌, ℕ, Option, Some, None, List, [], ◌∷◌, drop, refl, codes}
use Rattle.firm_paths.specs.Network.{Arc}
use Rattle.firm_rules.specs.Book.{TenantRows}
use Rattle.firm_rules.specs.Round.{case_of}
use Rattle.firm_rules.specs.declared.book.Task.{Task}
use Rattle.firm_graph.specs.declared.network.Node.{Node}
use Rattle.firm_graph.specs.declared.network.Node.TheVariants.{Sink, Hub, Machine as MachineAt, Owner, Task as TaskAt}
use Rattle.firm_graph.specs.declared.network.Key.{Key}
use Rattle.firm_graph.specs.declared.network.Key.TheVariants.{Through, Slot, Exit, Wide, Stay, Wait, Prefer}
use Rattle.firm_graph.specs.Network.{network}

-- two machines of two slots, a job of weight 10, and these tasks
rows_of : List Task → TenantRows
rows_of tasks =
    record {
      limits = record { nodes = 9; arcs = 24; life = 100; spread = 1; churn = 2; remote = 7; patience = 1000000 };
      machines = record { name = codes "m1"; slots = 2 } ∷ record { name = codes "m2"; slots = 2 } ∷ [];
      jobs = record { name = codes "j"; weight = 10 } ∷ [];
      tasks = tasks;
    }

preferring : List ℕ → List (List ℕ) → Option (List ℕ) → Task
preferring name preferred machine =
    record { name = name; job = codes "j"; preferred = preferred; machine = machine; waited = 0 }

task : List ℕ → Option (List ℕ) → Task
task name machine = preferring name [] machine

arc : Key → Node → Node → ℕ → ℕ → Arc Node Key
arc key tail head cap cost = record { key = key; tail = tail; head = head; low = 0; cap = cap; cost = cost; flow = 0 }

network_of : List Task → List (Arc Node Key)
network_of tasks = network (case_of (rows_of tasks)) (λ _. 0) (λ _. 0)

-- before the first round both tasks wait
two_waiting : network_of (task (codes "a") None ∷ task (codes "b") None ∷ [])
    ≡ arc (Through 0) Hub (MachineAt 0) 2 0
    ∷ arc (Slot 0 0) (MachineAt 0) Sink 1 0
    ∷ arc (Slot 0 1) (MachineAt 0) Sink 1 1
    ∷ arc (Through 1) Hub (MachineAt 1) 2 0
    ∷ arc (Slot 1 0) (MachineAt 1) Sink 1 0
    ∷ arc (Slot 1 1) (MachineAt 1) Sink 1 1
    ∷ arc (Exit 0) (Owner 0) Sink 9 0
    ∷ arc (Wide 0) (TaskAt 0) Hub 1 0
    ∷ arc (Stay 0) (TaskAt 0) Hub 0 0
    ∷ arc (Wait 0) (TaskAt 0) (Owner 0) 1 10
    ∷ arc (Wide 1) (TaskAt 1) Hub 1 0
    ∷ arc (Stay 1) (TaskAt 1) Hub 0 0
    ∷ arc (Wait 1) (TaskAt 1) (Owner 0) 1 10
    ∷ []
unfolding rows_of preferring task arc network_of
two_waiting = refl

-- before the second round each of them runs on a machine of its own, and a third waits; the arcs of the tasks
two_running : drop 7 (network_of (task (codes "a") (Some (codes "m1")) ∷ task (codes "b") (Some (codes "m2")) ∷ task
    (codes "c") None ∷ []))
    ≡ arc (Wide 0) (TaskAt 0) Hub 1 2
    ∷ arc (Stay 0) (TaskAt 0) (MachineAt 0) 1 0
    ∷ arc (Wait 0) (TaskAt 0) (Owner 0) 1 12
    ∷ arc (Wide 1) (TaskAt 1) Hub 1 2
    ∷ arc (Stay 1) (TaskAt 1) (MachineAt 1) 1 0
    ∷ arc (Wait 1) (TaskAt 1) (Owner 0) 1 12
    ∷ arc (Wide 2) (TaskAt 2) Hub 1 0
    ∷ arc (Stay 2) (TaskAt 2) Hub 0 0
    ∷ arc (Wait 2) (TaskAt 2) (Owner 0) 1 10
    ∷ []
unfolding rows_of preferring task arc network_of
two_running = refl

-- a task that waits prefers the second machine, and one that runs on the second prefers both; the arcs of the tasks
two_preferring : drop 7 (network_of (preferring (codes "a") (codes "m2" ∷ []) None
    ∷ preferring (codes "b") (codes "m2" ∷ codes "m1" ∷ []) (Some (codes "m2")) ∷ []))
    ≡ arc (Wide 0) (TaskAt 0) Hub 1 7
    ∷ arc (Stay 0) (TaskAt 0) Hub 0 0
    ∷ arc (Wait 0) (TaskAt 0) (Owner 0) 1 10
    ∷ arc (Prefer 0 0) (TaskAt 0) (MachineAt 1) 1 0
    ∷ arc (Wide 1) (TaskAt 1) Hub 1 9
    ∷ arc (Stay 1) (TaskAt 1) (MachineAt 1) 1 0
    ∷ arc (Wait 1) (TaskAt 1) (Owner 0) 1 12
    ∷ arc (Prefer 1 0) (TaskAt 1) (MachineAt 1) 1 2
    ∷ arc (Prefer 1 1) (TaskAt 1) (MachineAt 0) 1 2
    ∷ []
unfolding rows_of preferring arc network_of
two_preferring = refl
