-- The network told by rows, one by one, is the network of their case.
use Rattle.std.proofs.Common.{◌≡◌, ℕ, zero, suc, ◌+◌, ◌*◌, ◌<◌, Bool, cond, ltb, is_some, Option, Some, None, List, []}
use Rattle.std.proofs.Common.{◌∷◌, ◌++◌, map, length, get_or, bytes_eq, append_assoc, arith, refl, sym, ap, ap₂, ◌∙◌}
use Rattle.std.specs.List.{position_or_len}
use Rattle.std.proofs.lemmas.List.{append-nil, map-append, get_or-map, length-map}
use Rattle.firm_paths.specs.Network.{Arc}
use Rattle.firm_rules.specs.Book.{TenantRows, machine_names, job_names}
use Rattle.firm_rules.specs.Placement.{slot_cost, Case, Demand}
use Rattle.firm_rules.specs.Round.{case_of, place_of, machine_place, job_place, demand_of}
use Rattle.firm_rules.specs.declared.book.Machine.{Machine}
use Rattle.firm_rules.specs.declared.book.Job.{Job}
use Rattle.firm_rules.specs.declared.book.Task.{Task}
use Rattle.firm_graph.proofs.Lookups.{at-first, at-later, weight_under-at}
use Rattle.firm_graph.specs.declared.network.Node.{Node}
use Rattle.firm_graph.specs.declared.network.Node.TheVariants.{Sink, Hub, Machine as MachineAt, Owner, Task as TaskAt}
use Rattle.firm_graph.specs.declared.network.Key.{Key}
use Rattle.firm_graph.specs.declared.network.Key.TheVariants.{Through, Slot, Exit, Wide, Stay, Wait, Prefer}
use Rattle.firm_graph.specs.Network.{gather, arc, slots_of, demand, runs, stay_head, away, machine_arcs, job_arcs}
use Rattle.firm_graph.specs.Network.{task_arcs, network}
use Rattle.firm_graph.specs.Graph.{weight_under}

abbrev pub bare : Key → Node → Node → ℕ → ℕ → Arc Node Key
bare key tail head cap cost = record { key = key; tail = tail; head = head; low = 0; cap = cap; cost = cost; flow = 0 }

abbrev pub slot_rows : ℕ → ℕ → ℕ → ℕ → List (Arc Node Key)
slot_rows spread j k zero = []
slot_rows spread j k (suc left) =
    bare (Slot j k) (MachineAt j) Sink 1 (slot_cost spread k) ∷ slot_rows spread j (k + 1) left

abbrev pub machine_rows : ℕ → ℕ → List Machine → List (Arc Node Key)
machine_rows spread j [] = []
machine_rows spread j (m ∷ rest) =
    (bare (Through j) Hub (MachineAt j) m.slots 0 ∷ slot_rows spread j 0 m.slots) ++ machine_rows spread (j + 1) rest

abbrev pub job_rows : ℕ → ℕ → List Job → List (Arc Node Key)
job_rows limit k [] = []
job_rows limit k (j ∷ rest) = bare (Exit k) (Owner k) Sink limit 0 ∷ job_rows limit (k + 1) rest

abbrev pub head_of : List (List ℕ) → Option (List ℕ) → Node
head_of names None = Hub
head_of names (Some name) = MachineAt (position_or_len (bytes_eq name) names)

-- a task's arcs to the machines that it prefers, the first of these its k-th
abbrev pub preferred_rows : List (List ℕ) → ℕ → ℕ → ℕ → List (List ℕ) → List (Arc Node Key)
preferred_rows names cost i k [] = []
preferred_rows names cost i k (name ∷ rest) =
    bare (Prefer i k) (TaskAt i) (MachineAt (position_or_len (bytes_eq name) names)) 1 cost
    ∷ preferred_rows names cost i (k + 1) rest

abbrev pub one_task_rows : TenantRows → ℕ → Task → List (Arc Node Key)
one_task_rows rows i t =
    let leaving : ℕ = cond (is_some t.machine) rows.limits.churn 0 in
    bare (Wide i) (TaskAt i) Hub 1 (leaving + away rows.limits.remote t.preferred)
    ∷ bare (Stay i) (TaskAt i) (head_of (machine_names rows) t.machine) (cond (is_some t.machine) 1 0) 0
    ∷ bare (Wait i) (TaskAt i) (Owner (position_or_len (bytes_eq t.job) (job_names rows))) 1
    (weight_under rows.jobs t.job + t.waited + leaving)
    ∷ preferred_rows (machine_names rows) leaving i 0 t.preferred

abbrev pub task_rows : TenantRows → ℕ → List Task → List (Arc Node Key)
task_rows rows i [] = []
task_rows rows i (t ∷ rest) = one_task_rows rows i t ++ task_rows rows (i + 1) rest

abbrev pub rows_network : TenantRows → List (Arc Node Key)
rows_network rows =
    machine_rows rows.limits.spread 0 rows.machines ++
    (job_rows rows.limits.nodes 0 rows.jobs ++ task_rows rows 0 rows.tasks)

-- with these lower bounds and flows
abbrev pub fill : (Key → ℕ) → (Key → ℕ) → Arc Node Key → Arc Node Key
fill low x a =
    record { key = a.key; tail = a.tail; head = a.head; low = low a.key; cap = a.cap; cost = a.cost; flow = x a.key }

-- the lists of f j, f (j + 1) and so on, n of them
unfoldable pub from : {A : Type 0} → (ℕ → List A) → ℕ → ℕ → List A
from f j zero = []
from f j (suc n) = f j ++ from f (j + 1) n

from_last : {A : Type 0} (f : ℕ → List A) (j n : ℕ) → from f j (suc n) ≡ from f j n ++ f (j + n)
unfolding from
from_last {A} f j zero = append-nil (f j) ∙ ap f (let e : j ≡ j + 0 = omega arith in e)
from_last {A} f j (suc n) =
    ap (λ (z : List A). f j ++ z) (from_last f (j + 1) n)
    ∙ (sym (append_assoc (f j) (from f (j + 1) n) (f (j + 1 + n))) ∙ ap (λ (k : ℕ). (f j ++ from f (j + 1) n) ++ f k)
    (let e : j + 1 + n ≡ j + suc n = omega arith in e))

pub gather_from : {A : Type 0} (f : ℕ → List A) (n : ℕ) → gather f n ≡ from f 0 n
unfolding from
gather_from f zero = refl
gather_from {A} f (suc n) =
    ap₂ (λ (a b : List A). a ++ b) (gather_from f n) (ap f (let e : n ≡ 0 + n = omega arith in e)) ∙ sym
    (from_last f 0 n)

module _ (rows : TenantRows) (low x : Key → ℕ) where
  abbrev c : Case
  c = case_of rows

  slots_same : (j k left : ℕ) → map (fill low x) (slot_rows rows.limits.spread j k left) ≡ from
      (λ k. arc low x (Slot j k) (MachineAt j) Sink 1 (slot_cost c.spread k) ∷ []) k left
  unfolding from
  slots_same j k zero = refl
  slots_same j k (suc left) =
      ap (λ (z : List (Arc Node Key)). arc low x (Slot j k) (MachineAt j) Sink 1 (slot_cost c.spread k) ∷ z)
      (slots_same j (k + 1) left)

  machines_same : (j : ℕ) (ms : List Machine) (d : Machine) →
      ((i : ℕ) → i < length ms → slots_of c (j + i) ≡ (get_or ms i d).slots)
      → map (fill low x) (machine_rows rows.limits.spread j ms) ≡ from (machine_arcs c low x) j (length ms)
  unfolding from
  machines_same j [] d h = refl
  machines_same j (m ∷ ms) d h =
      let P : ℕ → Machine → Type 0 = λ (i : ℕ) (n : Machine). slots_of c i ≡ n.slots in
      let own : m.slots ≡ slots_of c j = sym (at-first P d j m ms h) in
      map-append (fill low x) (bare (Through j) Hub (MachineAt j) m.slots 0 ∷ slot_rows rows.limits.spread j 0 m.slots)
      (machine_rows rows.limits.spread (j + 1) ms)
      ∙ ap₂ (λ (a b : List (Arc Node Key)). a ++ b)
      (ap₂ (λ (a : Arc Node Key) (b : List (Arc Node Key)). a ∷ b)
      (ap (λ (n : ℕ). arc low x (Through j) Hub (MachineAt j) n 0) own)
      (slots_same j 0 m.slots ∙ (sym (gather_from
      (λ (k : ℕ). arc low x (Slot j k) (MachineAt j) Sink 1 (slot_cost c.spread k) ∷ []) m.slots)
      ∙ ap (gather (λ (k : ℕ). arc low x (Slot j k) (MachineAt j) Sink 1 (slot_cost c.spread k) ∷ [])) own)))
      (machines_same (j + 1) ms d (at-later P d j m ms h))

  jobs_same : (k : ℕ) (js : List Job) → map (fill low x) (job_rows rows.limits.nodes k js) ≡ from (job_arcs c low x) k
      (length js)
  unfolding from
  jobs_same k [] = refl
  jobs_same k (j ∷ js) = ap (λ (z : List (Arc Node Key)). arc low x (Exit k) (Owner k) Sink c.limit 0 ∷ z)
      (jobs_same (k + 1) js)

  runs_same : (home : Option (List ℕ)) → is_some home ≡ runs (machine_place rows home)
  runs_same None = refl
  runs_same (Some name) = refl

  head_same : (home : Option (List ℕ)) → head_of (machine_names rows) home ≡ stay_head (machine_place rows home)
  head_same None = refl
  head_same (Some name) = refl

  preferred_same : (place : ℕ → ℕ) (cost i k : ℕ) (names : List (List ℕ)) →
      ((j : ℕ) → j < length names → place (k + j) ≡ place_of rows (get_or names j []))
      → map (fill low x) (preferred_rows (machine_names rows) cost i k names) ≡ from
      (λ k. arc low x (Prefer i k) (TaskAt i) (MachineAt (place k)) 1 cost ∷ []) k (length names)
  unfolding from
  preferred_same place cost i k [] h = refl
  preferred_same place cost i k (name ∷ names) h =
      let P : ℕ → List ℕ → Type 0 = λ (j : ℕ) (m : List ℕ). place j ≡ place_of rows m in
      let own : place_of rows name ≡ place k = sym (at-first P [] k name names h) in
      ap₂ (λ (m : ℕ) (l : List (Arc Node Key)). arc low x (Prefer i k) (TaskAt i) (MachineAt m) 1 cost ∷ l) own
      (preferred_same place cost i (k + 1) names (at-later P [] k name names h))

  -- the arcs of a task by what it brings to a round
  abbrev by_demand : ℕ → Demand → List (Arc Node Key)
  by_demand i q =
      arc low x (Wide i) (TaskAt i) Hub 1 (cond (runs q.home) c.churn 0 + away c.remote q.preferred)
      ∷ arc low x (Stay i) (TaskAt i) (stay_head q.home) (cond (runs q.home) 1 0) 0
      ∷ arc low x (Wait i) (TaskAt i) (Owner q.job) 1 (q.delay + cond (runs q.home) c.churn 0)
      ∷ gather (λ k. arc low x (Prefer i k) (TaskAt i) (MachineAt (get_or q.preferred k 0)) 1
      (cond (runs q.home) c.churn 0) ∷ []) (length q.preferred)

  one_same : (i : ℕ) (t : Task) → map (fill low x) (one_task_rows rows i t) ≡ by_demand i (demand_of rows t)
  one_same i t =
      let q : Demand = demand_of rows t in
      let cost : ℕ = cond (runs q.home) c.churn 0 in
      let mine : Bool → Node → ℕ → List (Arc Node Key) = λ (b : Bool) (n : Node) (w : ℕ).
      arc low x (Wide i) (TaskAt i) Hub 1 (cond b c.churn 0 + away c.remote t.preferred)
      ∷ arc low x (Stay i) (TaskAt i) n (cond b 1 0) 0
      ∷ arc low x (Wait i) (TaskAt i) (Owner (job_place rows t)) 1 (w + t.waited + cond b c.churn 0)
      ∷ map (fill low x) (preferred_rows (machine_names rows) (cond b c.churn 0) i 0 t.preferred) in
      let to : ℕ → List (Arc Node Key) = λ (k : ℕ). arc low x (Prefer i k) (TaskAt i)
      (MachineAt (get_or q.preferred k 0)) 1 cost ∷ [] in
      let counted : length t.preferred ≡ length q.preferred = sym (length-map t.preferred (place_of rows)) in
      let preferred : map (fill low x) (preferred_rows (machine_names rows) cost i 0 t.preferred) ≡ gather to
      (length q.preferred) =
      preferred_same (λ (k : ℕ). get_or q.preferred k 0) cost i 0 t.preferred
      (λ j below. ap (λ (k : ℕ). get_or q.preferred k 0) (let e : 0 + j ≡ j = omega arith in e)
      ∙ get_or-map (place_of rows) t.preferred j [] 0 below)
      ∙ (sym (gather_from to (length t.preferred)) ∙ ap (gather to) counted) in
      ap (λ (b : Bool). mine b (head_of (machine_names rows) t.machine) (weight_under rows.jobs t.job))
      (runs_same t.machine)
      ∙ (ap (λ (n : Node). mine (runs q.home) n (weight_under rows.jobs t.job)) (head_same t.machine)
      ∙ (ap (λ (w : ℕ). mine (runs q.home) (stay_head q.home) w) (weight_under-at rows.jobs t.job)
      ∙ ap₂ (λ (n : ℕ) (l : List (Arc Node Key)).
      arc low x (Wide i) (TaskAt i) Hub 1 (cost + cond (ltb 0 n) c.remote 0)
      ∷ arc low x (Stay i) (TaskAt i) (stay_head q.home) (cond (runs q.home) 1 0) 0
      ∷ arc low x (Wait i) (TaskAt i) (Owner q.job) 1 (q.delay + cost) ∷ l) counted preferred))

  tasks_same : (i : ℕ) (ts : List Task) (d : Task) →
      ((k : ℕ) → k < length ts → demand c (i + k) ≡ demand_of rows (get_or ts k d))
      → map (fill low x) (task_rows rows i ts) ≡ from (task_arcs c low x) i (length ts)
  unfolding from
  tasks_same i [] d h = refl
  tasks_same i (t ∷ ts) d h =
      let P : ℕ → Task → Type 0 = λ (k : ℕ) (s : Task). demand c k ≡ demand_of rows s in
      let own : demand_of rows t ≡ demand c i = sym (at-first P d i t ts h) in
      map-append (fill low x) (one_task_rows rows i t) (task_rows rows (i + 1) ts)
      ∙ ap₂ (λ (a b : List (Arc Node Key)). a ++ b) (one_same i t ∙ ap (by_demand i) own)
      (tasks_same (i + 1) ts d (at-later P d i t ts h))

  pub network_is : map (fill low x) (rows_network rows) ≡ network c low x
  network_is =
      let no_machine : Machine = record { name = []; slots = 0 } in
      let no_task : Task = record { name = []; job = []; preferred = []; machine = None; waited = 0 } in
      map-append (fill low x) (machine_rows rows.limits.spread 0 rows.machines)
      (job_rows rows.limits.nodes 0 rows.jobs ++ task_rows rows 0 rows.tasks)
      ∙ ap₂ (λ (a b : List (Arc Node Key)). a ++ b)
      (machines_same 0 rows.machines no_machine
      (λ i l. ap (slots_of c) (let e : 0 + i ≡ i = omega arith in e) ∙ get_or-map (λ (m : Machine). m.slots)
      rows.machines i no_machine 0 l)
      ∙ (sym (gather_from (machine_arcs c low x) (length rows.machines)) ∙ ap (gather (machine_arcs c low x))
      (sym (length-map rows.machines (λ (m : Machine). m.slots)))))
      (map-append (fill low x) (job_rows rows.limits.nodes 0 rows.jobs) (task_rows rows 0 rows.tasks)
      ∙ ap₂ (λ (a b : List (Arc Node Key)). a ++ b)
      (jobs_same 0 rows.jobs ∙ sym (gather_from (job_arcs c low x) (length rows.jobs)))
      (tasks_same 0 rows.tasks no_task (λ k l. ap (λ (z : ℕ). demand c z) (let e : 0 + k ≡ k = omega arith in e) ∙
      get_or-map (demand_of rows) rows.tasks k no_task (record { home = None; preferred = []; delay = 0; job = 0 })
      l)
      ∙ (sym (gather_from (task_arcs c low x) (length rows.tasks)) ∙ ap (gather (task_arcs c low x))
      (sym (length-map rows.tasks (demand_of rows))))))
