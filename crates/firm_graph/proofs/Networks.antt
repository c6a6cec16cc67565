-- What the rows make under the graph's ids is the network of the rows.
use Rattle.std.proofs.Common.{◌≡◌, ℕ, ◌+◌, ◌*◌, ◌<◌, cond, is_some, Option, Some, None, List, [], ◌∷◌, ◌++◌, map}
use Rattle.std.proofs.Common.{length, get_or, bytes_eq, arith, refl, sym, ap, ap₂, ◌∙◌}
use Rattle.std.specs.List.{AllZip, position_or_len}
use Rattle.std.proofs.lemmas.List.{map-append, get_or-map}
use Rattle.firm_net.specs.declared.row.NodeId.{NodeId}
use Rattle.firm_net.specs.declared.row.ArcId.{ArcId}
use Rattle.firm_paths.specs.Network.{Arc}
use Rattle.firm_rules.specs.Book.{TenantRows, machine_names, job_names}
use Rattle.firm_rules.specs.Placement.{slot_cost}
use Rattle.firm_rules.specs.declared.book.Machine.{Machine}
use Rattle.firm_rules.specs.declared.book.Job.{Job}
use Rattle.firm_rules.specs.declared.book.Task.{Task}
use Rattle.firm_net.specs.Edits.{Span}
use Rattle.firm_graph.specs.Parts.{MachineParts}
use Rattle.firm_graph.specs.declared.ids.JobParts.{JobParts}
use Rattle.firm_graph.specs.declared.ids.TaskParts.{TaskParts}
use Rattle.firm_graph.specs.Graph.{Graph, Mirrors, flat_zip, slot_spans, machine_spans, job_spans, task_spans, Target}
use Rattle.firm_graph.specs.Graph.{preferred_spans, node_under, target_of, home_node, weight_under, graph_spans}
use Rattle.firm_graph.specs.Graph.{machine_nodes, job_nodes}
use Rattle.firm_graph.specs.declared.network.Node.{Node}
use Rattle.firm_graph.specs.declared.network.Node.TheVariants.{Sink, Hub, Machine as MachineAt, Owner as JobAt}
use Rattle.firm_graph.specs.declared.network.Node.TheVariants.{Task as TaskAt}
use Rattle.firm_graph.specs.declared.network.Key.{Key}
use Rattle.firm_graph.specs.declared.network.Key.TheVariants.{Through, Slot, Exit, Wide, Stay, Wait, Prefer}
use Rattle.firm_graph.specs.Ids.{node_id, arc_id, no_arc, no_machine, no_arcs}
use Rattle.firm_graph.specs.Network.{away}
use Rattle.firm_graph.proofs.Bridge.{bare, slot_rows, machine_rows, job_rows, preferred_rows, one_task_rows, task_rows}
use Rattle.firm_graph.proofs.Bridge.{head_of, rows_network}
use Rattle.firm_graph.proofs.Drops.{wide_arc, stay_arc, wait_arc}
use Rattle.firm_graph.proofs.Totals.{machines-paired, jobs-paired}
use Rattle.firm_graph.proofs.Lookups.{map-all, at-first, at-later, node_under-at}

-- an arc of the network under ids
abbrev pub shown : (Node → NodeId) → (Key → ArcId) → Arc Node Key → Span
shown name id a = record { arc = id a.key; tail = name a.tail; head = name a.head; cap = a.cap; cost = a.cost }

slots-shown : (name : Node → NodeId) (id : Key → ArcId) (spread j k : ℕ) (node : NodeId) (slots : List ArcId)
    → node ≡ name (MachineAt j) → ((i : ℕ) → i < length slots → get_or slots i no_arc ≡ id (Slot j (k + i)))
    → map (shown name id) (slot_rows spread j k (length slots)) ≡ slot_spans node (name Sink) spread k slots
slots-shown name id spread j k node [] e h = refl
slots-shown name id spread j k node (a ∷ slots) e h =
    let P : ℕ → ArcId → Type 0 = λ (n : ℕ) (b : ArcId). b ≡ id (Slot j n) in
    ap₂ (λ (s : Span) (l : List Span). s ∷ l)
    (ap₂ (λ (b : ArcId) (n : NodeId). let s : Span = record
    { arc = b; tail = n; head = name Sink; cap = 1; cost = slot_cost spread k } in s)
    (sym (at-first P no_arc k a slots h)) (sym e))
    (slots-shown name id spread j (k + 1) node slots e (at-later P no_arc k a slots h))

-- the parts of a machine carry the network's ids
abbrev AreMachineIds : (Node → NodeId) → (Key → ArcId) → ℕ → MachineParts → Type 0
AreMachineIds name id j p =
    (p.node ≡ name (MachineAt j)) × (p.through ≡ id (Through j))
    × ((k : ℕ) → k < length p.slots → get_or p.slots k no_arc ≡ id (Slot j (0 + k)))

machines-shown : (name : Node → NodeId) (id : Key → ArcId) (spread j : ℕ) (d : MachineParts) (ms : List Machine)
    (ps : List MachineParts)
    → AllZip (λ machine parts. length parts.slots ≡ machine.slots) ms ps
    → ((i : ℕ) → i < length ps → AreMachineIds name id (j + i) (get_or ps i d))
    → map (shown name id) (machine_rows spread j ms) ≡ flat_zip (machine_spans (name Hub) (name Sink) spread) ms ps
machines-shown name id spread j d [] [] z h = refl
machines-shown name id spread j d [] (p ∷ ps) z h = absurd z
machines-shown name id spread j d (m ∷ ms) [] z h = absurd z
machines-shown name id spread j d (m ∷ ms) (p ∷ ps) z h =
    let own : AreMachineIds name id j p = at-first (AreMachineIds name id) d j p ps h in
    map-append (shown name id) (bare (Through j) Hub (MachineAt j) m.slots 0 ∷ slot_rows spread j 0 m.slots)
    (machine_rows spread (j + 1) ms)
    ∙ ap₂ (λ (a b : List Span). a ++ b)
    (ap₂ (λ (s : Span) (l : List Span). s ∷ l)
    (ap₂ (λ (b : ArcId) (n : NodeId). let s : Span = record
    { arc = b; tail = name Hub; head = n; cap = m.slots; cost = 0 } in s) (sym own.1) (sym own.0))
    (ap (λ (n : ℕ). map (shown name id) (slot_rows spread j 0 n)) (sym z.0) ∙ slots-shown name id spread j 0 p.node
    p.slots own.0 own.2))
    (machines-shown name id spread (j + 1) d ms ps z.1 (at-later (AreMachineIds name id) d j p ps h))

abbrev AreJobIds : (Node → NodeId) → (Key → ArcId) → ℕ → JobParts → Type 0
AreJobIds name id k p = (p.node ≡ name (JobAt k)) × (p.exit ≡ id (Exit k))

jobs-shown : (name : Node → NodeId) (id : Key → ArcId) (limit k : ℕ) (d : JobParts) (js : List Job)
    (ps : List JobParts) → length ps ≡ length js
    → ((i : ℕ) → i < length ps → AreJobIds name id (k + i) (get_or ps i d))
    → map (shown name id) (job_rows limit k js) ≡ flat_zip (job_spans (name Sink) limit) js ps
jobs-shown name id limit k d [] ps e h = refl
jobs-shown name id limit k d (j ∷ js) [] e h = absurd (omega arith)
jobs-shown name id limit k d (j ∷ js) (p ∷ ps) e h =
    let own : AreJobIds name id k p = at-first (AreJobIds name id) d k p ps h in
    ap₂ (λ (s : Span) (l : List Span). s ∷ l)
    (ap₂ (λ (b : ArcId) (n : NodeId). let s : Span = record
    { arc = b; tail = n; head = name Sink; cap = limit; cost = 0 } in s) (sym own.1) (sym own.0))
    (jobs-shown name id limit (k + 1) d js ps (omega arith) (at-later (AreJobIds name id) d k p ps h))

preferred-shown : (name : Node → NodeId) (id : Key → ArcId) (names : List (List ℕ)) (cost i k : ℕ) (node : NodeId)
    (preferred : List (List ℕ)) (arcs : List ArcId) → length arcs ≡ length preferred → node ≡ name (TaskAt i)
    → ((j : ℕ) → j < length arcs → get_or arcs j no_arc ≡ id (Prefer i (k + j)))
    → map (shown name id) (preferred_rows names cost i k preferred)
    ≡ preferred_spans node cost (map (λ m. name (MachineAt (position_or_len (bytes_eq m) names))) preferred) arcs
preferred-shown name id names cost i k node [] arcs e n h = refl
preferred-shown name id names cost i k node (m ∷ preferred) [] e n h = absurd (omega arith)
preferred-shown name id names cost i k node (m ∷ preferred) (a ∷ arcs) e n h =
    let head : NodeId = name (MachineAt (position_or_len (bytes_eq m) names)) in
    let P : ℕ → ArcId → Type 0 = λ (q : ℕ) (b : ArcId). b ≡ id (Prefer i q) in
    ap₂ (λ (s : Span) (l : List Span). s ∷ l)
    (ap₂ (λ (b : ArcId) (t : NodeId). let s : Span = record
    { arc = b; tail = t; head = head; cap = 1; cost = cost } in s) (sym (at-first P no_arc k a arcs h))
    (sym n))
    (preferred-shown name id names cost i (k + 1) node preferred arcs (omega arith) n (at-later P no_arc k a arcs h))

-- the parts of a task carry the network's ids
record AreTaskIds (name : Node → NodeId) (id : Key → ArcId) (i : ℕ) (p : TaskParts) : Type 0 where
  node : p.node ≡ name (TaskAt i)
  wide : p.arcs.wide ≡ id (Wide i)
  stay : p.arcs.stay ≡ id (Stay i)
  wait : p.arcs.wait ≡ id (Wait i)
  preferred : (k : ℕ) → k < length p.arcs.preferred → get_or p.arcs.preferred k no_arc ≡ id (Prefer i k)

-- where a task's arcs lead, by the network's ids
abbrev target_by : (Node → NodeId) → TenantRows → Task → Target
target_by name rows t =
    record {
      home = name (head_of (machine_names rows) t.machine);
      owner = name (JobAt (position_or_len (bytes_eq t.job) (job_names rows)));
      preferred = map (λ m. name (MachineAt (position_or_len (bytes_eq m) (machine_names rows)))) t.preferred;
      delay = weight_under rows.jobs t.job + t.waited;
    }

one-shown : (name : Node → NodeId) (id : Key → ArcId) (rows : TenantRows) (target : Task → Target) (i : ℕ) (x : Task)
    (p : TaskParts) → length p.arcs.preferred ≡ length x.preferred → target x ≡ target_by name rows x
    → AreTaskIds name id i p
    → map (shown name id) (one_task_rows rows i x)
    ≡ task_spans (name Hub) rows.limits.churn rows.limits.remote target x p
one-shown name id rows target i x p e t own =
    let leaving : ℕ = cond (is_some x.machine) rows.limits.churn 0 in
    let made : TaskParts → Target → List Span → List Span = λ (q : TaskParts) (to : Target) (near : List Span).
    wide_arc (name Hub) (leaving + away rows.limits.remote x.preferred) q
    ∷ stay_arc to.home (is_some x.machine) q
    ∷ wait_arc to.owner (to.delay + leaving) q ∷ near in
    let near : Target → List Span = λ (to : Target). preferred_spans p.node leaving to.preferred p.arcs.preferred in
    let ids : TaskParts = record p {
      node = name (TaskAt i);
      arcs = record p.arcs { wide = id (Wide i); stay = id (Stay i); wait = id (Wait i) };
    } in
    let same : p ≡ ids =
    ap₂ (λ (n : NodeId) (a : ArcId). let q : TaskParts = record p { node = n; arcs = record p.arcs { wide = a } } in q)
    own.node own.wide
    ∙ ap₂ (λ (a b : ArcId). let q : TaskParts = record ids { arcs = record ids.arcs { stay = a; wait = b } } in q)
    own.stay own.wait in
    let to : Target = target_by name rows x in
    ap (made ids to)
    (preferred-shown name id (machine_names rows) leaving i 0 p.node x.preferred p.arcs.preferred e own.node
    (λ j below. own.preferred j below ∙ ap (λ (q : ℕ). id (Prefer i q)) (let z : j ≡ 0 + j = omega arith in z)))
    ∙ ap (λ (q : TaskParts). made q to (near to)) (sym same)
    ∙ ap (λ (t : Target). made p t (near t)) (sym t)

tasks-shown : (name : Node → NodeId) (id : Key → ArcId) (rows : TenantRows) (target : Task → Target) (i : ℕ)
    (d : TaskParts) (ts : List Task) (ps : List TaskParts)
    → AllZip (λ task parts. length parts.arcs.preferred ≡ length task.preferred) ts ps
    → ((t : Task) → target t ≡ target_by name rows t)
    → ((k : ℕ) → k < length ps → AreTaskIds name id (i + k) (get_or ps k d))
    → map (shown name id) (task_rows rows i ts)
    ≡ flat_zip (task_spans (name Hub) rows.limits.churn rows.limits.remote target) ts ps
tasks-shown name id rows target i d [] ps e t h = refl
tasks-shown name id rows target i d (x ∷ ts) [] e t h = absurd e
tasks-shown name id rows target i d (x ∷ ts) (p ∷ ps) e t h =
    map-append (shown name id) (one_task_rows rows i x) (task_rows rows (i + 1) ts)
    ∙ ap₂ (λ (a b : List Span). a ++ b) (one-shown name id rows target i x p e.0 (t x)
    (at-first (AreTaskIds name id) d i p ps h))
    (tasks-shown name id rows target (i + 1) d ts ps e.1 t (at-later (AreTaskIds name id) d i p ps h))

home-named : (g : Graph) (home : Option (List ℕ)) → length g.machines ≡ length g.rows.machines
    → home_node (machine_names g.rows) (machine_nodes g) g.hub home ≡ node_id g (head_of (machine_names g.rows) home)
home-named g None e = refl
home-named g (Some m) e =
    node_under-at (machine_names g.rows) (machine_nodes g) g.hub m (machines-paired g e)

-- the graph's arcs are the network of its rows under its ids
pub graph-shown : (g : Graph) → Mirrors g → map (shown (node_id g) (arc_id g)) (rows_network g.rows) ≡ graph_spans g
graph-shown g is =
    let name : Node → NodeId = node_id g in
    let id : Key → ArcId = arc_id g in
    let show : Arc Node Key → Span = shown name id in
    let none : JobParts = record { node = g.hub; exit = no_arc } in
    let nothing : TaskParts = record { node = g.hub; arcs = no_arcs } in
    let at : (i : ℕ) → i ≡ 0 + i = λ i. omega arith in
    let machines : map show (machine_rows g.rows.limits.spread 0 g.rows.machines) ≡ flat_zip
    (machine_spans g.hub g.sink g.rows.limits.spread) g.rows.machines g.machines =
    machines-shown name id g.rows.limits.spread 0 (no_machine g) g.rows.machines g.machines is.slots
    (λ i below. (
      sym (get_or-map (λ (p : MachineParts). p.node) g.machines i (no_machine g) g.hub below) ∙ ap
          (λ (n : ℕ). name (MachineAt n)) (at i),
      ap (λ (n : ℕ). id (Through n)) (at i),
      λ k b. ap₂ (λ (n q : ℕ). id (Slot n q)) (at i) (at k),
    )) in
    let jobs : map show (job_rows g.rows.limits.nodes 0 g.rows.jobs) ≡ flat_zip (job_spans g.sink g.rows.limits.nodes)
    g.rows.jobs g.jobs =
    jobs-shown name id g.rows.limits.nodes 0 none g.rows.jobs g.jobs is.jobs
    (λ i below. (
      sym (get_or-map (λ (p : JobParts). p.node) g.jobs i none g.hub below) ∙ ap (λ (n : ℕ). name (JobAt n)) (at i),
      ap (λ (n : ℕ). id (Exit n)) (at i),
    )) in
    let targets : (t : Task) → target_of g t ≡ target_by name g.rows t =
    λ t. ap₂ (λ (a b : NodeId). let x : Target = record (target_of g t) { home = a; owner = b } in x)
    (home-named g t.machine is.machines)
    (node_under-at (job_names g.rows) (job_nodes g) g.hub t.job (jobs-paired g is.jobs))
    ∙ ap (λ (l : List NodeId). let x : Target = record (target_by name g.rows t) { preferred = l } in x)
    (map-all (node_under (machine_names g.rows) (machine_nodes g) g.hub)
    (λ m. name (MachineAt (position_or_len (bytes_eq m) (machine_names g.rows)))) t.preferred
    (λ k d _. node_under-at (machine_names g.rows) (machine_nodes g) g.hub (get_or t.preferred k d)
    (machines-paired g is.machines))) in
    let tasks : map show (task_rows g.rows 0 g.rows.tasks) ≡ flat_zip
    (task_spans g.hub g.rows.limits.churn g.rows.limits.remote (target_of g)) g.rows.tasks g.tasks =
    tasks-shown name id g.rows (target_of g) 0 nothing g.rows.tasks g.tasks is.preferred targets
    (λ i below. record {
      node = sym (get_or-map (λ (p : TaskParts). p.node) g.tasks i nothing g.hub below) ∙ ap
          (λ (n : ℕ). name (TaskAt n)) (at i);
      wide = ap (λ (n : ℕ). id (Wide n)) (at i);
      stay = ap (λ (n : ℕ). id (Stay n)) (at i);
      wait = ap (λ (n : ℕ). id (Wait n)) (at i);
      preferred = λ k b. ap (λ (n : ℕ). id (Prefer n k)) (at i);
    }) in
    map-append show (machine_rows g.rows.limits.spread 0 g.rows.machines)
    (job_rows g.rows.limits.nodes 0 g.rows.jobs ++ task_rows g.rows 0 g.rows.tasks)
    ∙ ap₂ (λ (a b : List Span). a ++ b) machines
    (map-append show (job_rows g.rows.limits.nodes 0 g.rows.jobs) (task_rows g.rows 0 g.rows.tasks) ∙ ap₂
    (λ (a b : List Span). a ++ b) jobs tasks)
