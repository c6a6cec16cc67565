-- What a graph is once a row was added to it.
use Rattle.std.proofs.Common.{◌≡◌, ℕ, zero, suc, replicate, get_or, bytes_eq, ◌+◌, ◌^◌, ◌<◌, ◌≤◌, true, false, Option}
use Rattle.std.proofs.Common.{Some, None, IfSome, List, [], ◌∷◌, ◌++◌, map, length, arith, refl, sym, ap, ap₂, ◌∙◌}
use Rattle.std.proofs.Common.{subst, length-append}
use Rattle.std.specs.List.{All, sum_by, position, slice_get}
use Rattle.std.specs.Prelude.{slice_index_or}
use Rattle.std.proofs.lemmas.List.{map-append, length-replicate, get_or-map, length-map}
use Rattle.std.proofs.lemmas.Option.{get_or_from_slice_get}
use Rattle.std.proofs.lemmas.List.Sums.{sum_by_push, sum_by-append, sum_by-cons}
use Rattle.indexmap.proofs.SetLemmas.{AllZip-push}
use Rattle.firm_arena.specs.Arena.{capacity_of, entries_from}
use Rattle.firm_arena.specs.declared.Id.{Id}
use Rattle.firm_rules.specs.Limits.{TenantLimits}
use Rattle.firm_net.specs.Laws.{nodes-sum, spans-sum, node_weight, span_weight}
use Rattle.firm_graph.proofs.NetEdits.{edit-then, edit-same}
use Rattle.firm_graph.proofs.Drops.{wide_arc, stay_arc, wait_arc}
use Rattle.firm_graph.proofs.Said.{grown}
use Rattle.firm_net.specs.Net.{Net, IsNode, added_of, node_count, arc_count, empty_net}
use Rattle.firm_graph.proofs.Found.{job-there}
use Rattle.firm_net.specs.declared.row.NodeId.{NodeId}
use Rattle.firm_rules.specs.Book.{TenantRows, opening_rows, machine_names, job_names, with_machine, with_job, new_task}
use Rattle.firm_rules.specs.Book.{with_task}
use Rattle.firm_rules.specs.Names.{is_among}
use Rattle.firm_rules.specs.ArenaUse.{arena_nodes, arena_arcs}
use Rattle.firm_rules.specs.Sound.{AreSound}
use Rattle.firm_rules.specs.declared.book.Machine.{Machine}
use Rattle.firm_rules.specs.declared.book.Job.{Job}
use Rattle.firm_rules.specs.declared.book.Task.{Task}
use Rattle.firm_net.specs.Edits.{Span, nodes_of, spans_of, IsEdit}
use Rattle.firm_graph.specs.Parts.{MachineParts}
use Rattle.firm_graph.specs.declared.ids.JobParts.{JobParts}
use Rattle.firm_graph.specs.declared.ids.TaskParts.{TaskParts}
use Rattle.firm_graph.specs.Graph.{Graph, Mirrors, machine_spans, slot_spans, job_spans, task_spans, Target, target_of}
use Rattle.firm_graph.specs.Graph.{preferred_spans, home_node, node_under, weight_under, machine_nodes, job_nodes}
use Rattle.firm_graph.specs.Network.{away}
use Rattle.firm_graph.proofs.Totals.{machines-paired, jobs-paired, preferred-count, slots-count, nodes-counted}
use Rattle.firm_graph.proofs.Totals.{flat_sum-push, nodes-total, spans-total, tasks-same}
use Rattle.firm_graph.proofs.Counts.{arcs-counted}
use Rattle.firm_graph.proofs.Lookups.{map-all, position-is, node_under-at, weight_under-at, node_under-push}
use Rattle.firm_graph.proofs.Lookups.{weight_under-push}

-- the graph with a job added last
abbrev pub job_added : Graph → Net → JobParts → List ℕ → ℕ → Graph
job_added g net parts name weight =
    record g { rows = with_job g.rows name weight; net = net; jobs = g.jobs ++ parts ∷ []; asked = g.asked + 1 }

job-target : (g : Graph) (net : Net) (parts : JobParts) (name : List ℕ) (weight : ℕ) (task : Task)
    → length g.jobs ≡ length g.rows.jobs
    → is_among (job_names g.rows) task.job ≡ true
    → target_of (job_added g net parts name weight) task ≡ target_of g task
job-target g net parts name weight task e there =
    let job : Job = record { name = name; weight = weight } in
    let owner : node_under (job_names (with_job g.rows name weight))
    (map (λ (p : JobParts). p.node) (g.jobs ++ parts ∷ [])) g.hub task.job
    ≡ node_under (job_names g.rows) (job_nodes g) g.hub task.job =
    ap₂ (λ (ns : List (List ℕ)) (xs : List NodeId). node_under ns xs g.hub task.job)
    (map-append (λ (j : Job). j.name) g.rows.jobs (job ∷ []))
    (map-append (λ (p : JobParts). p.node) g.jobs (parts ∷ []))
    ∙ node_under-push (job_names g.rows) (job_nodes g) name parts.node g.hub task.job (jobs-paired g e) there in
    let weights : weight_under (g.rows.jobs ++ job ∷ []) task.job ≡ weight_under g.rows.jobs task.job =
    weight_under-push g.rows.jobs job task.job there in
    ap₂ (λ (n : NodeId) (w : ℕ). let t : Target = record (target_of g task) { owner = n; delay = w + task.waited } in t)
    owner weights

pub job-added : (g : Graph) (net after : Net) (parts : JobParts) (name : List ℕ) (weight : ℕ) → Mirrors g
    → AreSound g.rows
    → IsEdit g.net net [] (parts.node ∷ []) [] []
    → IsEdit net after [] [] [] (record {
      arc = parts.exit;
      tail = parts.node;
      head = g.sink;
      cap =
          g.rows.limits.nodes;
      cost = 0;
    } ∷ [])
    → g.asked < 2 ^ 40 → Mirrors (job_added g after parts name weight)
job-added g net after parts name weight is sound node arc room =
    let new : Graph = job_added g after parts name weight in
    let job : Job = record { name = name; weight = weight } in
    let exit : Span = record
    { arc = parts.exit; tail = parts.node; head = g.sink; cap = g.rows.limits.nodes; cost = 0 } in
    grown g new parts.node (exit ∷ []) is (edit-then g.net net after (parts.node ∷ []) [] (exit ∷ []) node arc)
    (λ w. omega (arith, nodes-total w g, nodes-total w new, sum_by_push {X = JobParts}))
    (λ w. omega (
      arith,
      spans-total w g,
      spans-total w new,
      flat_sum-push w (job_spans g.sink g.rows.limits.nodes) g.rows.jobs g.jobs job parts is.jobs,
      tasks-same w g (target_of new) (target_of g)
          (λ k d below. job-target g after parts name weight (slice_index_or g.rows.tasks k d) is.jobs
          (sound.jobs_there k d below)),
    ))
    refl (omega arith) refl room
    (record {
      slots = is.slots;
      preferred = is.preferred;
      machines = is.machines;
      jobs = omega (arith, is.jobs, length-append g.jobs (parts ∷ []), length-append g.rows.jobs (job ∷ []));
      tasks = is.tasks;
    })

-- what is free in the rows is free in the net
pub room-left : (i now : Graph) (n a : ℕ) → i ≡ now → Mirrors i
    → (arena_nodes now.rows + n ≤ now.rows.limits.nodes) × (arena_arcs now.rows + a ≤ now.rows.limits.arcs)
    → (node_count i.net + n ≤ capacity_of i.net.nodes) × (arc_count i.net + a ≤ capacity_of i.net.arcs)
room-left i now n a e is fits =
    let P : Graph → Type 0 = λ (g : Graph). (arena_nodes g.rows + n ≤ g.rows.limits.nodes) ×
    (arena_arcs g.rows + a ≤ g.rows.limits.arcs) in
    let here = subst P (sym e) fits in
    (omega (arith, nodes-counted i is, is.node_room, here.0), omega (arith, arcs-counted i is, is.arc_room, here.1))

-- the graph with a waiting task added last
abbrev pub task_added : Graph → Net → TaskParts → List ℕ → List ℕ → List (List ℕ) → Graph
task_added g net parts job name preferred =
    record g
    { rows = with_task g.rows job name preferred; net = net; tasks = g.tasks ++ parts ∷ []; asked = g.asked + 1 }

-- the nodes of the machines of some names
abbrev pub nodes_under : Graph → List (List ℕ) → List NodeId
nodes_under g names = map (node_under (machine_names g.rows) (machine_nodes g) g.hub) names

pub task-added : (g : Graph) (n1 n2 n3 n4 n5 : Net) (parts : TaskParts) (job name : List ℕ)
    (preferred : List (List ℕ)) (owner : NodeId) (far weight : ℕ)
    → Mirrors g
    → IsEdit g.net n1 [] (parts.node ∷ []) [] []
    → IsEdit n1 n2 [] [] [] (preferred_spans parts.node 0 (nodes_under g preferred) parts.arcs.preferred)
    → IsEdit n2 n3 [] [] [] (wait_arc owner weight parts ∷ [])
    → IsEdit n3 n4 [] [] [] (stay_arc g.hub false parts ∷ [])
    → IsEdit n4 n5 [] [] [] (wide_arc g.hub far parts ∷ [])
    → owner ≡ node_under (job_names g.rows) (job_nodes g) g.hub job → weight ≡ weight_under g.rows.jobs job
    → far ≡ away g.rows.limits.remote preferred → length parts.arcs.preferred ≡ length preferred
    → length preferred ≤ 4
    → g.asked < 2 ^ 40 → Mirrors (task_added g n5 parts job name preferred)
task-added g n1 n2 n3 n4 n5 parts job name preferred owner far weight is node near wait stay wide owner_is weight_is
    far_is paired few room =
    let new : Graph = task_added g n5 parts job name preferred in
    let task : Task = new_task job name preferred in
    let cost : weight ≡ weight_under g.rows.jobs job + 0 + 0 = omega (arith, weight_is) in
    let way : far ≡ 0 + away g.rows.limits.remote preferred = omega (arith, far_is) in
    let s1 : Span = wide_arc g.hub far parts in
    let s2 : Span = stay_arc g.hub false parts in
    let s3 : Span = wait_arc owner weight parts in
    let ss : List Span = preferred_spans parts.node 0 (nodes_under g preferred) parts.arcs.preferred in
    let t1 : Span = wide_arc g.hub (0 + away g.rows.limits.remote preferred) parts in
    let t3 : Span = wait_arc (node_under (job_names g.rows) (job_nodes g) g.hub job)
    (weight_under g.rows.jobs job + 0 + 0) parts in
    let e1 : s1 ≡ t1 = ap (λ (c : ℕ). wide_arc g.hub c parts) way in
    let e3 : s3 ≡ t3 = ap₂ (λ (n : NodeId) (c : ℕ). wait_arc n c parts) owner_is cost in
    let to_near = edit-then g.net n1 n2 (parts.node ∷ []) [] ss node near in
    let to_wait = edit-then g.net n2 n3 (parts.node ∷ []) ss (s3 ∷ []) to_near wait in
    let to_stay = edit-then g.net n3 n4 (parts.node ∷ []) (ss ++ s3 ∷ []) (s2 ∷ []) to_wait stay in
    let linked : List Span = (ss ++ s3 ∷ []) ++ s2 ∷ [] in
    let to_wide = edit-then g.net n4 n5 (parts.node ∷ []) linked (s1 ∷ []) to_stay wide in
    let in_order : IsEdit g.net n5 [] (parts.node ∷ []) [] (s1 ∷ s2 ∷ s3 ∷ ss) =
    edit-same g.net n5 (parts.node ∷ []) (linked ++ s1 ∷ []) (s1 ∷ s2 ∷ s3 ∷ ss) to_wide
    (λ w. omega (arith, sum_by-append {X = Span}, sum_by-cons {X = Span})) (omega (arith, length-append {A = Span})) in
    let E : Span → Span → Type 0 = λ (a b : Span). IsEdit g.net n5 [] (parts.node ∷ []) [] (a ∷ s2 ∷ b ∷ ss) in
    let whole : IsEdit g.net n5 [] (parts.node ∷ []) [] (t1 ∷ s2 ∷ t3 ∷ ss) =
    subst (λ (s : Span). E t1 s) e3 (subst (λ (s : Span). E s s3) e1 in_order) in
    let heads : length (nodes_under g preferred) ≡ length preferred =
    length-map preferred (node_under (machine_names g.rows) (machine_nodes g) g.hub) in
    let counted : length ss ≡ length (nodes_under g preferred) = preferred-count parts.node 0 (nodes_under g preferred)
    parts.arcs.preferred (paired ∙ sym heads) in
    grown g new parts.node (t1 ∷ s2 ∷ t3 ∷ ss) is whole
    (λ w. omega (arith, nodes-total w g, nodes-total w new, sum_by_push {X = TaskParts}))
    (λ w. omega (
      arith,
      spans-total w g,
      spans-total w new,
      flat_sum-push w (task_spans g.hub g.rows.limits.churn g.rows.limits.remote (target_of g)) g.rows.tasks g.tasks
          task parts is.tasks,
    ))
    refl (omega (arith, counted, heads, few)) refl room
    (record {
      slots = is.slots;
      preferred = AllZip-push (λ (t : Task) (p : TaskParts). length p.arcs.preferred ≡ length t.preferred) g.rows.tasks
          g.tasks task parts is.preferred paired;
      machines = is.machines;
      jobs = is.jobs;
      tasks = omega (arith, is.tasks, length-append g.tasks (parts ∷ []), length-append g.rows.tasks (task ∷ []));
    })

-- the graph with a machine added last
abbrev pub machine_added : Graph → Net → MachineParts → List ℕ → ℕ → Graph
machine_added g net parts name slots =
    record g
    { rows = with_machine g.rows name slots; net = net; machines = g.machines ++ parts ∷ []; asked = g.asked + 1 }

home-push : (g : Graph) (parts : MachineParts) (name : List ℕ) (slots : ℕ) (home : Option (List ℕ))
    → length g.machines ≡ length g.rows.machines
    → IfSome home (λ m. is_among (machine_names g.rows) m ≡ true)
    → home_node (machine_names (with_machine g.rows name slots))
    (map (λ (p : MachineParts). p.node) (g.machines ++ parts ∷ [])) g.hub home
    ≡ home_node (machine_names g.rows) (machine_nodes g) g.hub home
home-push g parts name slots None e there = refl
home-push g parts name slots (Some m) e there =
    let machine : Machine = record { name = name; slots = slots } in
    ap₂ (λ (ns : List (List ℕ)) (xs : List NodeId). node_under ns xs g.hub m)
    (map-append (λ (j : Machine). j.name) g.rows.machines (machine ∷ []))
    (map-append (λ (p : MachineParts). p.node) g.machines (parts ∷ []))
    ∙ node_under-push (machine_names g.rows) (machine_nodes g) name parts.node g.hub m (machines-paired g e) there

-- machines that are there are found as before
preferred-push : (g : Graph) (parts : MachineParts) (name : List ℕ) (slots : ℕ) (preferred : List (List ℕ))
    → length g.machines ≡ length g.rows.machines
    → All (λ m. is_among (machine_names g.rows) m ≡ true) preferred
    → map (node_under (machine_names (with_machine g.rows name slots))
    (map (λ (p : MachineParts). p.node) (g.machines ++ parts ∷ [])) g.hub) preferred
    ≡ nodes_under g preferred
preferred-push g parts name slots preferred e there =
    map-all (node_under (machine_names (with_machine g.rows name slots))
    (map (λ (p : MachineParts). p.node) (g.machines ++ parts ∷ [])) g.hub)
    (node_under (machine_names g.rows) (machine_nodes g) g.hub) preferred
    (λ k d below. home-push g parts name slots (Some (get_or preferred k d)) e (there k d below))

machine-target : (g : Graph) (net : Net) (parts : MachineParts) (name : List ℕ) (slots : ℕ) (task : Task)
    → length g.machines ≡ length g.rows.machines
    → IfSome task.machine (λ m. is_among (machine_names g.rows) m ≡ true)
    → All (λ m. is_among (machine_names g.rows) m ≡ true) task.preferred
    → target_of (machine_added g net parts name slots) task ≡ target_of g task
machine-target g net parts name slots task e there preferred =
    ap₂ (λ (n : NodeId) (l : List NodeId). let t : Target = record (target_of g task) { home = n; preferred = l } in t)
    (home-push g parts name slots task.machine e there)
    (preferred-push g parts name slots task.preferred e preferred)

pub machine-added : (g : Graph) (n1 n2 n3 : Net) (parts : MachineParts) (name : List ℕ) (slots : ℕ) → Mirrors g
    → AreSound g.rows
    → IsEdit g.net n1 [] (parts.node ∷ []) [] []
    → IsEdit n1 n2 [] [] [] (record { arc = parts.through; tail = g.hub; head = parts.node; cap = slots; cost = 0 } ∷
    [])
    → IsEdit n2 n3 [] [] [] (slot_spans parts.node g.sink g.rows.limits.spread 0 parts.slots)
    → length parts.slots ≡ slots → slots ≤ 64
    → g.asked < 2 ^ 40 → Mirrors (machine_added g n3 parts name slots)
machine-added g n1 n2 n3 parts name slots is sound node through rest slots_is few room =
    let new : Graph = machine_added g n3 parts name slots in
    let machine : Machine = record { name = name; slots = slots } in
    let s1 : Span = record { arc = parts.through; tail = g.hub; head = parts.node; cap = slots; cost = 0 } in
    let later : List Span = slot_spans parts.node g.sink g.rows.limits.spread 0 parts.slots in
    let counted : length later ≡ length parts.slots = slots-count parts.node g.sink g.rows.limits.spread 0 parts.slots
    in
    let to_through = edit-then g.net n1 n2 (parts.node ∷ []) [] (s1 ∷ []) node through in
    let whole = edit-then g.net n2 n3 (parts.node ∷ []) (s1 ∷ []) later to_through rest in
    grown g new parts.node (s1 ∷ later) is whole
    (λ w. omega (arith, nodes-total w g, nodes-total w new, sum_by_push {X = MachineParts}))
    (λ w. omega (
      arith,
      spans-total w g,
      spans-total w new,
      flat_sum-push w (machine_spans g.hub g.sink g.rows.limits.spread) g.rows.machines g.machines machine parts
          is.machines,
      tasks-same w g (target_of new) (target_of g)
          (λ k d below. machine-target g n3 parts name slots (slice_index_or g.rows.tasks k d) is.machines
          (sound.machines_there k d below) (sound.preferred_there k d below)),
    ))
    refl (omega (arith, counted, slots_is, few)) refl room
    (record {
      slots = AllZip-push (λ (m : Machine) (p : MachineParts). length p.slots ≡ m.slots) g.rows.machines g.machines
          machine parts is.slots slots_is;
      preferred = is.preferred;
      machines = omega (arith, is.machines, length-append {A = MachineParts}, length-append {A = Machine});
      jobs = is.jobs;
      tasks = is.tasks;
    })

-- a net that has nothing
none-held : {X : Type 0} (f : Id × X → ℕ) (p n : ℕ) → sum_by f (entries_from {X = X} p (replicate n None)) ≡ 0
none-held f p zero = refl
none-held f p (suc n) = none-held f (p + 1) n

abbrev pub opened_graph : Net → NodeId → NodeId → TenantLimits → Graph
opened_graph net hub sink limits =
    record {
      rows = opening_rows limits;
      net = net;
      hub = hub;
      sink = sink;
      machines = [];
      jobs = [];
      tasks = [];
      asked = 0;
    }

pub opened : (n0 n1 n2 : Net) (hub sink : NodeId) (limits : TenantLimits) → n0 ≡ empty_net limits.nodes limits.arcs
    → IsEdit n0 n1 [] (hub ∷ []) [] [] → IsEdit n1 n2 [] (sink ∷ []) [] [] → Mirrors (opened_graph n2 hub sink limits)
opened n0 n1 n2 hub sink limits empty first second =
    record {
      net = second.net;
      nodes = record {
        weighs = λ w. omega (
          arith,
          second.nodes w,
          first.nodes w,
          sum_by-cons {X = NodeId},
          ap (λ (n : Net). sum_by w (nodes_of n)) empty,
          nodes-sum w (empty_net limits.nodes limits.arcs),
          none-held (node_weight w) 0 limits.nodes,
        );
      };
      spans = record {
        weighs = λ w. omega (
          arith,
          second.spans w,
          first.spans w,
          ap (λ (n : Net). sum_by w (spans_of n)) empty,
          spans-sum w (empty_net limits.nodes limits.arcs),
          none-held (span_weight w) 0 limits.arcs,
        );
      };
      slots = tt;
      preferred = tt;
      machines = refl;
      jobs = refl;
      tasks = refl;
      node_room = second.node_room ∙ first.node_room ∙ ap (λ (n : Net). capacity_of n.nodes) empty ∙ length-replicate
          limits.nodes None;
      arc_room = second.arc_room ∙ first.arc_room ∙ ap (λ (n : Net). capacity_of n.arcs) empty ∙ length-replicate
          limits.arcs None;
      added = omega (arith, second.added, first.added, ap added_of empty);
      asked = omega arith;
    }

-- the node of a name's own parts, read at the name's place
pub node-read : {A : Type 0} (node : A → NodeId) (names : List (List ℕ)) (parts : List A) (other : NodeId)
    (name : List ℕ) (place : ℕ) → position (bytes_eq name) names ≡ Some place → length parts ≡ length names → (d : A)
    → node (get_or parts place d) ≡ node_under names (map node parts) other name
node-read node names parts other name place e lengths d =
    let at = position-is (bytes_eq name) names place e in
    let same : length (map node parts) ≡ length names = length-map parts node ∙ lengths in
    let below : place < length parts = omega (arith, at.1, lengths) in
    sym (get_or-map node parts place d other below)
    ∙ sym (ap (λ (k : ℕ). get_or (map node parts) k other) at.0)
    ∙ sym (node_under-at names (map node parts) other name same)

-- the owner of a job's tasks, and its weight, as the code reads them
pub owner-read : (g : Graph) (name : List ℕ) (place : ℕ) → position (bytes_eq name) (job_names g.rows) ≡ Some place
    → length g.jobs ≡ length g.rows.jobs
    → (d : JobParts) → (get_or g.jobs place d).node ≡ node_under (job_names g.rows) (job_nodes g) g.hub name
owner-read g name place e lengths d =
    node-read (λ (p : JobParts). p.node) (job_names g.rows) g.jobs g.hub name place e
    (lengths ∙ sym (length-map g.rows.jobs (λ (j : Job). j.name))) d

pub weight-read : (rows : TenantRows) (name : List ℕ) (place : ℕ) (job : Job)
    → position (bytes_eq name) (job_names rows) ≡ Some place
    → Some job ≡ slice_get rows.jobs place → job.weight ≡ weight_under rows.jobs name
weight-read rows name place job e there =
    let at = position-is (bytes_eq name) (job_names rows) place e in
    let below : place < length rows.jobs = omega (arith, at.1, length-map rows.jobs (λ (j : Job). j.name)) in
    let read : get_or rows.jobs place job ≡ job = get_or_from_slice_get rows.jobs place job job (sym there) in
    sym (ap (λ (j : Job). j.weight) read)
    ∙ sym (get_or-map (λ (j : Job). j.weight) rows.jobs place job 0 below)
    ∙ sym (ap (λ (k : ℕ). get_or (map (λ (j : Job). j.weight) rows.jobs) k 0) at.0)
    ∙ sym (weight_under-at rows.jobs name)

-- the node of the job at a position is there
pub job-read : (g : Graph) (place : ℕ) (read : JobParts) → Mirrors g → (name : List ℕ)
    → position (bytes_eq name) (job_names g.rows) ≡ Some place
    → read ≡ get_or g.jobs place read → IsNode g.net read.node
job-read g place read is name e at =
    let there = position-is (bytes_eq name) (job_names g.rows) place e in
    let below : place < length g.jobs = omega (arith, there.1, is.jobs, length-map g.rows.jobs (λ (j : Job). j.name)) in
    let P : JobParts → Type 0 = λ (p : JobParts). IsNode g.net p.node in
    subst P (sym at) (job-there g place read is below)
