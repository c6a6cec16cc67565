-- What a graph is once it is said anew where a task runs.
use Rattle.std.proofs.Common.{◌≡◌, ◌≢◌, ℕ, zero, suc, ◌+◌, ◌<◌, ◌≤◌, true, cond, is_some, Option, Some, None, List, []}
use Rattle.std.proofs.Common.{◌∷◌, ◌++◌, length, get_or, set, bytes_eq, arith, refl, sym, ap, ap₂, ◌∙◌, subst}
use Rattle.std.specs.List.{sum_by, AllZip, Contains, remove}
use Rattle.std.proofs.lemmas.Bool.{cond_both}
use Rattle.std.proofs.lemmas.List.{set-get_or}
use Rattle.std.proofs.lemmas.List.Sums.{sum_by-cons, sum_by-append, sum_by-remove}
use Rattle.std.proofs.lemmas.List.Elements.{Contains-append_left}
use Rattle.firm_net.specs.Row.{Row}
use Rattle.firm_net.specs.Net.{Net, IsNode, row_at, added_of}
use Rattle.firm_net.specs.declared.row.NodeId.{NodeId}
use Rattle.firm_net.specs.declared.row.ArcId.{ArcId}
use Rattle.firm_rules.specs.Book.{machine_names}
use Rattle.firm_graph.specs.inner.Steps.{update_at, placed, with_task_at, no_task, Holds}
use Rattle.firm_rules.specs.declared.book.Task.{Task}
use Rattle.firm_net.specs.Edits.{Span, span_of, nodes_of, AsOften, IsEdit}
use Rattle.firm_graph.specs.Parts.{MachineParts}
use Rattle.firm_graph.specs.declared.ids.TaskParts.{TaskParts}
use Rattle.firm_graph.specs.Graph.{Graph, Mirrors, flat_zip, task_spans, target_of, home_node, node_under, weight_under}
use Rattle.firm_graph.specs.Graph.{preferred_spans, graph_nodes, graph_spans, machine_nodes, job_nodes, task_nodes}
use Rattle.firm_graph.specs.Network.{away}
use Rattle.firm_net.specs.Laws.{sum-map}
use Rattle.firm_graph.proofs.Found.{ones, same_id-refl, node-there}
use Rattle.firm_graph.proofs.Totals.{nodes-total, spans-total}
use Rattle.firm_graph.proofs.Drops.{holds-row, task-start, task_dropped, task_at, wide_of, stay_of, wait_of, is_node}
use Rattle.firm_graph.proofs.Drops.{wide_arc, stay_arc, wait_arc, preferred_of, leaving_of, heads-counted}
use Rattle.firm_graph.proofs.Drops.{node-once, home-weight}

pub length-updated : {X : Type 0} (xs : List X) (place : ℕ) (f : X → X) → length (update_at xs place f) ≡ length xs
length-updated [] place f = refl
length-updated (x ∷ xs) zero f = refl
length-updated (x ∷ xs) (suc place) f = omega (arith, length-updated xs place f)

-- both elements at a place of two lists said anew
pub flat_sum-both : {A B C : Type 0} (w : C → ℕ) (f : A → B → List C) (h : A → A) (xs : List A) (ys : List B) (i : ℕ)
    (d : A) (y : B) → i < length xs → length ys ≡ length xs
    → sum_by w (flat_zip f (update_at xs i h) (set ys i y)) ≡ sum_by w (flat_zip f (remove xs i) (remove ys i)) + sum_by
    w (f (h (get_or xs i d)) y)
flat_sum-both w f h [] ys i d y below same = absurd (omega arith)
flat_sum-both w f h (x ∷ xs) [] i d y below same = absurd (omega arith)
flat_sum-both w f h (x ∷ xs) (z ∷ ys) zero d y below same =
    omega (arith, sum_by-append w (f (h x) y) (flat_zip f xs ys))
flat_sum-both w f h (x ∷ xs) (z ∷ ys) (suc i) d y below same =
    omega (
      arith,
      sum_by-append w (f x z) (flat_zip f (update_at xs i h) (set ys i y)),
      sum_by-append w (f x z) (flat_zip f (remove xs i) (remove ys i)),
      flat_sum-both w f h xs ys i d y (omega arith) (omega arith),
    )

flat_sum-update : {A B C : Type 0} (w : C → ℕ) (f : A → B → List C) (h : A → A) (xs : List A) (ys : List B) (i : ℕ)
    (d : A) (e : B) → i < length xs → length ys ≡ length xs
    → sum_by w (flat_zip f (update_at xs i h) ys) ≡ sum_by w (flat_zip f (remove xs i) (remove ys i)) + sum_by w
    (f (h (get_or xs i d)) (get_or ys i e))
flat_sum-update {A} {B} w f h xs ys i d e below same =
    ap (λ (l : List B). sum_by w (flat_zip f (update_at xs i h) l)) (sym (set-get_or ys i e))
    ∙ flat_sum-both w f h xs ys i d (get_or ys i e) below same

-- a net in which one arc was changed
pub holds-changed : (base old new : Net) (ns : List NodeId) (s t : Span) (ss : List Span) → Holds base old ns (s ∷ ss)
    → IsEdit old new [] [] (s ∷ []) (t ∷ []) → added_of new ≤ added_of old → Holds base new ns (t ∷ ss)
holds-changed base old new ns s t ss h edit none =
    record {
      net = edit.net;
      nodes = record { weighs = λ w. omega (arith, edit.nodes w, h.nodes.weighs w) };
      spans = record { weighs = λ w. omega (arith, edit.spans w, h.spans.weighs w, sum_by-cons {X = Span}) };
      node_room = edit.node_room ∙ h.node_room;
      arc_room = edit.arc_room ∙ h.arc_room;
      added = omega (arith, none, h.added);
    }

-- the same arcs in another order
pub holds-same : (base now : Net) (ns : List NodeId) (ss ts : List Span) → Holds base now ns ss
    → ((w : Span → ℕ) → sum_by w ss ≡ sum_by w ts) → Holds base now ns ts
holds-same base now ns ss ts h same =
    record {
      net = h.net;
      nodes = h.nodes;
      spans = record { weighs = λ w. h.spans.weighs w ∙ same w };
      node_room = h.node_room;
      arc_room = h.arc_room;
      added = h.added;
    }

pub holds-swap : (base now : Net) (ns : List NodeId) (s t : Span) (ss : List Span) → Holds base now ns (s ∷ t ∷ ss)
    → Holds base now ns (t ∷ s ∷ ss)
holds-swap base now ns s t ss h =
    holds-same base now ns (s ∷ t ∷ ss) (t ∷ s ∷ ss) h
    (λ w. omega (arith, sum_by-cons {X = Span}))

pub holds-back : (base now : Net) (ns : List NodeId) (s t u : Span) (ss : List Span)
    → Holds base now ns (s ∷ t ∷ u ∷ ss) → Holds base now ns (u ∷ s ∷ t ∷ ss)
holds-back base now ns s t u ss h =
    holds-same base now ns (s ∷ t ∷ u ∷ ss) (u ∷ s ∷ t ∷ ss) h
    (λ w. omega (arith, sum_by-cons {X = Span}))

-- an arc's numbers, and its head, said anew
abbrev pub rated : ℕ → ℕ → Span → Span
rated cap cost s = record s { cap = cap; cost = cost }

abbrev pub led : NodeId → Span → Span
led head s = record s { head = head }

pub holds-rated : (base old new : Net) (ns : List NodeId) (s : Span) (ss : List Span) (cap cost : ℕ)
    → Holds base old ns (s ∷ ss)
    → ((row : Row) → row_at old s.arc ≡ Some row → IsEdit old new [] [] (span_of s.arc row ∷ [])
    (record { arc = s.arc; tail = row.tail; head = row.head; cap = cap; cost = cost } ∷ []))
    → added_of new ≤ added_of old → Holds base new ns (rated cap cost s ∷ ss)
holds-rated base old new ns s ss cap cost h edits none =
    let r = holds-row base old ns s ss h in
    let P : Span → Type 0 = λ (t : Span). IsEdit old new [] [] (t ∷ [])
    (record { arc = s.arc; tail = t.tail; head = t.head; cap = cap; cost = cost } ∷ []) in
    holds-changed base old new ns s (rated cap cost s) ss h (subst P r.is (edits r.row r.there)) none

pub holds-led : (base old new : Net) (ns : List NodeId) (s : Span) (ss : List Span) (head : NodeId)
    → Holds base old ns (s ∷ ss)
    → ((row : Row) → row_at old s.arc ≡ Some row → IsEdit old new [] [] (span_of s.arc row ∷ [])
    (record { arc = s.arc; tail = row.tail; head = head; cap = row.cap; cost = row.cost } ∷ []))
    → added_of new ≤ added_of old → Holds base new ns (led head s ∷ ss)
holds-led base old new ns s ss head h edits none =
    let r = holds-row base old ns s ss h in
    let P : Span → Type 0 = λ (t : Span). IsEdit old new [] [] (t ∷ [])
    (record { arc = s.arc; tail = t.tail; head = head; cap = t.cap; cost = t.cost } ∷ []) in
    holds-changed base old new ns s (led head s) ss h (subst P r.is (edits r.row r.there)) none

-- a task's home is there, and is not the task's own node
under-listed : (names : List (List ℕ)) (nodes : List NodeId) (other : NodeId) (name : List ℕ)
    → Contains (other ∷ nodes) (node_under names nodes other name)
under-listed [] nodes other name = (0, omega arith, refl)
under-listed (n ∷ names) [] other name = (0, omega arith, refl)
under-listed (n ∷ names) (node ∷ nodes) other name =
    cond_both (bytes_eq name n) node (node_under names nodes other name) (Contains (other ∷ node ∷ nodes))
    (λ _. (1, omega arith, refl))
    (λ _. skip other node nodes (node_under names nodes other name) (under-listed names nodes other name))
  where
    skip-at : (other node : NodeId) (nodes : List NodeId) (x : NodeId) (k : ℕ) → k < length (other ∷ nodes) → get_or
        (other ∷ nodes) k x ≡ x → Contains (other ∷ node ∷ nodes) x
    skip-at other node nodes x zero below at = (0, omega arith, at)
    skip-at other node nodes x (suc k) below at = (suc (suc k), omega (arith, below), at)

    skip : (other node : NodeId) (nodes : List NodeId) (x : NodeId) → Contains (other ∷ nodes) x → Contains
        (other ∷ node ∷ nodes) x
    skip other node nodes x c = skip-at other node nodes x c.0 c.1 c.2

home-listed : (names : List (List ℕ)) (nodes : List NodeId) (hub : NodeId) (home : Option (List ℕ))
    → Contains (hub ∷ nodes) (home_node names nodes hub home)
home-listed names nodes hub None = (0, omega arith, refl)
home-listed names nodes hub (Some name) = under-listed names nodes hub name

spread-at : (hub sink : NodeId) (nodes rest : List NodeId) (x : NodeId) (k : ℕ) → k < length (hub ∷ nodes)
    → get_or (hub ∷ nodes) k x ≡ x → Contains (hub ∷ sink ∷ nodes ++ rest) x
spread-at hub sink nodes rest x zero below at = (0, omega arith, at)
spread-at hub sink nodes rest x (suc k) below at =
    let front : Contains (nodes ++ rest) x = Contains-append_left nodes rest x (k, omega (arith, below), at) in
    (suc (suc front.0), omega (arith, front.1), front.2)

pub home-there : (g : Graph) (net : Net) (home : Option (List ℕ)) → AsOften (nodes_of net) (graph_nodes g)
    → IsNode net (home_node (machine_names g.rows) (machine_nodes g) g.hub home)
home-there g net home often =
    let c = home-listed (machine_names g.rows) (machine_nodes g) g.hub home in
    let n : NodeId = home_node (machine_names g.rows) (machine_nodes g) g.hub home in
    node-there net (graph_nodes g) n often (spread-at g.hub g.sink (machine_nodes g) (job_nodes g ++ task_nodes g) n
    c.0 c.1 c.2)

pub home-other : (g : Graph) (place : ℕ) (parts : TaskParts) (home : Option (List ℕ)) → Mirrors g
    → place < length g.tasks → parts ≡ get_or g.tasks place parts
    → parts.node ≢ home_node (machine_names g.rows) (machine_nodes g) g.hub home
home-other g place parts home is below at e =
    let n : NodeId = parts.node in
    let w : NodeId → ℕ = is_node n in
    let own : w n ≡ ones true = ap ones (same_id-refl n.id) in
    let there : w (home_node (machine_names g.rows) (machine_nodes g) g.hub home) ≡ w n = ap w (sym e) in
    absurd (omega (
      arith,
      node-once g.net (graph_nodes g) n is.nodes,
      nodes-total w g,
      home-weight w (machine_names g.rows) (machine_nodes g) g.hub home,
      sum-map w (λ (p : MachineParts). p.node) g.machines,
      sum_by-remove (λ (p : TaskParts). w p.node) g.tasks place parts below,
      ap (λ (p : TaskParts). w p.node) at,
    ))

-- the graph with a task said anew
abbrev pub task_placed : Graph → Net → ℕ → Option (List ℕ) → ℕ → Graph
task_placed g net place home waited =
    record g { rows = with_task_at g.rows place home waited; net = net }

abbrev pub wide_to : Graph → ℕ → Option (List ℕ) → TaskParts → Span
wide_to g place home parts =
    wide_arc g.hub (cond (is_some home) g.rows.limits.churn 0 + away g.rows.limits.remote (task_at g place).preferred)
    parts

abbrev pub stay_to : Graph → Option (List ℕ) → TaskParts → Span
stay_to g home parts = stay_arc (home_node (machine_names g.rows) (machine_nodes g) g.hub home) (is_some home) parts

abbrev pub wait_to : Graph → ℕ → Option (List ℕ) → ℕ → TaskParts → Span
wait_to g place home waited parts =
    wait_arc (target_of g (task_at g place)).owner
    (weight_under g.rows.jobs (task_at g place).job + waited + cond (is_some home) g.rows.limits.churn 0) parts

abbrev pub preferred_to : Graph → ℕ → Option (List ℕ) → TaskParts → List Span
preferred_to g place home parts =
    preferred_spans parts.node (cond (is_some home) g.rows.limits.churn 0) (target_of g (task_at g place)).preferred
    parts.arcs.preferred

AllZip-updated : {A B : Type 0} (R : A → B → Type 0) (xs : List A) (ys : List B) (i : ℕ) (f : A → A) → AllZip R xs ys
    → ((x : A) (y : B) → R x y → R (f x) y) → AllZip R (update_at xs i f) ys
AllZip-updated R [] ys i f h step = h
AllZip-updated R (x ∷ xs) [] i f h step = absurd h
AllZip-updated R (x ∷ xs) (y ∷ ys) zero f h step = (step x y h.0, h.1)
AllZip-updated R (x ∷ xs) (y ∷ ys) (suc i) f h step = (h.0, AllZip-updated R xs ys i f h.1 step)

pub task-placed : (g : Graph) (after : Net) (place : ℕ) (parts : TaskParts) (home : Option (List ℕ)) (waited : ℕ)
    → Mirrors g
    → place < length g.tasks → parts ≡ get_or g.tasks place parts
    → Holds g.net after (graph_nodes g) (wide_to g place home parts ∷ stay_to g home parts ∷ wait_to g place home
    waited parts ∷ preferred_to g place home parts ++ graph_spans (task_dropped g g.net place))
    → Mirrors (task_placed g after place home waited)
task-placed g after place parts home waited is below at h =
    let new : Graph = task_placed g after place home waited in
    let f = task_spans g.hub g.rows.limits.churn g.rows.limits.remote (target_of g) in
    let rest : List Span = graph_spans (task_dropped g g.net place) in
    let s1 : Span = wide_to g place home parts in
    let s2 : Span = stay_to g home parts in
    let s3 : Span = wait_to g place home waited parts in
    let ss : List Span = preferred_to g place home parts in
    let here : place < length g.rows.tasks = omega (arith, below, is.tasks) in
    let said : Task → Task = placed home waited in
    let R : Task → TaskParts → Type 0 = λ (t : Task) (p : TaskParts). length p.arcs.preferred ≡ length t.preferred in
    record {
      net = h.net;
      nodes = h.nodes;
      spans = record {
        weighs = λ w. omega (
          arith,
          h.spans.weighs w,
          sum_by-cons {X = Span},
          sum_by-append {X = Span},
          spans-total w new,
          spans-total w (task_dropped g g.net place),
          flat_sum-update w f said g.rows.tasks g.tasks place no_task parts here is.tasks,
          ap (λ (p : TaskParts). sum_by w (f (said (task_at g place)) p)) at,
        );
      };
      slots = is.slots;
      preferred = AllZip-updated R g.rows.tasks g.tasks place said is.preferred (λ t p e. e);
      machines = is.machines;
      jobs = is.jobs;
      tasks = omega (arith, is.tasks, length-updated g.rows.tasks place said);
      node_room = h.node_room ∙ is.node_room;
      arc_room = h.arc_room ∙ is.arc_room;
      added = omega (arith, h.added, is.added);
      asked = is.asked;
    }

-- what an edit says that changes the numbers of an arc, or its head
abbrev pub Rates : Net → Net → ArcId → ℕ → ℕ → Type 0
Rates old new arc cap cost = (row : Row) → row_at old arc ≡ Some row
    → IsEdit old new [] [] (span_of arc row ∷ [])
    (record { arc = arc; tail = row.tail; head = row.head; cap = cap; cost = cost } ∷ [])

abbrev pub Leads : Net → Net → ArcId → NodeId → Type 0
Leads old new arc head = (row : Row) → row_at old arc ≡ Some row
    → IsEdit old new [] [] (span_of arc row ∷ [])
    (record { arc = arc; tail = row.tail; head = head; cap = row.cap; cost = row.cost } ∷ [])

-- what an edit says that changes the costs of a task's arcs to the machines that it prefers
abbrev pub RatesPreferred : Net → Net → List ArcId → ℕ → Type 0
RatesPreferred old new arcs cost = (base : Net) (ns : List NodeId) (ss : List Span) (node : NodeId) (was : ℕ)
    (heads : List NodeId) → length heads ≡ length arcs
    → Holds base old ns (preferred_spans node was heads arcs ++ ss)
    → Holds base new ns (preferred_spans node cost heads arcs ++ ss)

-- what the net holds at each step of the change
abbrev pub rest_of : Graph → ℕ → TaskParts → List Span
rest_of g place parts = preferred_of g place parts ++ graph_spans (task_dropped g g.net place)

pub step-1 : (g : Graph) (place : ℕ) (parts : TaskParts) (n1 : Net) (cost : ℕ) → Mirrors g
    → place < length g.tasks → parts ≡ get_or g.tasks place parts
    → Rates g.net n1 parts.arcs.wide 1 cost → added_of n1 ≤ added_of g.net
    → Holds g.net n1 (graph_nodes g) (stay_of g place parts ∷ rated 1 cost (wide_of g place parts) ∷ wait_of g place
    parts ∷ rest_of g place parts)
step-1 g place parts n1 cost is below at edit none =
    holds-swap g.net n1 (graph_nodes g) (rated 1 cost (wide_of g place parts)) (stay_of g place parts)
    (wait_of g place parts ∷ rest_of g place parts)
    (holds-rated g.net g.net n1 (graph_nodes g) (wide_of g place parts)
    (stay_of g place parts ∷ wait_of g place parts ∷ rest_of g place parts) 1 cost
    (task-start g g.net place parts is below at) edit none)

pub step-2 : (g : Graph) (place : ℕ) (parts : TaskParts) (n1 n2 : Net) (cost cap : ℕ)
    → Holds g.net n1 (graph_nodes g) (stay_of g place parts ∷ rated 1 cost (wide_of g place parts) ∷ wait_of g place
    parts ∷ rest_of g place parts)
    → Rates n1 n2 parts.arcs.stay cap 0 → added_of n2 ≤ added_of n1
    → Holds g.net n2 (graph_nodes g) (rated cap 0 (stay_of g place parts) ∷ rated 1 cost (wide_of g place parts) ∷
    wait_of g place parts ∷ rest_of g place parts)
step-2 g place parts n1 n2 cost cap h edit none =
    holds-rated g.net n1 n2 (graph_nodes g) (stay_of g place parts)
    (rated 1 cost (wide_of g place parts) ∷ wait_of g place parts ∷ rest_of g place parts) cap 0 h edit none

pub step-3 : (g : Graph) (place : ℕ) (parts : TaskParts) (n2 n3 : Net) (cost cap : ℕ) (node : NodeId)
    → Holds g.net n2 (graph_nodes g) (rated cap 0 (stay_of g place parts) ∷ rated 1 cost (wide_of g place parts) ∷
    wait_of g place parts ∷ rest_of g place parts)
    → Leads n2 n3 parts.arcs.stay node → added_of n3 ≤ added_of n2
    → Holds g.net n3 (graph_nodes g) (wait_of g place parts ∷ led node (rated cap 0 (stay_of g place parts)) ∷ rated 1
    cost (wide_of g place parts) ∷ rest_of g place parts)
step-3 g place parts n2 n3 cost cap node h edit none =
    holds-back g.net n3 (graph_nodes g) (led node (rated cap 0 (stay_of g place parts)))
    (rated 1 cost (wide_of g place parts)) (wait_of g place parts) (rest_of g place parts)
    (holds-led g.net n2 n3 (graph_nodes g) (rated cap 0 (stay_of g place parts))
    (rated 1 cost (wide_of g place parts) ∷ wait_of g place parts ∷ rest_of g place parts) node h edit none)

pub step-4 : (g : Graph) (place : ℕ) (parts : TaskParts) (n3 n4 : Net) (node : NodeId) (cost cap delay : ℕ)
    → Holds g.net n3 (graph_nodes g) (wait_of g place parts ∷ led node (rated cap 0 (stay_of g place parts)) ∷ rated 1
    cost (wide_of g place parts) ∷ rest_of g place parts)
    → Rates n3 n4 parts.arcs.wait 1 delay → added_of n4 ≤ added_of n3
    → Holds g.net n4 (graph_nodes g) (preferred_of g place parts ++ rated 1 delay (wait_of g place parts) ∷ led node
    (rated cap 0 (stay_of g place parts)) ∷ rated 1 cost (wide_of g place parts) ∷ graph_spans
    (task_dropped g g.net place))
step-4 g place parts n3 n4 node cost cap delay h edit none =
    let s1 : Span = rated 1 cost (wide_of g place parts) in
    let s2 : Span = led node (rated cap 0 (stay_of g place parts)) in
    let s3 : Span = rated 1 delay (wait_of g place parts) in
    let ss : List Span = preferred_of g place parts in
    let rest : List Span = graph_spans (task_dropped g g.net place) in
    holds-same g.net n4 (graph_nodes g) (s3 ∷ s2 ∷ s1 ∷ ss ++ rest) (ss ++ s3 ∷ s2 ∷ s1 ∷ rest)
    (holds-rated g.net n3 n4 (graph_nodes g) (wait_of g place parts) (s2 ∷ s1 ∷ rest_of g place parts) 1 delay h edit
    none)
    (λ w. omega (arith, sum_by-cons {X = Span}, sum_by-append {X = Span}))

pub step-5 : (g : Graph) (place : ℕ) (parts : TaskParts) (n4 n5 : Net) (home : Option (List ℕ)) (node : NodeId)
    (waited leaving far cap weight : ℕ) → Mirrors g → place < length g.tasks → parts ≡ get_or g.tasks place parts
    → Holds g.net n4 (graph_nodes g) (preferred_of g place parts ++ rated 1 (weight + waited + leaving)
    (wait_of g place parts) ∷ led node (rated cap 0 (stay_of g place parts)) ∷ rated 1 (leaving + far)
    (wide_of g place parts) ∷ graph_spans (task_dropped g g.net place))
    → RatesPreferred n4 n5 parts.arcs.preferred leaving
    → node ≡ home_node (machine_names g.rows) (machine_nodes g) g.hub home
    → leaving ≡ cond (is_some home) g.rows.limits.churn 0 → cap ≡ cond (is_some home) 1 0
    → weight ≡ weight_under g.rows.jobs (task_at g place).job
    → far ≡ away g.rows.limits.remote (task_at g place).preferred
    → Holds g.net n5 (graph_nodes g) (wide_to g place home parts ∷ stay_to g home parts ∷ wait_to g place home waited
    parts ∷ preferred_to g place home parts ++ graph_spans (task_dropped g g.net place))
step-5 g place parts n4 n5 home node waited leaving far cap weight is below at h edit node_is leaving_is cap_is
    weight_is far_is =
    let s1 : Span = rated 1 (leaving + far) (wide_of g place parts) in
    let s2 : Span = led node (rated cap 0 (stay_of g place parts)) in
    let s3 : Span = rated 1 (weight + waited + leaving) (wait_of g place parts) in
    let heads : List NodeId = (target_of g (task_at g place)).preferred in
    let rest : List Span = graph_spans (task_dropped g g.net place) in
    let ss : List Span = preferred_spans parts.node leaving heads parts.arcs.preferred in
    let was : Holds g.net n5 (graph_nodes g) (ss ++ s3 ∷ s2 ∷ s1 ∷ rest) =
    edit g.net (graph_nodes g) (s3 ∷ s2 ∷ s1 ∷ rest) parts.node (leaving_of g place) heads
    (heads-counted g place parts is below at) h in
    let t1 : Span = wide_to g place home parts in
    let t2 : Span = stay_to g home parts in
    let t3 : Span = wait_to g place home waited parts in
    let ts : List Span = preferred_to g place home parts in
    let e1 : s1 ≡ t1 = ap₂ (λ (a b : ℕ). rated 1 (a + b) (wide_of g place parts)) leaving_is far_is in
    let e2 : s2 ≡ t2 = ap₂ (λ (n : NodeId) (c : ℕ). led n (rated c 0 (stay_of g place parts))) node_is cap_is in
    let e3 : s3 ≡ t3 = ap₂ (λ (a b : ℕ). rated 1 (a + waited + b) (wait_of g place parts)) weight_is leaving_is in
    let es : ss ≡ ts = ap (λ (c : ℕ). preferred_spans parts.node c heads parts.arcs.preferred) leaving_is in
    holds-same g.net n5 (graph_nodes g) (ss ++ s3 ∷ s2 ∷ s1 ∷ rest) (t1 ∷ t2 ∷ t3 ∷ ts ++ rest) was
    (λ w. omega (
      arith,
      ap w e1,
      ap w e2,
      ap w e3,
      ap (λ (l : List Span). sum_by w l) es,
      sum_by-cons {X = Span},
      sum_by-append {X = Span},
    ))
