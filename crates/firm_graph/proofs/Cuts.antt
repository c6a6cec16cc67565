-- No cut leaves a task without a way: its job's arc carries as many as there are tasks.
use Rattle.std.proofs.Common.{◌≡◌, ℕ, zero, suc, ◌+◌, ◌<◌, ◌≤◌, Bool, true, false, cond, is_some, ◌||◌, inl, inr}
use Rattle.std.proofs.Common.{⊎_elim, List, [], ◌∷◌, ◌++◌, length, get_or, count_by, bytes_eq, arith, sym, ap}
use Rattle.std.proofs.Common.{◌∙◌}
use Rattle.std.specs.List.{sum_by, All, list_any}
use Rattle.std.proofs.lemmas.Bool.{cases_Bool, cases_eq, cond-true, cond-false, cond_both}
use Rattle.std.proofs.lemmas.List.Sums.{sum_by-cons, count_by-le-length, get_or-le-sum_by}
use Rattle.std.proofs.lemmas.List.{length-map, get_or_default}
use Rattle.std.proofs.lemmas.List.Elements.{All-head, All-tail, Contains-append_right}
use Rattle.firm_arena.specs.Arena.{entries}
use Rattle.firm_arena.specs.declared.Id.{Id}
use Rattle.firm_net.specs.Row.{Row}
use Rattle.firm_net.specs.Net.{Net}
use Rattle.firm_net.specs.declared.row.NodeId.{NodeId}
use Rattle.firm_net.specs.declared.row.ArcId.{ArcId}
use Rattle.firm_paths.specs.Network.{Arc}
use Rattle.firm_paths.specs.NetArcs.{arcs_of, arc_of}
use Rattle.firm_flow.specs.Flow.{IsDeficientCut, capacity_out}
use Rattle.firm_flow.specs.NetFlow.{places, AreDistinctNodes}
use Rattle.firm_rules.specs.Book.{job_names}
use Rattle.firm_rules.specs.Names.{is_among}
use Rattle.firm_rules.specs.Sound.{AreSound}
use Rattle.firm_rules.specs.declared.book.Job.{Job}
use Rattle.firm_rules.specs.declared.book.Task.{Task}
use Rattle.firm_net.specs.Edits.{Span, spans_of}
use Rattle.firm_graph.specs.declared.ids.JobParts.{JobParts}
use Rattle.firm_graph.specs.declared.ids.TaskParts.{TaskParts}
use Rattle.firm_graph.specs.Graph.{Graph, Mirrors, flat_zip, job_spans, task_spans, Target, target_of, node_under}
use Rattle.firm_graph.specs.Graph.{preferred_spans, graph_spans, graph_nodes, machine_nodes, job_nodes, task_nodes}
use Rattle.firm_graph.specs.Network.{away}
use Rattle.firm_graph.proofs.Found.{ones, same_id-refl, node-there, sink-there}
use Rattle.firm_graph.proofs.Drops.{is_node, node-once, four-sum, wide_arc, stay_arc, wait_arc}
use Rattle.firm_net.specs.Laws.{sum-map, spans-sum}
use Rattle.firm_graph.proofs.Totals.{jobs-paired, nodes-total, spans-total}

-- what an arc carries out of a set of places
abbrev pub out_weight : (ℕ → Bool) → Span → ℕ
out_weight inside s = cond (inside s.tail.id.place) (cond (inside s.head.id.place) 0 s.cap) 0

abbrev pub in_set : (ℕ → Bool) → NodeId → ℕ
in_set inside n = ones (inside n.id.place)

out-sum : (inside : ℕ → Bool) (net : Net)
    → capacity_out (arcs_of net) inside ≡ sum_by (out_weight inside) (spans_of net)
out-sum inside net =
    sum-map (λ (a : Arc ℕ ArcId). cond (inside a.tail) (cond (inside a.head) 0 a.cap) 0)
    (λ (e : Id × Row). arc_of (record { id = e.0 }) e.1) (entries net.arcs)
    ∙ sym (spans-sum (out_weight inside) net)

-- a job inside lets as many out as its arc carries
jobs-out : (inside : ℕ → Bool) (sink : NodeId) (limit : ℕ) (js : List Job) (ps : List JobParts)
    → length ps ≡ length js → inside sink.id.place ≡ false
    → 0 < sum_by (λ p. in_set inside p.node) ps
    → limit ≤ sum_by (out_weight inside) (flat_zip (job_spans sink limit) js ps)
jobs-out inside sink limit [] [] e f some = absurd (omega arith)
jobs-out inside sink limit [] (p ∷ ps) e f some = absurd (omega arith)
jobs-out inside sink limit (j ∷ js) [] e f some = absurd (omega arith)
jobs-out inside sink limit (j ∷ js) (p ∷ ps) e f some =
    let s : Span = record { arc = p.exit; tail = p.node; head = sink; cap = limit; cost = 0 } in
    let v : JobParts → ℕ = λ (q : JobParts). in_set inside q.node in
    let rest : List Span = flat_zip (job_spans sink limit) js ps in
    let sum : sum_by (out_weight inside) (s ∷ rest) ≡ out_weight inside s + sum_by (out_weight inside) rest =
    sum_by-cons (out_weight inside) s rest in
    ⊎_elim
    (λ (t : inside p.node.id.place ≡ true).
    let own : out_weight inside s ≡ limit = cond-true (inside p.node.id.place) (cond (inside sink.id.place) 0 limit) 0
    t ∙ cond-false (inside sink.id.place) 0 limit f in
    omega (arith, sum, own))
    (λ (g : inside p.node.id.place ≡ false).
    let none : v p ≡ ones false = ap ones g in
    omega (
      arith,
      jobs-out inside sink limit js ps (omega arith) f
          (omega (arith, some, none, sum_by-cons v p ps)),
    ))
    (cases_Bool (inside p.node.id.place))

-- a task inside whose job is outside lets one out
tasks-out : (inside : ℕ → Bool) (hub : NodeId) (churn remote : ℕ) (target : Task → Target) (ts : List Task)
    (ps : List TaskParts) → length ps ≡ length ts
    → All (λ t. inside (target t).owner.id.place ≡ false) ts
    → sum_by (λ p. in_set inside p.node) ps ≤ sum_by (out_weight inside)
    (flat_zip (task_spans hub churn remote target) ts ps)
tasks-out inside hub churn remote target [] [] e h = omega arith
tasks-out inside hub churn remote target [] (p ∷ ps) e h = absurd (omega arith)
tasks-out inside hub churn remote target (t ∷ ts) [] e h = omega arith
tasks-out inside hub churn remote target (t ∷ ts) (p ∷ ps) e h =
    let P : Task → Type 0 = λ (x : Task). inside (target x).owner.id.place ≡ false in
    let v : TaskParts → ℕ = λ (q : TaskParts). in_set inside q.node in
    let w : Span → ℕ = out_weight inside in
    let more : List Span = flat_zip (task_spans hub churn remote target) ts ps in
    let leaving : ℕ = cond (is_some t.machine) churn 0 in
    let s1 : Span = wide_arc hub (leaving + away remote t.preferred) p in
    let s2 : Span = stay_arc (target t).home (is_some t.machine) p in
    let s3 : Span = wait_arc (target t).owner ((target t).delay + leaving) p in
    let own : w s3 ≡ v p = ap (λ (b : Bool). cond (inside p.node.id.place) (cond b 0 1) 0) (All-head P t ts h) in
    let ss : List Span = preferred_spans p.node leaving (target t).preferred p.arcs.preferred in
    omega (
      arith,
      four-sum w s1 s2 s3 ss more,
      sum_by-cons v p ps,
      tasks-out inside hub churn remote target ts ps (omega arith) (All-tail P t ts h),
    )

-- a name that is there is looked up among the nodes
among-weight : (w : NodeId → ℕ) (names : List (List ℕ)) (nodes : List NodeId) (other : NodeId) (name : List ℕ)
    → length nodes ≡ length names
    → is_among names name ≡ true → w (node_under names nodes other name) ≤ sum_by w nodes
among-weight w [] nodes other name e h = let clash : false ≡ true = h in absurd cc
among-weight w (n ∷ names) [] other name e h = absurd (omega arith)
among-weight w (n ∷ names) (node ∷ nodes) other name e h =
    cond_both (bytes_eq name n) node (node_under names nodes other name) (λ (m : NodeId). w m ≤ sum_by w (node ∷ nodes))
    (λ _. omega (arith, sum_by-cons w node nodes))
    (λ f. omega (
      arith,
      sum_by-cons w node nodes,
      among-weight w names nodes other name (omega arith)
          (sym (ap (λ (b : Bool). b || list_any (bytes_eq name) names) f) ∙ h),
    ))

ones-none : (b : Bool) → ones b ≡ 0 → b ≡ false
ones-none b e = grind arith

-- no set of nodes without the sink holds more tasks than its arcs let out
pub no-cut : (g : Graph) (inside : ℕ → Bool) → Mirrors g → AreSound g.rows
    → IsDeficientCut (arcs_of g.net) (places (task_nodes g)) g.sink.id.place inside → ⊥
no-cut g inside is sound cut =
    let nodes : List NodeId = task_nodes g in
    let w : Span → ℕ = out_weight inside in
    let u : NodeId → ℕ = in_set inside in
    let whole : capacity_out (arcs_of g.net) inside ≡ sum_by w (graph_spans g) = out-sum inside g.net ∙ is.spans.weighs
    w in
    let parts = spans-total w g in
    let sources : count_by inside (places nodes) ≡ sum_by (λ p. u p.node) g.tasks =
    sum-map (λ (v : ℕ). ones (inside v)) (λ (n : NodeId). n.id.place) nodes
    ∙ sum-map u (λ (p : TaskParts). p.node) g.tasks in
    let most : count_by inside (places nodes) ≤ length g.tasks =
    omega (
      arith,
      count_by-le-length inside (places nodes),
      length-map nodes (λ (n : NodeId). n.id.place),
      length-map g.tasks (λ (p : TaskParts). p.node),
    ) in
    elim (cases_eq (sum_by (λ p. u p.node) g.jobs) 0) [
      | inl none ↦
          let outside : All (λ t. inside (target_of g t).owner.id.place ≡ false) g.rows.tasks =
          λ k d below.
          let name : List ℕ = (get_or g.rows.tasks k d).job in
          ones-none (inside (node_under (job_names g.rows) (job_nodes g) g.hub name).id.place)
          (omega (
            arith,
            sum-map u (λ (p : JobParts). p.node) g.jobs,
            among-weight u (job_names g.rows)
                (job_nodes g) g.hub name (jobs-paired g is.jobs) (sound.jobs_there k d below),
          )) in
          absurd (omega (
            arith,
            tasks-out inside g.hub g.rows.limits.churn g.rows.limits.remote
                (target_of g) g.rows.tasks g.tasks is.tasks outside,
          ))
      | inr some ↦
          absurd (omega (
            arith,
            jobs-out inside g.sink g.rows.limits.nodes g.rows.jobs g.jobs is.jobs cut.sink_outside
                (omega (arith, some)),
          ))
    ]

-- the tasks' nodes and the sink are distinct nodes of the net
pub two : {X : Type 0} (w : X → ℕ) (xs : List X) (i j : ℕ) (d : X) → i < j → j < length xs
    → w (get_or xs i d) + w (get_or xs j d) ≤ sum_by w xs
two w [] i j d before below = absurd (omega arith)
two w (x ∷ xs) i zero d before below = absurd (omega arith)
two w (x ∷ xs) zero (suc j) d before below =
    omega (arith, sum_by-cons w x xs, get_or-le-sum_by w xs j d (let b : j < length xs = omega arith in b))
two w (x ∷ xs) (suc i) (suc j) d before below =
    omega (arith, sum_by-cons w x xs, two w xs i j d (omega arith) (omega arith))

pub distinct : (g : Graph) → Mirrors g → AreDistinctNodes g.net (task_nodes g) g.sink
distinct g is =
    let nodes : List NodeId = task_nodes g in
    record {
      nodes = λ k d below.
          let n : NodeId = get_or nodes k d in
          node-there g.net (graph_nodes g) n is.nodes
          (Contains-append_right (g.hub ∷ g.sink ∷ machine_nodes g) (job_nodes g ++ nodes) n
          (Contains-append_right (job_nodes g) nodes n (k, below, get_or_default nodes k n d below)));
      sink_there = sink-there g is;
      apart = λ i j d before below e.
          let n : NodeId = get_or nodes i d in
          let w : NodeId → ℕ = is_node n in
          absurd (omega (
            arith,
            ap ones (same_id-refl n.id),
            ap w e,
            two w nodes i j d before below,
            node-once g.net (graph_nodes g) n is.nodes,
            nodes-total w g,
            sum-map w (λ (p : TaskParts). p.node) g.tasks,
          ));
      others = λ k d below e.
          let w : NodeId → ℕ = is_node g.sink in
          absurd (omega (
            arith,
            ap ones (same_id-refl g.sink.id),
            ap w e,
            get_or-le-sum_by w nodes k d below,
            node-once g.net (graph_nodes g) g.sink is.nodes,
            nodes-total w g,
            sum-map w (λ (p : TaskParts). p.node) g.tasks,
          ));
    }
