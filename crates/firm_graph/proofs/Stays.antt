-- What a graph is once a task stays where it was, or waits on.
use Rattle.std.proofs.Common.{◌≡◌, ℕ, ◌+◌, ◌<◌, ◌≤◌, Bool, false, cond, is_some, Option, Some, None, List, ◌∷◌}
use Rattle.std.proofs.Common.{◌++◌, get_or, length, arith, refl, ap, ap₂}
use Rattle.std.specs.List.{sum_by}
use Rattle.firm_net.specs.Net.{Net, added_of}
use Rattle.firm_net.specs.declared.row.NodeId.{NodeId}
use Rattle.firm_net.specs.Edits.{Span}
use Rattle.firm_rules.specs.Book.{machine_names}
use Rattle.firm_graph.specs.declared.ids.TaskParts.{TaskParts}
use Rattle.firm_graph.specs.Graph.{Graph, Mirrors, graph_nodes, graph_spans, home_node, machine_nodes, weight_under}
use Rattle.firm_graph.specs.Graph.{preferred_spans, target_of}
use Rattle.firm_graph.specs.Network.{away}
use Rattle.firm_graph.specs.inner.Steps.{Holds}
use Rattle.firm_graph.proofs.Drops.{task-start, task_dropped, task_at, wide_of, stay_of, wait_of, preferred_of}
use Rattle.firm_graph.proofs.Drops.{four-sum, wide_arc, stay_arc}
use Rattle.firm_graph.proofs.Places.{task_placed, task-placed, wide_to, stay_to, wait_to, preferred_to, rated, rest_of}
use Rattle.firm_graph.proofs.Places.{Rates, holds-back, holds-rated, holds-same}

-- two tasks that both wait run at the same home
pub both-wait : (one other : Option (List ℕ)) → is_some one ≡ false → is_some other ≡ false → one ≡ other
both-wait None None a b = refl
both-wait None (Some name) a b = cc
both-wait (Some name) other a b = cc

-- the arcs of a task that stays, but for the cost of its wait
stays : (g : Graph) (place : ℕ) (parts : TaskParts) (home : Option (List ℕ)) (after : Net) (waited cost : ℕ)
    → Mirrors g → place < length g.tasks → parts ≡ get_or g.tasks place parts → (task_at g place).machine ≡ home
    → cost ≡ weight_under g.rows.jobs (task_at g place).job + waited + cond (is_some home) g.rows.limits.churn 0
    → Holds g.net after (graph_nodes g) (rated 1 cost (wait_of g place parts) ∷ wide_of g place parts ∷ stay_of g place
    parts ∷ rest_of g place parts)
    → Mirrors (task_placed g after place home waited)
stays g place parts home after waited cost is below at same cost_is h =
    let runs : is_some (task_at g place).machine ≡ is_some home = ap (λ (m : Option (List ℕ)). is_some m) same in
    let node : home_node (machine_names g.rows) (machine_nodes g) g.hub (task_at g place).machine
    ≡ home_node (machine_names g.rows) (machine_nodes g) g.hub home =
    ap (home_node (machine_names g.rows) (machine_nodes g) g.hub) same in
    let s1 : Span = wide_of g place parts in
    let s2 : Span = stay_of g place parts in
    let s3 : Span = rated 1 cost (wait_of g place parts) in
    let ss : List Span = preferred_of g place parts in
    let rest : List Span = graph_spans (task_dropped g g.net place) in
    let t1 : Span = wide_to g place home parts in
    let t2 : Span = stay_to g home parts in
    let t3 : Span = wait_to g place home waited parts in
    let ts : List Span = preferred_to g place home parts in
    let e1 : s1 ≡ t1 = ap (λ (b : Bool). wide_arc g.hub (cond b g.rows.limits.churn 0 + away g.rows.limits.remote
    (task_at g place).preferred) parts) runs in
    let e2 : s2 ≡ t2 = ap₂ (λ (n : NodeId) (b : Bool). stay_arc n b parts) node runs in
    let e3 : s3 ≡ t3 = ap (λ (n : ℕ). rated 1 n (wait_of g place parts)) cost_is in
    let es : ss ≡ ts = ap (λ (b : Bool). preferred_spans parts.node (cond b g.rows.limits.churn 0)
    (target_of g (task_at g place)).preferred parts.arcs.preferred) runs in
    task-placed g after place parts home waited is below at
    (holds-same g.net after (graph_nodes g) (s3 ∷ s1 ∷ s2 ∷ ss ++ rest) (t1 ∷ t2 ∷ t3 ∷ ts ++ rest) h
    (λ w. omega (
      arith,
      ap w e1,
      ap w e2,
      ap w e3,
      ap (λ (l : List Span). sum_by w l) es,
      four-sum w s3 s1 s2 ss rest,
      four-sum w t1 t2 t3 ts rest,
    )))

-- the wait of a task that stays comes first
waits-first : (g : Graph) (place : ℕ) (parts : TaskParts) → Mirrors g → place < length g.tasks
    → parts ≡ get_or g.tasks place parts
    → Holds g.net g.net (graph_nodes g) (wait_of g place parts ∷ wide_of g place parts ∷ stay_of g place parts ∷
    rest_of g place parts)
waits-first g place parts is below at =
    holds-back g.net g.net (graph_nodes g) (wide_of g place parts) (stay_of g place parts) (wait_of g place parts)
    (rest_of g place parts) (task-start g g.net place parts is below at)

-- a task that stays with what it has waited keeps its arcs
pub kept-whole : (g : Graph) (place : ℕ) (parts : TaskParts) (home : Option (List ℕ)) (waited : ℕ)
    → Mirrors g → place < length g.tasks → parts ≡ get_or g.tasks place parts → (task_at g place).machine ≡ home
    → (task_at g place).waited ≡ waited → Mirrors (task_placed g g.net place home waited)
kept-whole g place parts home waited is below at same waited_is =
    let cost : ℕ = (wait_of g place parts).cost in
    let cost_is : cost ≡ weight_under g.rows.jobs (task_at g place).job + waited
    + cond (is_some home) g.rows.limits.churn 0 =
    ap₂ (λ (n : ℕ) (m : Option (List ℕ)). weight_under g.rows.jobs (task_at g place).job + n
    + cond (is_some m) g.rows.limits.churn 0) waited_is same in
    stays g place parts home g.net waited cost is below at same cost_is (waits-first g place parts is below at)

-- a task that waits on, and has waited longer, has another cost of its wait
pub kept-but-wait : (g : Graph) (place : ℕ) (parts : TaskParts) (home : Option (List ℕ)) (after : Net)
    (waited weight : ℕ)
    → Mirrors g → place < length g.tasks → parts ≡ get_or g.tasks place parts → (task_at g place).machine ≡ home
    → is_some home ≡ false → weight ≡ weight_under g.rows.jobs (task_at g place).job
    → Rates g.net after parts.arcs.wait 1 (weight + waited) → added_of after ≤ added_of g.net
    → Mirrors (task_placed g after place home waited)
kept-but-wait g place parts home after waited weight is below at same waits weight_is edit none =
    let leaving : cond (is_some home) g.rows.limits.churn 0 ≡ 0 =
    ap (λ (b : Bool). cond b g.rows.limits.churn 0) waits in
    stays g place parts home after waited (weight + waited) is below at same (omega (arith, weight_is, leaving))
    (holds-rated g.net g.net after (graph_nodes g) (wait_of g place parts)
    (wide_of g place parts ∷ stay_of g place parts ∷ rest_of g place parts) 1 (weight + waited)
    (waits-first g place parts is below at) edit none)
