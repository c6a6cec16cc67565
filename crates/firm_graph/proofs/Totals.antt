-- What the nodes and arcs of a graph weigh, part by part.
use Rattle.std.proofs.Common.{◌≡◌, ℕ, ◌+◌, List, [], ◌∷◌, ◌++◌, length, arith, refl, sym, ap, ap₂, ◌∙◌, length-append}
use Rattle.std.proofs.lemmas.List.{length-map}
use Rattle.std.specs.List.{sum_by, All}
use Rattle.std.specs.Prelude.{slice_index_or}
use Rattle.std.proofs.lemmas.List.Sums.{sum_by-cons, sum_by-append}
use Rattle.std.proofs.lemmas.List.Elements.{All-head, All-tail}
use Rattle.firm_arena.specs.Arena.{entries}
use Rattle.firm_net.specs.Net.{node_count}
use Rattle.firm_net.specs.declared.row.NodeId.{NodeId}
use Rattle.firm_net.specs.declared.row.ArcId.{ArcId}
use Rattle.firm_rules.specs.ArenaUse.{arena_nodes}
use Rattle.firm_rules.specs.declared.book.Task.{Task}
use Rattle.firm_net.specs.Edits.{Span, nodes_of, AsOften}
use Rattle.firm_rules.specs.Book.{machine_names, job_names}
use Rattle.firm_rules.specs.declared.book.Machine.{Machine}
use Rattle.firm_rules.specs.declared.book.Job.{Job}
use Rattle.firm_graph.specs.Parts.{MachineParts}
use Rattle.firm_graph.specs.declared.ids.JobParts.{JobParts}
use Rattle.firm_graph.specs.declared.ids.TaskParts.{TaskParts}
use Rattle.firm_graph.specs.Graph.{Graph, Mirrors, flat_zip, machine_spans, slot_spans, job_spans, task_spans, Target}
use Rattle.firm_graph.specs.Graph.{preferred_spans, target_of, graph_nodes, graph_spans, machine_nodes, job_nodes}
use Rattle.firm_graph.specs.Graph.{task_nodes}
use Rattle.firm_arena.specs.Laws.{length-entries_from}
use Rattle.firm_net.specs.Laws.{sum-map}

module _ {A B C : Type 0} where
  -- one pair more at the end of two lists of one length
  pub flat_sum-push : (w : C → ℕ) (f : A → B → List C) (xs : List A) (ys : List B) (x : A) (y : B) → length ys ≡ length
      xs
      → sum_by w (flat_zip f (xs ++ x ∷ []) (ys ++ y ∷ [])) ≡ sum_by w (flat_zip f xs ys) + sum_by w (f x y)
  flat_sum-push w f [] [] x y e = omega (arith, sum_by-append w (f x y) [])
  flat_sum-push w f [] (b ∷ ys) x y e = absurd (omega arith)
  flat_sum-push w f (a ∷ xs) [] x y e = absurd (omega arith)
  flat_sum-push w f (a ∷ xs) (b ∷ ys) x y e =
      let shorter : length ys ≡ length xs = omega arith in
      omega (arith, flat_sum-push w f xs ys x y shorter, sum_by-append {X = C})

  -- two functions that agree on the first list make the same
  pub flat_zip-same : (f g : A → B → List C) (xs : List A) (ys : List B) → All (λ x. (y : B) → f x y ≡ g x y) xs →
      flat_zip f xs ys ≡ flat_zip g xs ys
  flat_zip-same f g [] ys h = refl
  flat_zip-same f g (x ∷ xs) [] h = refl
  flat_zip-same f g (x ∷ xs) (y ∷ ys) h =
      let P : A → Type 0 = λ (a : A). (b : B) → f a b ≡ g a b in
      ap₂ (λ (us vs : List C). us ++ vs) (All-head P x xs h y) (flat_zip-same f g xs ys (All-tail P x xs h))

pub sum-one : {X : Type 0} (w : X → ℕ) (x : X) → sum_by w (x ∷ []) ≡ w x
sum-one w x = sum_by-cons w x [] ∙ (let e : w x + 0 ≡ w x = omega arith in e)

-- the nodes of the machines and of the jobs are as many as their names
pub machines-paired : (g : Graph) → length g.machines ≡ length g.rows.machines
    → length (machine_nodes g) ≡ length (machine_names g.rows)
machines-paired g e =
    length-map g.machines (λ (p : MachineParts). p.node) ∙ e
    ∙ sym (length-map g.rows.machines (λ (m : Machine). m.name))

pub jobs-paired : (g : Graph) → length g.jobs ≡ length g.rows.jobs → length (job_nodes g) ≡ length (job_names g.rows)
jobs-paired g e = length-map g.jobs (λ (p : JobParts). p.node) ∙ e ∙ sym (length-map g.rows.jobs (λ (j : Job). j.name))

-- what the nodes weigh
pub nodes-total : (w : NodeId → ℕ) (g : Graph) → sum_by w (graph_nodes g)
    ≡ w g.hub + (w g.sink + (sum_by (λ p. w p.node) g.machines +
    (sum_by (λ p. w p.node) g.jobs + sum_by (λ p. w p.node) g.tasks)))
nodes-total w g =
    omega (
      arith,
      sum_by-cons {X = NodeId},
      sum_by-append {X = NodeId},
      sum-map w (λ (p : MachineParts). p.node) g.machines,
      sum-map w (λ (p : JobParts). p.node) g.jobs,
      sum-map w (λ (p : TaskParts). p.node) g.tasks,
    )

-- what the arcs of the machines, the jobs and the tasks weigh
abbrev pub machines_total : (Span → ℕ) → Graph → ℕ
machines_total w g = sum_by w (flat_zip (machine_spans g.hub g.sink g.rows.limits.spread) g.rows.machines g.machines)

abbrev pub jobs_total : (Span → ℕ) → Graph → ℕ
jobs_total w g = sum_by w (flat_zip (job_spans g.sink g.rows.limits.nodes) g.rows.jobs g.jobs)

abbrev pub tasks_total : (Span → ℕ) → Graph → (Task → Target) → ℕ
tasks_total w g target = sum_by w (flat_zip (task_spans g.hub g.rows.limits.churn g.rows.limits.remote target)
    g.rows.tasks g.tasks)

pub spans-total : (w : Span → ℕ) (g : Graph)
    → sum_by w (graph_spans g) ≡ machines_total w g + (jobs_total w g + tasks_total w g (target_of g))
spans-total w g =
    omega (arith, sum_by-append {X = Span})

-- the arcs of tasks are the same where their targets are
pub tasks-same : (w : Span → ℕ) (g : Graph) (one other : Task → Target)
    → All (λ task. one task ≡ other task) g.rows.tasks
    → tasks_total w g one ≡ tasks_total w g other
tasks-same w g one other same =
    let f : (Task → Target) → Task → TaskParts → List Span = task_spans g.hub g.rows.limits.churn g.rows.limits.remote
    in
    ap (λ (l : List Span). sum_by w l)
    (flat_zip-same (f one) (f other) g.rows.tasks g.tasks
    (λ k d below parts. ap (λ (t : Target). f (λ _. t) (slice_index_or g.rows.tasks k d) parts) (same k d below)))

-- how much there is
pub sum-ones : {X : Type 0} (xs : List X) → sum_by (λ _. 1) xs ≡ length xs
sum-ones [] = refl
sum-ones {X} (x ∷ xs) =
    let w : X → ℕ = λ (_ : X). 1 in
    omega (arith, sum_by-cons w x xs, sum-ones xs)

pub often-length : {X : Type 0} (xs ys : List X) → AsOften xs ys → length xs ≡ length ys
often-length {X} xs ys often =
    let w : X → ℕ = λ (_ : X). 1 in
    sym (sum-ones xs) ∙ (often.weighs w ∙ sum-ones ys)

pub slots-count : (node sink : NodeId) (spread k : ℕ) (slots : List ArcId)
    → length (slot_spans node sink spread k slots) ≡ length slots
slots-count node sink spread k [] = refl
slots-count node sink spread k (arc ∷ rest) = omega (arith, slots-count node sink spread (k + 1) rest)

pub preferred-count : (node : NodeId) (cost : ℕ) (heads : List NodeId) (arcs : List ArcId) → length arcs ≡ length heads
    → length (preferred_spans node cost heads arcs) ≡ length heads
preferred-count node cost [] arcs e = refl
preferred-count node cost (head ∷ heads) [] e = absurd (omega arith)
preferred-count node cost (head ∷ heads) (arc ∷ arcs) e =
    let shorter : length arcs ≡ length heads = omega arith in
    omega (arith, preferred-count node cost heads arcs shorter)

-- the net holds as many nodes as the rows use
pub nodes-counted : (g : Graph) → Mirrors g → node_count g.net ≡ arena_nodes g.rows
nodes-counted g is =
    omega (
      arith,
      often-length (nodes_of g.net) (graph_nodes g) is.nodes,
      length-map (entries g.net.nodes) (λ e. let n : NodeId = record { id = e.0 } in n),
      length-entries_from 0 g.net.nodes.held,
      length-append (g.hub ∷ g.sink ∷ machine_nodes g) (job_nodes g ++ task_nodes g),
      length-append (job_nodes g) (task_nodes g),
      length-map g.machines (λ (p : MachineParts). p.node),
      length-map g.jobs (λ (p : JobParts). p.node),
      length-map g.tasks (λ (p : TaskParts). p.node),
    )
