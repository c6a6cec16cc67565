-- What a graph is once a job was removed from it.
use Rattle.std.proofs.Common.{◌≡◌, ℕ, zero, suc, ◌+◌, ◌<◌, false, cond, Some, List, [], ◌∷◌, ◌++◌, map, length, get_or}
use Rattle.std.proofs.Common.{bytes_eq, arith, sym, ap, ap₂, ◌∙◌, refl}
use Rattle.std.specs.List.{sum_by, All, Contains, remove, position}
use Rattle.std.specs.Prelude.{slice_index_or}
use Rattle.std.proofs.lemmas.Bool.{cond-false}
use Rattle.std.proofs.lemmas.List.Sums.{sum_by-cons, sum_by-remove}
use Rattle.std.proofs.lemmas.List.Edits.{length-remove}
use Rattle.indexmap.proofs.SetLemmas.{map-remove}
use Rattle.std.proofs.lemmas.List.Elements.{Contains-append_left, Contains-append_right}
use Rattle.firm_net.specs.Row.{Row}
use Rattle.firm_net.specs.Laws.{contains-mapped}
use Rattle.firm_net.specs.Net.{Net, row_at}
use Rattle.firm_net.specs.declared.row.NodeId.{NodeId}
use Rattle.firm_rules.specs.Book.{job_names}
use Rattle.firm_graph.specs.inner.Steps.{job_gone, Holds}
use Rattle.firm_rules.specs.declared.book.Job.{Job}
use Rattle.firm_rules.specs.declared.book.Task.{Task}
use Rattle.firm_net.specs.Edits.{Span, span_of, IsEdit}
use Rattle.firm_graph.specs.declared.ids.JobParts.{JobParts}
use Rattle.firm_graph.specs.Graph.{Graph, Mirrors, job_spans, Target, target_of, node_under, weight_under, graph_nodes}
use Rattle.firm_graph.specs.Graph.{graph_spans, machine_nodes, job_nodes, task_nodes}
use Rattle.firm_graph.proofs.Said.{shrunk}
use Rattle.firm_graph.proofs.Totals.{jobs-paired, nodes-total, spans-total, tasks-same, sum-one}
use Rattle.firm_graph.proofs.Drops.{holds-start, holds-unlinked, flat_sum-remove, free, IsFree}
use Rattle.firm_graph.proofs.Machines.{node_under-remove, name-at}

weight_under-remove : (jobs : List Job) (i : ℕ) (name : List ℕ) → i < length jobs
    → bytes_eq name (get_or (map (λ j. j.name) jobs) i []) ≡ false
    → weight_under (remove jobs i) name ≡ weight_under jobs name
weight_under-remove [] i name below f = absurd (omega arith)
weight_under-remove (j ∷ jobs) zero name below f =
    sym (cond-false (bytes_eq name j.name) j.weight (weight_under jobs name) f)
weight_under-remove (j ∷ jobs) (suc i) name below f =
    ap (λ (x : ℕ). cond (bytes_eq name j.name) j.weight x) (weight_under-remove jobs i name (omega arith) f)

-- the graph without the job at a place
abbrev pub job_dropped : Graph → Net → ℕ → Graph
job_dropped g net place =
    record g { rows = job_gone g.rows place; net = net; jobs = remove g.jobs place }

abbrev no_job : Job
no_job = record { name = []; weight = 0 }

abbrev pub exit_of : Graph → JobParts → Span
exit_of g parts = record { arc = parts.exit; tail = parts.node; head = g.sink; cap = g.rows.limits.nodes; cost = 0 }

module _ (g : Graph) (net : Net) (place : ℕ) (name : List ℕ) (parts : JobParts) (is : Mirrors g)
    (below : place < length g.jobs)
    (at : parts ≡ get_or g.jobs place parts) (named : position (bytes_eq name) (job_names g.rows) ≡ Some place)
    (off : All (λ task. bytes_eq task.job name ≡ false) g.rows.tasks) where
  apart : (task : Task) → bytes_eq task.job name ≡ false → bytes_eq task.job (get_or (job_names g.rows) place []) ≡
      false
  apart task f = ap (λ (x : List ℕ). bytes_eq task.job x) (name-at (job_names g.rows) name place named).0 ∙ f

  pub job-target : All (λ task. target_of (job_dropped g net place) task ≡ target_of g task) g.rows.tasks
  job-target k d here =
      let task : Task = slice_index_or g.rows.tasks k d in
      let other : bytes_eq task.job (get_or (job_names g.rows) place []) ≡ false = apart task (off k d here) in
      let owner : node_under (job_names (job_gone g.rows place)) (map (λ (p : JobParts). p.node) (remove g.jobs place))
      g.hub task.job
      ≡ node_under (job_names g.rows) (job_nodes g) g.hub task.job =
      ap₂ (λ (ns : List (List ℕ)) (xs : List NodeId). node_under ns xs g.hub task.job)
      (map-remove (λ (j : Job). j.name) g.rows.jobs place) (map-remove (λ (p : JobParts). p.node) g.jobs place)
      ∙ node_under-remove (job_names g.rows) (job_nodes g) place g.hub task.job (jobs-paired g is.jobs)
      (name-at (job_names g.rows) name place named).1 other in
      let weight : weight_under (remove g.rows.jobs place) task.job ≡ weight_under g.rows.jobs task.job =
      weight_under-remove g.rows.jobs place task.job (omega (arith, below, is.jobs)) other in
      ap₂ (λ (n : NodeId) (w : ℕ). let t : Target = record (target_of g task) { owner = n; delay = w + task.waited } in
      t) owner weight

  pub job-start : Holds g.net g.net (graph_nodes g) (exit_of g parts ∷ graph_spans (job_dropped g net place))
  job-start =
      let f = job_spans g.sink g.rows.limits.nodes in
      let rest : List Span = graph_spans (job_dropped g net place) in
      let s : Span = exit_of g parts in
      let here : place < length g.rows.jobs = omega (arith, below, is.jobs) in
      holds-start g is (s ∷ rest)
      (record {
        weighs = λ w. omega (
          arith,
          sum_by-cons w s rest,
          sum-one w s,
          spans-total w g,
          spans-total w (job_dropped g net place),
          flat_sum-remove w f g.rows.jobs g.jobs place no_job parts here is.jobs,
          ap (λ (p : JobParts). sum_by w (f (get_or g.rows.jobs place no_job) p)) at,
          tasks-same w g (target_of (job_dropped g net place)) (target_of g) job-target,
        );
      })

  pub job-nodes : (w : NodeId → ℕ) → sum_by w (graph_nodes g) ≡ w parts.node + sum_by w
      (graph_nodes (job_dropped g net place))
  job-nodes w =
      omega (
        arith,
        nodes-total w g,
        nodes-total w (job_dropped g net place),
        sum_by-remove (λ (p : JobParts). w p.node) g.jobs place parts below,
        ap (λ (p : JobParts). w p.node) at,
      )

  pub job-listed : Contains (graph_nodes g) parts.node
  job-listed =
      Contains-append_right (g.hub ∷ g.sink ∷ machine_nodes g) (job_nodes g ++ task_nodes g) parts.node
      (Contains-append_left (job_nodes g) (task_nodes g) parts.node
      (contains-mapped (λ (p : JobParts). p.node) g.jobs parts (place, below, sym at)))

  pub job-unlinked : (n1 : Net) → ((row : Row) → row_at g.net parts.exit ≡ Some row → IsEdit g.net n1 [] []
      (span_of parts.exit row ∷ []) [])
      → Holds g.net n1 (graph_nodes g) (graph_spans (job_dropped g net place))
  job-unlinked n1 edit = holds-unlinked g.net g.net n1 (graph_nodes g) (exit_of g parts)
      (graph_spans (job_dropped g net place)) job-start edit

  pub job-free : (now : Net) → Holds g.net now (graph_nodes g) (graph_spans (job_dropped g net place)) → IsFree now
      parts.node
  job-free now h = free g.net now parts.node (graph_nodes g) (job_dropped g net place) h job-nodes job-listed

  pub job-dropped : (before : Net) → Holds g.net before (graph_nodes g) (graph_spans (job_dropped g net place)) →
      IsEdit before net (parts.node ∷ []) [] [] []
      → Mirrors (job_dropped g net place)
  job-dropped before h edit =
      let here : place < length g.rows.jobs = omega (arith, below, is.jobs) in
      shrunk g (job_dropped g net place) before parts.node is h edit job-nodes refl refl
      (record {
        slots = is.slots;
        preferred = is.preferred;
        machines = is.machines;
        jobs = omega (arith, is.jobs, length-remove g.jobs place below, length-remove g.rows.jobs place here);
        tasks = is.tasks;
      })
