-- What a graph is once a machine was removed from it.
use Rattle.std.proofs.Common.{◌≡◌, ℕ, zero, suc, ◌+◌, ◌<◌, false, cond, Option, Some, None, List, [], ◌∷◌, ◌++◌, map}
use Rattle.std.proofs.Common.{length, get_or, bytes_eq, arith, refl, sym, ap, ap₂, ◌∙◌}
use Rattle.std.specs.List.{sum_by, All, Contains, remove, position}
use Rattle.std.specs.Prelude.{slice_index_or}
use Rattle.std.proofs.lemmas.Bool.{cond-false, both_ways, false_from_ne_true}
use Rattle.std.proofs.lemmas.List.Elements.{Contains-append_left, Contains-append_right}
use Rattle.std.proofs.lemmas.List.Quantifiers.{position-Some}
use Rattle.std.proofs.lemmas.List.Sums.{sum_by-append, sum_by-remove}
use Rattle.std.proofs.lemmas.List.Edits.{length-remove}
use Rattle.std.proofs.lemmas.Slice.Eq.{bytes_eq-Decides}
use Rattle.indexmap.proofs.SetLemmas.{map-remove}
use Rattle.firm_net.specs.Row.{Row}
use Rattle.firm_net.specs.Laws.{contains-mapped}
use Rattle.firm_net.specs.Net.{Net, row_at}
use Rattle.firm_net.specs.declared.row.NodeId.{NodeId}
use Rattle.firm_rules.specs.Book.{machine_names, is_on}
use Rattle.firm_graph.specs.inner.Steps.{machine_gone, Holds}
use Rattle.firm_rules.specs.declared.book.Machine.{Machine}
use Rattle.firm_rules.specs.declared.book.Task.{Task}
use Rattle.firm_net.specs.Edits.{Span, span_of, IsEdit}
use Rattle.firm_graph.specs.Parts.{MachineParts}
use Rattle.firm_graph.specs.Graph.{Graph, Mirrors, machine_spans, slot_spans, Target, target_of, home_node, node_under}
use Rattle.firm_graph.specs.Graph.{graph_nodes, graph_spans, machine_nodes, job_nodes, task_nodes}
use Rattle.firm_graph.proofs.Lookups.{map-all}
use Rattle.firm_graph.proofs.Said.{shrunk}
use Rattle.firm_graph.proofs.Totals.{machines-paired, nodes-total, spans-total, tasks-same}
use Rattle.firm_graph.proofs.Drops.{holds-start, holds-unlinked, holds-through, flat_sum-remove, AllZip-remove, free}
use Rattle.firm_graph.proofs.Drops.{IsFree}

-- look-ups of another name, once a name is removed
pub node_under-remove : (names : List (List ℕ)) (nodes : List NodeId) (i : ℕ) (other : NodeId) (name : List ℕ)
    → length nodes ≡ length names → i < length names
    → bytes_eq name (get_or names i []) ≡ false
    → node_under (remove names i) (remove nodes i) other name ≡ node_under names nodes other name
node_under-remove [] nodes i other name e below f = absurd (omega arith)
node_under-remove (m ∷ names) [] i other name e below f = absurd (omega arith)
node_under-remove (m ∷ names) (n ∷ nodes) zero other name e below f =
    sym (cond-false (bytes_eq name m) n (node_under names nodes other name) f)
node_under-remove (m ∷ names) (n ∷ nodes) (suc i) other name e below f =
    ap (λ (x : NodeId). cond (bytes_eq name m) n x)
    (node_under-remove names nodes i other name (omega arith) (omega arith) f)

-- the graph without the machine at a place
abbrev pub machine_dropped : Graph → Net → ℕ → Graph
machine_dropped g net place =
    record g { rows = machine_gone g.rows place; net = net; machines = remove g.machines place }

-- two names differ either way
pub bytes_eq-swap : (a b : List ℕ) → bytes_eq a b ≡ false → bytes_eq b a ≡ false
bytes_eq-swap a b f =
    false_from_ne_true (bytes_eq b a)
    (λ t. both_ways (bytes_eq a b) f ((bytes_eq-Decides a b).1 (sym ((bytes_eq-Decides b a).0 t))))

-- the machine of a name stands at its position
pub name-at : (names : List (List ℕ)) (name : List ℕ) (place : ℕ) → position (bytes_eq name) names ≡ Some place
    → (get_or names place [] ≡ name) × (place < length names)
name-at names name place e =
    let at = position-Some (bytes_eq name) names place [] e in
    (sym ((bytes_eq-Decides name (get_or names place [])).0 at.1), at.0)

home-elsewhere : (g : Graph) (place : ℕ) (name : List ℕ) (home : Option (List ℕ))
    → length g.machines ≡ length g.rows.machines
    → position (bytes_eq name) (machine_names g.rows) ≡ Some place → is_on name home ≡ false
    → home_node (machine_names (machine_gone g.rows place))
    (map (λ (p : MachineParts). p.node) (remove g.machines place)) g.hub home
    ≡ home_node (machine_names g.rows) (machine_nodes g) g.hub home
home-elsewhere g place name None e at off = refl
home-elsewhere g place name (Some m) e at off =
    let n = name-at (machine_names g.rows) name place at in
    ap₂ (λ (ns : List (List ℕ)) (xs : List NodeId). node_under ns xs g.hub m)
    (map-remove (λ (j : Machine). j.name) g.rows.machines place)
    (map-remove (λ (p : MachineParts). p.node) g.machines place)
    ∙ node_under-remove (machine_names g.rows) (machine_nodes g) place g.hub m (machines-paired g e) n.1
    (ap (λ (x : List ℕ). bytes_eq m x) n.0 ∙ bytes_eq-swap name m off)

preferred-elsewhere : (g : Graph) (place : ℕ) (name : List ℕ) (preferred : List (List ℕ))
    → length g.machines ≡ length g.rows.machines
    → position (bytes_eq name) (machine_names g.rows) ≡ Some place → All (λ m. bytes_eq name m ≡ false) preferred
    → map (node_under (machine_names (machine_gone g.rows place))
    (map (λ (p : MachineParts). p.node) (remove g.machines place)) g.hub) preferred
    ≡ map (node_under (machine_names g.rows) (machine_nodes g) g.hub) preferred
preferred-elsewhere g place name preferred e at off =
    map-all (node_under (machine_names (machine_gone g.rows place))
    (map (λ (p : MachineParts). p.node) (remove g.machines place)) g.hub)
    (node_under (machine_names g.rows) (machine_nodes g) g.hub) preferred
    (λ k d below. home-elsewhere g place name (Some (get_or preferred k d)) e at (off k d below))

abbrev no_machine : Machine
no_machine = record { name = []; slots = 0 }

abbrev pub through_of : Graph → ℕ → MachineParts → Span
through_of g place parts =
    record {
      arc = parts.through;
      tail = g.hub;
      head = parts.node;
      cap =
          (get_or g.rows.machines place no_machine).slots;
      cost = 0;
    }

module _ (g : Graph) (net : Net) (place : ℕ) (name : List ℕ) (parts : MachineParts) (is : Mirrors g)
    (below : place < length g.machines)
    (at : parts ≡ get_or g.machines place parts) (named : position (bytes_eq name) (machine_names g.rows) ≡ Some place)
    (off : All (λ task. is_on name task.machine ≡ false) g.rows.tasks)
    (loose : All (λ task. All (λ m. bytes_eq name m ≡ false) task.preferred) g.rows.tasks) where
  new : Graph
  new = machine_dropped g net place

  pub machine-target : All (λ task. target_of (machine_dropped g net place) task ≡ target_of g task) g.rows.tasks
  machine-target k d here =
      let task : Task = slice_index_or g.rows.tasks k d in
      ap₂ (λ (n : NodeId) (l : List NodeId). let t : Target = record (target_of g task) { home = n; preferred = l } in
      t) (home-elsewhere g place name task.machine is.machines named (off k d here))
      (preferred-elsewhere g place name task.preferred is.machines named (loose k d here))

  pub machine-start : Holds g.net g.net (graph_nodes g)
      (through_of g place parts ∷ slot_spans parts.node g.sink g.rows.limits.spread 0 parts.slots ++ graph_spans
      (machine_dropped g net place))
  machine-start =
      let f = machine_spans g.hub g.sink g.rows.limits.spread in
      let rest : List Span = graph_spans (machine_dropped g net place) in
      let slots : List Span = slot_spans parts.node g.sink g.rows.limits.spread 0 parts.slots in
      let s : Span = through_of g place parts in
      let here : place < length g.rows.machines = omega (arith, below, is.machines) in
      holds-start g is (s ∷ slots ++ rest)
      (record {
        weighs = λ w. omega (
          arith,
          sum_by-append w (s ∷ slots) rest,
          spans-total w g,
          spans-total w (machine_dropped g net place),
          flat_sum-remove w f g.rows.machines g.machines place no_machine parts here is.machines,
          ap (λ (p : MachineParts). sum_by w (f (get_or g.rows.machines place no_machine) p)) at,
          tasks-same w g (target_of (machine_dropped g net place)) (target_of g) machine-target,
        );
      })

  pub machine-nodes : (w : NodeId → ℕ) → sum_by w (graph_nodes g) ≡ w parts.node + sum_by w
      (graph_nodes (machine_dropped g net place))
  machine-nodes w =
      omega (
        arith,
        nodes-total w g,
        nodes-total w (machine_dropped g net place),
        sum_by-remove (λ (p : MachineParts). w p.node) g.machines place parts below,
        ap (λ (p : MachineParts). w p.node) at,
      )

  pub machine-listed : Contains (graph_nodes g) parts.node
  machine-listed =
      Contains-append_right (g.hub ∷ g.sink ∷ []) (machine_nodes g ++ (job_nodes g ++ task_nodes g)) parts.node
      (Contains-append_left (machine_nodes g) (job_nodes g ++ task_nodes g) parts.node
      (contains-mapped (λ (p : MachineParts). p.node) g.machines parts (place, below, sym at)))

  pub machine-free : (now : Net) → Holds g.net now (graph_nodes g) (graph_spans (machine_dropped g net place)) → IsFree
      now parts.node
  machine-free now h = free g.net now parts.node (graph_nodes g) (machine_dropped g net place) h machine-nodes
      machine-listed

  pub machine-dropped : (before : Net) → Holds g.net before (graph_nodes g) (graph_spans (machine_dropped g net place))
      → IsEdit before net (parts.node ∷ []) [] [] []
      → Mirrors (machine_dropped g net place)
  machine-dropped before h edit =
      let here : place < length g.rows.machines = omega (arith, below, is.machines) in
      shrunk g (machine_dropped g net place) before parts.node is h edit machine-nodes refl refl
      (record {
        slots = AllZip-remove (λ (m : Machine) (p : MachineParts). length p.slots ≡ m.slots) g.rows.machines g.machines
            place is.slots;
        preferred = is.preferred;
        machines = omega (
          arith,
          length-remove g.machines place below,
          length-remove g.rows.machines place
              here,
        );
        jobs = is.jobs;
        tasks = is.tasks;
      })

  pub machine-unlinked : (n1 n2 : Net)
      → ((row : Row) → row_at g.net parts.through ≡ Some row → IsEdit g.net n1 [] [] (span_of parts.through row ∷ [])
      [])
      → ((ns : List NodeId) (ss : List Span) (node sink : NodeId) (spread : ℕ) → Holds n1 n1 ns
      (slot_spans node sink spread 0 parts.slots ++ ss) → Holds n1 n2 ns ss)
      → Holds g.net n2 (graph_nodes g) (graph_spans (machine_dropped g net place))
  machine-unlinked n1 n2 one rest =
      let slots : List Span = slot_spans parts.node g.sink g.rows.limits.spread 0 parts.slots in
      let left : List Span = graph_spans (machine_dropped g net place) in
      holds-through g.net n1 n2 (graph_nodes g) (slots ++ left) left
      (holds-unlinked g.net g.net n1 (graph_nodes g) (through_of g place parts) (slots ++ left) machine-start one)
      (rest (graph_nodes g) left parts.node g.sink g.rows.limits.spread)
