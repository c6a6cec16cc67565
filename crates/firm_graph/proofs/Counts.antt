-- The network of some rows has as many nodes and arcs as they take of the arena.
use Rattle.std.proofs.Common.{◌≡◌, ℕ, zero, suc, ◌+◌, ◌*◌, cond, is_some, List, [], ◌∷◌, ◌++◌, length, arith, refl}
use Rattle.std.proofs.Common.{sym, ap, length-append}
use Rattle.std.proofs.lemmas.List.{length-map}
use Rattle.std.specs.List.{sum_by}
use Rattle.std.proofs.lemmas.List.Sums.{sum_by-cons}
use Rattle.firm_arena.specs.Arena.{entries}
use Rattle.firm_arena.specs.Laws.{length-entries_from}
use Rattle.firm_net.specs.Net.{arc_count}
use Rattle.firm_net.specs.Edits.{Span, span_of, spans_of}
use Rattle.firm_paths.specs.Network.{Arc}
use Rattle.firm_rules.specs.ArenaUse.{arena_arcs, preference_count}
use Rattle.firm_rules.specs.Book.{TenantRows, machine_names}
use Rattle.firm_rules.specs.Placement.{Case}
use Rattle.firm_rules.specs.Round.{case_of, demand_of}
use Rattle.firm_rules.specs.declared.book.Machine.{Machine}
use Rattle.firm_rules.specs.declared.book.Job.{Job}
use Rattle.firm_rules.specs.declared.book.Task.{Task}
use Rattle.firm_graph.specs.declared.network.Node.{Node}
use Rattle.firm_graph.specs.declared.network.Node.TheVariants.{Machine as MachineAt, Owner as JobAt, Task as TaskAt}
use Rattle.firm_graph.specs.declared.network.Key.{Key}
use Rattle.firm_graph.specs.Network.{gather, task_nodes, IsCounted}
use Rattle.firm_graph.specs.Graph.{Graph, Mirrors, graph_spans}
use Rattle.firm_graph.specs.Ids.{node_id, arc_id}
use Rattle.firm_graph.proofs.Totals.{often-length}
use Rattle.firm_graph.proofs.Networks.{shown, graph-shown}
use Rattle.firm_graph.proofs.Bridge.{slot_rows, machine_rows, job_rows, preferred_rows, task_rows, rows_network, fill}
use Rattle.firm_graph.proofs.Bridge.{network_is}
use Rattle.firm_graph.proofs.Shown.{gather-count}

slots-count : (spread j k left : ℕ) → length (slot_rows spread j k left) ≡ left
slots-count spread j k zero = refl
slots-count spread j k (suc left) = omega (arith, slots-count spread j (k + 1) left)

machines-count : (spread j : ℕ) (ms : List Machine)
    → length (machine_rows spread j ms) ≡ sum_by (λ machine. 1 + machine.slots) ms
machines-count spread j [] = refl
machines-count spread j (m ∷ ms) =
    omega (
      arith,
      length-append (slot_rows spread j 0 m.slots) (machine_rows spread (j + 1) ms),
      slots-count spread j 0 m.slots,
      machines-count spread (j + 1) ms,
      sum_by-cons {X = Machine},
    )

jobs-count : (limit k : ℕ) (js : List Job) → length (job_rows limit k js) ≡ length js
jobs-count limit k [] = refl
jobs-count limit k (j ∷ js) = omega (arith, jobs-count limit (k + 1) js)

preferred-count : (names : List (List ℕ)) (cost i k : ℕ) (preferred : List (List ℕ))
    → length (preferred_rows names cost i k preferred) ≡ length preferred
preferred-count names cost i k [] = refl
preferred-count names cost i k (name ∷ rest) = omega (arith, preferred-count names cost i (k + 1) rest)

tasks-count : (rows : TenantRows) (i : ℕ) (ts : List Task)
    → length (task_rows rows i ts) ≡ 3 * length ts + preference_count ts
tasks-count rows i [] = refl
tasks-count rows i (t ∷ ts) =
    let cost : ℕ = cond (is_some t.machine) rows.limits.churn 0 in
    let own : List (Arc Node Key) = preferred_rows (machine_names rows) cost i 0 t.preferred in
    omega (
      arith,
      length-append own (task_rows rows (i + 1) ts),
      preferred-count (machine_names rows) cost i 0 t.preferred,
      tasks-count rows (i + 1) ts,
      sum_by-cons (λ (task : Task). length task.preferred) t ts,
    )

rows-counted : (rows : TenantRows) → length (rows_network rows) ≡ arena_arcs rows
rows-counted rows =
    omega (
      arith,
      length-append (machine_rows rows.limits.spread 0 rows.machines)
          (job_rows rows.limits.nodes 0 rows.jobs ++ task_rows rows 0 rows.tasks),
      length-append (job_rows rows.limits.nodes 0 rows.jobs) (task_rows rows 0 rows.tasks),
      machines-count rows.limits.spread 0 rows.machines,
      jobs-count rows.limits.nodes 0 rows.jobs,
      tasks-count rows 0 rows.tasks,
    )

-- the net holds as many arcs as the rows use
pub arcs-counted : (g : Graph) → Mirrors g → arc_count g.net ≡ arena_arcs g.rows
arcs-counted g is =
    omega (
      arith,
      often-length (spans_of g.net) (graph_spans g) is.spans,
      length-map (entries g.net.arcs) (λ e. span_of (record { id = e.0 }) e.1),
      length-entries_from 0 g.net.arcs.held,
      ap (λ (l : List Span). length l) (graph-shown g is),
      length-map (rows_network g.rows) (shown (node_id g) (arc_id g)),
      rows-counted g.rows,
    )

pub counted : (rows : TenantRows) → IsCounted rows
counted rows =
    let c : Case = case_of rows in
    let ms : List Node = gather (λ j. MachineAt j ∷ []) (length c.slots) in
    let js : List Node = gather (λ k. JobAt k ∷ []) c.jobs in
    record {
      nodes = omega (
        arith,
        length-append ms (js ++ task_nodes c),
        length-append js (task_nodes c),
        gather-count MachineAt (length c.slots),
        gather-count JobAt c.jobs,
        gather-count TaskAt (length c.tasks),
        length-map rows.machines (λ (m : Machine). m.slots),
        length-map rows.tasks (demand_of rows),
      );
      arcs = λ low flow.
          omega (
            arith,
            ap (λ (l : List (Arc Node Key)). length l) (sym (network_is rows low flow)),
            length-map (rows_network rows) (fill low flow),
            rows-counted rows,
          );
    }
