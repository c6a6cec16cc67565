-- Graphs whose rows and parts are said by equations, and graphs with a row more or less.
use Rattle.std.proofs.Common.{◌≡◌, ℕ, ◌+◌, ◌^◌, ◌<◌, ◌≤◌, List, [], ◌∷◌, length, arith, sym, ap, ◌∙◌, subst}
use Rattle.std.specs.List.{sum_by, AllZip}
use Rattle.firm_net.specs.Net.{Net}
use Rattle.firm_net.specs.Edits.{Span, IsEdit}
use Rattle.firm_net.specs.declared.row.NodeId.{NodeId}
use Rattle.firm_rules.specs.Book.{TenantRows}
use Rattle.firm_rules.specs.Limits.{TenantLimits}
use Rattle.firm_graph.specs.Parts.{MachineParts}
use Rattle.firm_graph.specs.declared.ids.JobParts.{JobParts}
use Rattle.firm_graph.specs.declared.ids.TaskParts.{TaskParts}
use Rattle.firm_graph.specs.Graph.{Graph, Mirrors, graph_nodes, graph_spans}
use Rattle.firm_graph.specs.inner.Steps.{Holds}
use Rattle.firm_graph.proofs.Totals.{sum-one}

-- rows and parts of the same value make the same graph
pub said : (g : Graph) (rows : TenantRows) (machines : List MachineParts) (jobs : List JobParts)
    (tasks : List TaskParts)
    → rows ≡ g.rows → machines ≡ g.machines → jobs ≡ g.jobs → tasks ≡ g.tasks → Mirrors g
    → Mirrors (record g { rows = rows; machines = machines; jobs = jobs; tasks = tasks })
said g rows machines jobs tasks a b c d is =
    let P : TenantRows → List MachineParts → List JobParts → List TaskParts → Type 0 =
    λ (r : TenantRows) (m : List MachineParts) (j : List JobParts) (t : List TaskParts). Mirrors
    (record g { rows = r; machines = m; jobs = j; tasks = t }) in
    subst (λ (r : TenantRows). P r machines jobs tasks) (sym a)
    (subst (λ (m : List MachineParts). P g.rows m jobs tasks) (sym b)
    (subst (λ (j : List JobParts). P g.rows g.machines j tasks) (sym c)
    (subst (λ (t : List TaskParts). P g.rows g.machines g.jobs t) (sym d) is)))

-- each row has its parts
pub record Paired (g : Graph) : Type 0 where
  pub slots : AllZip (λ machine parts. length parts.slots ≡ machine.slots) g.rows.machines g.machines
  pub preferred : AllZip (λ task parts. length parts.arcs.preferred ≡ length task.preferred) g.rows.tasks g.tasks
  pub machines : length g.machines ≡ length g.rows.machines
  pub jobs : length g.jobs ≡ length g.rows.jobs
  pub tasks : length g.tasks ≡ length g.rows.tasks

-- a graph with a row more, whose node and arcs an edit brings to the net
pub grown : (g new : Graph) (node : NodeId) (own : List Span) → Mirrors g → IsEdit g.net new.net [] (node ∷ []) [] own
    → ((w : NodeId → ℕ) → sum_by w (graph_nodes new) ≡ sum_by w (graph_nodes g) + w node)
    → ((w : Span → ℕ) → sum_by w (graph_spans new) ≡ sum_by w (graph_spans g) + sum_by w own)
    → new.rows.limits ≡ g.rows.limits → length own ≤ 65 → new.asked ≡ g.asked + 1 → g.asked < 2 ^ 40
    → Paired new → Mirrors new
grown g new node own is edit nodes spans limits few counted room paired =
    record {
      net = edit.net;
      nodes = record { weighs = λ w. omega (arith, edit.nodes w, is.nodes.weighs w, nodes w, sum-one w node) };
      spans = record { weighs = λ w. omega (arith, edit.spans w, is.spans.weighs w, spans w) };
      slots = paired.slots;
      preferred = paired.preferred;
      machines = paired.machines;
      jobs = paired.jobs;
      tasks = paired.tasks;
      node_room = edit.node_room ∙ is.node_room ∙ sym (ap (λ (l : TenantLimits). l.nodes) limits);
      arc_room = edit.arc_room ∙ is.arc_room ∙ sym (ap (λ (l : TenantLimits). l.arcs) limits);
      added = omega (arith, edit.added, is.added, few, counted);
      asked = omega (arith, counted, room);
    }

-- a graph with a row less, once the net has lost the row's arcs and an edit takes its node away
pub shrunk : (g new : Graph) (before : Net) (node : NodeId) → Mirrors g
    → Holds g.net before (graph_nodes g) (graph_spans new) → IsEdit before new.net (node ∷ []) [] [] []
    → ((w : NodeId → ℕ) → sum_by w (graph_nodes g) ≡ w node + sum_by w (graph_nodes new))
    → new.rows.limits ≡ g.rows.limits → new.asked ≡ g.asked → Paired new → Mirrors new
shrunk g new before node is h edit nodes limits counted paired =
    record {
      net = edit.net;
      nodes = record { weighs = λ w. omega (arith, edit.nodes w, sum-one w node, h.nodes.weighs w, nodes w) };
      spans = record { weighs = λ w. omega (arith, edit.spans w, h.spans.weighs w) };
      slots = paired.slots;
      preferred = paired.preferred;
      machines = paired.machines;
      jobs = paired.jobs;
      tasks = paired.tasks;
      node_room = edit.node_room ∙ h.node_room ∙ is.node_room ∙ sym (ap (λ (l : TenantLimits). l.nodes) limits);
      arc_room = edit.arc_room ∙ h.arc_room ∙ is.arc_room ∙ sym (ap (λ (l : TenantLimits). l.arcs) limits);
      added = omega (arith, edit.added, h.added, is.added, counted);
      asked = omega (arith, counted, is.asked);
    }
