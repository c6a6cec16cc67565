-- A net apart from its flow, and the nodes and arcs that a change removes and adds.
use Rattle.std.specs.Prelude.{◌≡◌, ℕ, ◌+◌, ◌≤◌, ◌↔◌, List, map, length, sum_by}
use Rattle.firm_arena.specs.Arena.{entries, capacity_of}
use Rattle.firm_net.specs.Row.{Row}
use Rattle.firm_net.specs.Net.{Net, IsNet, IsNode, added_of, node_count, arc_count}
use Rattle.firm_net.specs.declared.row.NodeId.{NodeId}
use Rattle.firm_net.specs.declared.row.ArcId.{ArcId}

-- an arc apart from its lower bound and its flow
pub record Span : Type 0 where
  pub arc : ArcId
  pub tail : NodeId
  pub head : NodeId
  pub cap : ℕ
  pub cost : ℕ

abbrev pub span_of : ArcId → Row → Span
span_of arc row = record { arc = arc; tail = row.tail; head = row.head; cap = row.cap; cost = row.cost }

-- the nodes of a net
abbrev pub nodes_of : Net → List NodeId
nodes_of net = map (λ e. record { id = e.0 }) (entries net.nodes)

-- the arcs of a net, apart from their lower bounds and flows
abbrev pub spans_of : Net → List Span
spans_of net = map (λ e. span_of (record { id = e.0 }) e.1) (entries net.arcs)

-- the same elements, each as often: whatever each weighs, both lists weigh the same
pub record AsOften {X : Type 0} (xs ys : List X) : Type 0 where
  pub weighs : (weight : X → ℕ) → sum_by weight xs ≡ sum_by weight ys

-- an edit takes these nodes and arcs away from a net and brings those; all others stay, and so does the room for them
pub record IsEdit (old new : Net) (nodes_gone nodes_come : List NodeId) (gone come : List Span) : Type 0 where
  pub nodes : (weight : NodeId → ℕ)
      → sum_by weight (nodes_of new) + sum_by weight nodes_gone
      ≡ sum_by weight (nodes_of old) + sum_by weight nodes_come
  pub spans : (weight : Span → ℕ)
      → sum_by weight (spans_of new) + sum_by weight gone
      ≡ sum_by weight (spans_of old) + sum_by weight come
  pub counted_nodes : node_count new + length nodes_gone ≡ node_count old + length nodes_come
  pub counted_arcs : arc_count new + length gone ≡ arc_count old + length come
  pub node_room : capacity_of new.nodes ≡ capacity_of old.nodes
  pub arc_room : capacity_of new.arcs ≡ capacity_of old.arcs
  pub added : added_of new ≤ added_of old + (length nodes_come + length come)
  pub net : IsNet new

-- the same nodes are there
abbrev pub SameNodes : Net → Net → Type 0
SameNodes old new = (n : NodeId) → IsNode new n ↔ IsNode old n
