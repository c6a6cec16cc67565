use Rattle.std.proofs.Common.{ℕ, List, ◌++◌, drop}
use Rattle.firm_net.specs.Net.{IsNet}
use Rattle.firm_net.specs.declared.row.NodeId.{NodeId}
use Rattle.firm_net.specs.Edits.{Span}
use Rattle.firm_graph.specs.inner.Steps.{Holds}
use Rattle.firm_graph.specs.Graph.{slot_spans}
use Rattle.firm_graph.proofs.edits.unlink_slots.Given as goal

abbrev pub invariant-loop-arc : goal.invariant-loop-arc
invariant-loop-arc l = record {
  net : IsNet l.net;
  left : (ns : List NodeId) (ss : List Span) (node sink : NodeId) (spread : ℕ)
      → Holds l.initial.net l.initial.net ns (slot_spans node sink spread 0 l.slots ++ ss)
      → Holds l.initial.net l.net ns (slot_spans node sink spread l.arc-index (drop l.arc-index l.slots) ++ ss);
}
