use Rattle.std.proofs.Common.{◌≡◌, ℕ, List, ◌++◌, length, drop}
use Rattle.firm_net.specs.Net.{IsNet}
use Rattle.firm_net.specs.declared.row.NodeId.{NodeId}
use Rattle.firm_net.specs.Edits.{Span}
use Rattle.firm_graph.specs.inner.Steps.{Holds}
use Rattle.firm_graph.specs.Graph.{preferred_spans}
use Rattle.firm_graph.proofs.edits.unlink_preferred.Given as goal

abbrev pub invariant-loop-place : goal.invariant-loop-place
invariant-loop-place l = record {
  net : IsNet l.net;
  left : (ns : List NodeId) (ss : List Span) (node : NodeId) (cost : ℕ) (heads : List NodeId)
      → length heads ≡ length l.arcs
      → Holds l.initial.net l.initial.net ns (preferred_spans node cost heads l.arcs ++ ss)
      → Holds l.initial.net l.net ns (preferred_spans node cost (drop l.place heads) (drop l.place l.arcs) ++ ss);
}
