use Rattle.std.proofs.Common.{◌≡◌, ℕ, List, ◌++◌, length}
use Rattle.firm_net.specs.Net.{Net, IsNet}
use Rattle.firm_net.specs.declared.row.NodeId.{NodeId}
use Rattle.firm_net.specs.Edits.{Span}
use Rattle.firm_graph.specs.inner.Steps.{Holds, mixed_spans}
use Rattle.firm_graph.specs.Graph.{preferred_spans}
use Rattle.firm_graph.proofs.edits.rate_preferred.Given as goal

abbrev pub invariant-loop-place : goal.invariant-loop-place
invariant-loop-place l = record {
  net : IsNet l.net;
  rated : (base : Net) (ns : List NodeId) (ss : List Span) (node : NodeId) (old : ℕ) (heads : List NodeId)
      → length heads ≡ length l.arcs
      → Holds base l.initial.net ns (preferred_spans node old heads l.arcs ++ ss)
      → Holds base l.net ns (mixed_spans node l.cost old l.place heads l.arcs ++ ss);
}
