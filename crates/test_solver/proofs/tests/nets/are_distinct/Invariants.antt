use Rattle.std.proofs.Common.{◌≡◌, ◌<◌, ℕ, get_or}
use Rattle.firm_net.specs.Net.{IsNode}
use Rattle.firm_net.specs.declared.row.NodeId.{NodeId}
use Rattle.test_solver.proofs.tests.nets.are_distinct.Given as goal

abbrev pub invariant-loop-i : goal.invariant-loop-i
invariant-loop-i l = record {
  nodes : (k : ℕ) (d : NodeId) → k < l.i → IsNode l.net (get_or l.sources k d);
  apart : (j k : ℕ) (d : NodeId) → j < k → k < l.i → get_or l.sources j d ≡ get_or l.sources k d → ⊥;
  others : (k : ℕ) (d : NodeId) → k < l.i → get_or l.sources k d ≡ l.sink → ⊥;
}
