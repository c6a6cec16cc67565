use Rattle.std.proofs.Common.{◌<◌, ℕ, map}
use Rattle.std.specs.Prelude.{◌≢◌, slice_index_or}
use Rattle.firm_net.specs.declared.row.NodeId.{NodeId}
use Rattle.firm_graph.proofs.ids.find_machine.Given as goal

abbrev pub invariant-loop-place : goal.invariant-loop-place
invariant-loop-place l =
    (j : ℕ) → j < l.place → (other : NodeId) → slice_index_or (map (λ parts. parts.node) l.machines) j other ≢ l.node
