use Rattle.std.proofs.Common.{◌≡◌}
use Rattle.firm_graph.specs.inner.Restored.{machines_first}
use Rattle.firm_graph.proofs.restore.add_machines.Given as goal

abbrev pub invariant-loop-place : goal.invariant-loop-place
invariant-loop-place l = record {
  rows : l.graph.rows ≡ machines_first l.rows l.place;
  asked : l.graph.asked ≡ l.place;
}
