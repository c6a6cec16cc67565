use Rattle.std.proofs.Common.{◌≡◌, ◌+◌, length}
use Rattle.firm_graph.specs.inner.Restored.{tasks_first}
use Rattle.firm_graph.proofs.restore.add_tasks.Given as goal

abbrev pub invariant-loop-place : goal.invariant-loop-place
invariant-loop-place l = record {
  rows : l.graph.rows ≡ tasks_first l.rows l.place;
  asked : l.graph.asked ≡ length l.rows.machines + length l.rows.jobs + l.place;
}
