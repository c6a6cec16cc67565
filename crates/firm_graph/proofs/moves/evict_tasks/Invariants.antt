use Rattle.std.proofs.Common.{◌≡◌}
use Rattle.firm_graph.specs.Graph.{Graph, Mirrors}
use Rattle.firm_graph.specs.inner.Steps.{moved, forgetting_rows, thrown_out_first}
use Rattle.firm_graph.proofs.moves.evict_tasks.Given as goal

abbrev pub invariant-loop-place : goal.invariant-loop-place
invariant-loop-place l = record {
  so_far : (g : Graph) → Mirrors g → g.net ≡ l.initial.net → g.rows ≡ forgetting_rows l.rows l.name
      → g.tasks ≡ l.tasks.items → g.hub ≡ l.hub → Mirrors (moved g (thrown_out_first g.rows l.name l.place) l.net);
}
