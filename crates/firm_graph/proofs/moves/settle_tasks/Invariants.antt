use Rattle.std.proofs.Common.{◌≡◌}
use Rattle.firm_graph.specs.Graph.{Graph, Mirrors}
use Rattle.firm_graph.specs.inner.Steps.{moved, settled_first}
use Rattle.firm_graph.proofs.moves.settle_tasks.Given as goal

abbrev pub invariant-loop-place : goal.invariant-loop-place
invariant-loop-place l = record {
  so_far : (g : Graph) → Mirrors g → g.net ≡ l.initial.net → g.rows ≡ l.rows → g.machines ≡ l.heads.machines.now
      → g.tasks ≡ l.tasks.items → g.hub ≡ l.heads.hub
      → Mirrors (moved g (settled_first g.rows l.choices l.place) l.net);
}
