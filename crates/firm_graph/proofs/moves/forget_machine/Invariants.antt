use Rattle.std.proofs.Common.{◌≡◌, ℕ, ◌≤◌, map, get_or, length}
use Rattle.firm_graph.specs.Graph.{Graph, Mirrors}
use Rattle.firm_graph.specs.declared.ids.TaskParts.{TaskParts}
use Rattle.firm_graph.specs.inner.Steps.{refitted, forgetting_first}
use Rattle.firm_graph.proofs.moves.forget_machine.Given as goal

abbrev pub invariant-loop-place : goal.invariant-loop-place
invariant-loop-place l = record {
  so_far : (g : Graph) → Mirrors g → g.net ≡ l.initial.net → g.rows ≡ l.rows → g.tasks ≡ l.initial.tasks.items
      → Mirrors (refitted g (forgetting_first g.rows l.name l.place) l.net l.tasks.items);
  nodes : map (λ parts. parts.node) l.tasks.items ≡ map (λ parts. parts.node) l.initial.tasks.items;
  left : (k : ℕ) (d : TaskParts) → l.place ≤ k → get_or l.tasks.items k d ≡ get_or l.initial.tasks.items k d;
  long : length l.tasks.items ≡ length l.initial.tasks.items;
}
