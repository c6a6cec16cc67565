use Rattle.std.proofs.Common.{◌≡◌, ◌≤◌, ◌*◌, length, true}
use Rattle.std.specs.Prelude.{vec_len, vec_capacity}
use Rattle.firm_rules.specs.ArenaUse.{arena_arcs}
use Rattle.firm_graph.specs.Graph.{Graph}
use Rattle.firm_canon.specs.Counts.{HasMadeUpTo}
use Rattle.firm_canon.specs.inner.Graphs.{IsSameGraph}
use Rattle.firm_canon.specs.inner.State.{IsReady, prefix}
use Rattle.firm_canon.proofs.choosing.Choosing.choose_all.Given as goal

abbrev pub invariant-loop-task : goal.invariant-loop-task
invariant-loop-task l =
    let old : Graph = l.fn.self.graph.now in
    record {
      same : IsSameGraph old l.self.graph.now;
      graph : l.self.graph.ghost_name ≡ l.fn.self.graph.ghost_name;
      scratch : l.self.scratch.ghost_name ≡ l.fn.self.scratch.ghost_name;
      list : l.self.chosen.ghost_name ≡ l.fn.self.chosen.ghost_name;
      searched : HasMadeUpTo l.fn.self.scratch.now l.self.scratch.now (2 * l.task) (arena_arcs old.rows);
      ready : IsReady l.self;
      so_far : length (prefix l.self) ≡ l.task;
      count : vec_len l.self.chosen.now ≡ l.task;
      idle : l.self.searched ≡ true;
      room : vec_capacity l.fn.self.chosen.now ≤ vec_capacity l.self.chosen.now;
    }
