use Rattle.firm_net.specs.declared.row.Way.TheVariants.{Forward, Backward}
use Rattle.firm_paths.proofs.Turns.{turned_from}
use Rattle.std.proofs.Common.{◌≡◌, ◌+◌, ◌≤◌, ◌-◌, length, vec_capacity}
use Rattle.std.specs.Prelude.{slice_index}
use Rattle.firm_arena.specs.Arena.{capacity_of}
use Rattle.firm_paths.specs.inner.Spread.{IsCounted}
use Rattle.firm_paths.proofs.Spreading.{IsSpreadOut}
use Rattle.firm_paths.proofs.tight.Reach.breadth_first.Given as goal

abbrev pub invariant-loop-number : goal.invariant-loop-number
invariant-loop-number l = record {
  length : length l.self.seen.items ≡ capacity_of l.arcs.net.now.nodes;
  counted : IsCounted l.self.seen.items l.self.visits.items (vec_capacity l.self.visits);
  capacity : vec_capacity l.self.visits ≡ vec_capacity l.fn.self.visits;
  looked : l.self.looks
      ≤ turned_from Forward l.arcs.net.now l.self.visits.items l.number + turned_from Backward l.arcs.net.now
      l.self.visits.items
      l.number;
  out : IsSpreadOut l.arcs.net.now (slice_index l.arcs.prices.now.prices) l.arcs.barred.now l.fn.root.place l.fn.goal
      l.self.seen.items
      l.self.visits.items l.number;
}

abbrev pub decreases-loop-number : goal.decreases-loop-number
decreases-loop-number l = capacity_of l.arcs.net.now.nodes - l.number
