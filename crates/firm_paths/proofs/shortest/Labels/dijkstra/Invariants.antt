use Rattle.std.proofs.Common.{◌≡◌, ◌+◌, ◌≤◌, ◌-◌, length, vec_capacity}
use Rattle.std.specs.Prelude.{slice_index}
use Rattle.firm_arena.specs.Arena.{capacity_of}
use Rattle.firm_net.specs.declared.row.Way.TheVariants.{Forward, Backward}
use Rattle.firm_paths.specs.inner.Queue.{IsQueued, AreVisited}
use Rattle.firm_paths.proofs.Turns.{turned_from}
use Rattle.firm_paths.proofs.Rounds.{IsSearching}
use Rattle.firm_paths.proofs.shortest.Labels.dijkstra.Given as goal

abbrev pub invariant-loop-place : goal.invariant-loop-place
invariant-loop-place l = record {
  size : length l.self.states.items ≡ capacity_of l.net.nodes;
  searching : IsSearching l.net (slice_index l.prices.prices) l.fn.start.place l.goal l.self.states.items
      l.self.visits.items;
  counted : l.self.looks
      ≤ turned_from Forward l.net l.self.visits.items (length l.self.visits.items)
      + turned_from Backward l.net l.self.visits.items (length l.self.visits.items);
  queued : IsQueued (slice_index l.prices.prices) l.self.states.items l.self.queue;
  visited : AreVisited l.self.states.items l.self.visits.items;
  capacity : vec_capacity l.self.visits ≡ vec_capacity l.fn.self.visits;
}

abbrev pub decreases-loop-place : goal.decreases-loop-place
decreases-loop-place l = length l.self.states.items - length l.self.visits.items
