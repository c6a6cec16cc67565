use Rattle.std.proofs.Common.{◌≡◌, ◌+◌, length}
use Rattle.firm_net.specs.Net.{rows_of, arcs_on}
use Rattle.std.specs.Prelude.{slice_index}
use Rattle.firm_paths.specs.inner.Search.{side_of, IsLowered}
use Rattle.firm_paths.specs.inner.Queue.{IsQueued}
use Rattle.firm_paths.proofs.Walks.{IsLooking}
use Rattle.firm_paths.proofs.shortest.Labels.relax_arcs.Given as goal

abbrev pub invariant-loop-arc : goal.invariant-loop-arc
invariant-loop-arc l = record {
  can_next : (goal.iterator-loop-arc).can_next l.arc-iterator;
  is_finite : (goal.iterator-loop-arc).is_finite l.arc-iterator;
  lowers : IsLowered l.initial.self.states.items l.self.states.items;
  looking : IsLooking l.net (slice_index l.prices.prices) l.current l.initial.self.visits.items l.way
      l.initial.self.states.items l.self.states.items l.arc-iterator;
  counted : l.self.looks + length l.arc-iterator
      ≡ l.initial.self.looks + length (rows_of l.net (arcs_on (side_of l.fn.way) l.net l.fn.current.node));
  queued : IsQueued (slice_index l.prices.prices) l.self.states.items l.self.queue;
  visits : l.self.visits ≡ l.initial.self.visits;
}
