use Rattle.firm_net.specs.Net.{rows_of, arcs_on}
use Rattle.firm_paths.specs.inner.Search.{side_of}
use Rattle.std.proofs.Common.{◌≡◌, ◌+◌, length, vec_capacity}
use Rattle.std.specs.Prelude.{slice_index}
use Rattle.firm_paths.specs.inner.Spread.{IsCounted}
use Rattle.firm_paths.proofs.Spreading.{IsSpreading}
use Rattle.firm_paths.proofs.tight.Reach.follow_arcs.Given as goal

abbrev pub invariant-loop-arc : goal.invariant-loop-arc
invariant-loop-arc l = record {
  can_next : (goal.iterator-loop-arc).can_next l.arc-iterator;
  is_finite : (goal.iterator-loop-arc).is_finite l.arc-iterator;
  counted : IsCounted l.self.seen.items l.self.visits.items (vec_capacity l.self.visits);
  capacity : vec_capacity l.self.visits ≡ vec_capacity l.initial.self.visits;
  looked : l.self.looks + length l.arc-iterator
      ≡ l.initial.self.looks + length (rows_of l.arcs.net.now (arcs_on (side_of l.fn.way) l.arcs.net.now
      l.fn.current.node));
  spreading : IsSpreading l.arcs.net.now (slice_index l.arcs.prices.now.prices) l.arcs.barred.now l.current l.way
      l.initial.self.seen.items
      l.initial.self.visits.items l.self.seen.items l.self.visits.items l.arc-iterator;
}
