use Rattle.std.proofs.Common.{◌≡◌, ◌≤◌, ◌+◌, All, vec_len, vec_capacity}
use Rattle.std.specs.Vec.Iter.{into_iter_items, into_iter_len}
use Rattle.firm_hall.proofs.team.Running.join.Given as goal

abbrev pub invariant-loop-handle : goal.invariant-loop-handle
invariant-loop-handle g l = record {
  handles : All (λ h. h.promise.0.value.id ≡ l.fn.self.hall.now.id) (into_iter_items l.handle-iterator);
  reports : All (λ r. r.queue ≡ l.fn.self.hall.now.id) l.reports.items;
  count : vec_len l.reports + into_iter_len l.handle-iterator ≡ vec_len l.fn.self.handles;
  room : vec_len l.fn.self.handles ≤ vec_capacity l.reports;
}
