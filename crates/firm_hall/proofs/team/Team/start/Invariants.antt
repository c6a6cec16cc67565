use Rattle.std.proofs.Common.{◌≡◌, ◌≤◌, ◌+◌, All, vec_len, vec_capacity}
use Rattle.std.specs.Vec.Iter.{into_iter_items, into_iter_len}
use Rattle.firm_hall.proofs.team.Team.start.Given as goal

abbrev pub invariant-loop-pass : goal.invariant-loop-pass
invariant-loop-pass g l = record {
  passes : All (λ p. p.queue ≡ l.fn.self.hall.now.id) (into_iter_items l.pass-iterator);
  handles : All (λ h. h.promise.0.value.id ≡ l.fn.self.hall.now.id) l.handles.items;
  count : vec_len l.handles + into_iter_len l.pass-iterator ≡ vec_len l.fn.self.passes;
  room : vec_len l.fn.self.passes ≤ vec_capacity l.handles;
}
