use Rattle.std.proofs.Common.{◌≡◌, ◌≤◌, ◌+◌, ◌++◌, vec_len, vec_capacity}
use Rattle.std.specs.Vec.Iter.{into_iter_items, into_iter_len}
use Rattle.firm_hall.proofs.halls.open_passes.Given as goal

abbrev pub invariant-loop-pass : goal.invariant-loop-pass
invariant-loop-pass l = record {
  both : l.all.items ++ into_iter_items l.pass-iterator ≡ l.fn.passes.items;
  count : vec_len l.all + into_iter_len l.pass-iterator ≡ vec_len l.fn.passes;
  room : vec_len l.fn.passes ≤ vec_capacity l.all;
}
