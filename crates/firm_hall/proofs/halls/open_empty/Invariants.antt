use Rattle.std.proofs.Common.{◌≡◌, ◌≤◌, ◌+◌, ◌++◌, All, map, vec_len, vec_capacity}
use Rattle.std.specs.Vec.Iter.{into_iter_items, into_iter_len}
use Rattle.firm_hall.specs.Desks.{place_is}
use Rattle.firm_hall.proofs.halls.open_empty.Given as goal

abbrev pub invariant-loop-pass : goal.invariant-loop-pass
invariant-loop-pass l = record {
  both : l.empty.items ++ map (λ p. place_is p.queue p.place 0 0) (into_iter_items l.pass-iterator)
      ≡ map (λ p. place_is p.queue p.place 0 0) l.fn.passes.items;
  count : vec_len l.empty + into_iter_len l.pass-iterator ≡ vec_len l.fn.passes;
  room : vec_len l.fn.passes ≤ vec_capacity l.empty;
  unused : All (λ p. p.put ≡ 0) (into_iter_items l.pass-iterator);
}
