use Rattle.std.proofs.Common.{◌≡◌, ◌≤◌, ◌+◌, ◌++◌, All, length, drop, vec_len, vec_capacity}
use Rattle.std.specs.Vec.Iter.{into_iter_items, into_iter_len}
use Rattle.firm_rounds.specs.Passes.{QueueId, new_puts}
use Rattle.firm_hall.specs.Opening.{opening_desks}
use Rattle.firm_hall.proofs.halls.open_desks.Given as goal

abbrev pub invariant-loop-pass : goal.invariant-loop-pass
invariant-loop-pass l = record {
  rest : into_iter_items l.pass-iterator ≡ drop (vec_len l.desks) l.fn.passes.items;
  count : vec_len l.desks + into_iter_len l.pass-iterator ≡ vec_len l.fn.passes;
  room : length l.roster.rows ≤ vec_capacity l.desks;
  unused : All (λ p. p.put ≡ 0) (into_iter_items l.pass-iterator);
  desks : (id : QueueId) → l.fn.passes.items ≡ new_puts id (length l.roster.rows)
      → l.desks.items ++ opening_desks id (vec_len l.desks) (drop (vec_len l.desks) l.roster.rows)
      ≡ opening_desks id 0 l.roster.rows;
}
