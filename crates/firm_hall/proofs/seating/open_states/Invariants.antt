use Rattle.std.proofs.Common.{◌≡◌, ◌≤◌, ◌+◌, ◌++◌, All, drop, vec_len, vec_capacity}
use Rattle.std.specs.Vec.Iter.{into_iter_items, into_iter_len}
use Rattle.firm_text.specs.Rosters.{most_places}
use Rattle.firm_rounds.specs.Passes.{QueueId, new_puts}
use Rattle.firm_table.specs.Openings.{places_opened}
use Rattle.firm_hall.specs.inner.Serving.{opening_states}
use Rattle.firm_hall.proofs.seating.open_states.Given as goal

abbrev pub invariant-loop-pass : goal.invariant-loop-pass
invariant-loop-pass l = record {
  rest : into_iter_items l.pass-iterator ≡ drop (vec_len l.states) l.fn.passes.items;
  count : vec_len l.states + into_iter_len l.pass-iterator ≡ vec_len l.fn.passes;
  room : most_places ≤ vec_capacity l.states;
  unused : All (λ p. p.put ≡ 0) (into_iter_items l.pass-iterator);
  opened : (id : QueueId) → l.fn.passes.items ≡ new_puts id most_places
      → l.states.items ++ opening_states id (vec_len l.states) (drop (vec_len l.states) (places_opened l.opening))
      ≡ opening_states id 0 (places_opened l.opening);
}
