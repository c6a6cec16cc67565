use Rattle.std.proofs.Common.{◌≡◌, ◌≤◌, ◌+◌, ◌*◌, ◌^◌, All, vec_len, vec_capacity}
use Rattle.std.specs.Vec.Iter.{into_iter_items, into_iter_len}
use Rattle.firm_text.specs.Rosters.{most_places}
use Rattle.firm_rounds.specs.Rounds.{weigh}
use Rattle.firm_hall.specs.inner.Ending.{IsOf, AreOf}
use Rattle.firm_hall.specs.inner.Serving.{asked_at}
use Rattle.firm_hall.proofs.serving.Serving.end.Given as goal

abbrev pub invariant-loop-desk_state : goal.invariant-loop-desk_state
invariant-loop-desk_state l = record {
  desk_states : All (IsOf l.fn.self.queue) (into_iter_items l.desk_state-iterator);
  desks : AreOf l.fn.self.queue l.desks.items l.empty.items;
  asked : l.rounds + weigh asked_at (into_iter_items l.desk_state-iterator) ≡ weigh asked_at l.fn.self.desk_states;
  few : l.rounds + into_iter_len l.desk_state-iterator * 2 ^ 55 ≤ most_places * 2 ^ 55;
  count : vec_len l.desks + vec_len l.empty + into_iter_len l.desk_state-iterator ≡ most_places;
  room : most_places ≤ vec_capacity l.desks;
  empty_room : most_places ≤ vec_capacity l.empty;
}
