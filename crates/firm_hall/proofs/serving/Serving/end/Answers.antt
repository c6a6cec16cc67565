use Rattle.std.proofs.Common.{rules, All, List, length, ap, sym, subst, arith}
use Rattle.firm_rounds.specs.Rounds.{weigh}
use Rattle.firm_hall.specs.Desks.{DeskIs, PlaceIs}
use Rattle.firm_hall.specs.inner.Ending.{IsOf}
use Rattle.firm_hall.specs.inner.Serving.{asked_at}
use Rattle.firm_hall.proofs.Alls.{all_head, all_rest}
use Rattle.firm_hall.proofs.Starting.{all_of, back_of, asked_more}
use Rattle.firm_hall.proofs.serving.Serving.end.Goals as goal

pub loop-desk_state-init : goal.loop-desk_state-init
loop-desk_state-init c =
    let s = c.self.inside in
    let items = c.into_iter-desk_state-iterator.ensures.into_iter_gives.0 in
    rw (← c.self.view_is)
    (record {
      desk_states = subst (All (IsOf s.hall.value.id)) (sym items)
          (all_of s.hall.value.id s.held.answers s.desk_states.items
          (rw (← c.self.view_is) at c.requires.finished.answered)
          c.self.invariant.desk_states);
      desks = record {
        each = rw c.requires.room.0 (λ k d low. absurd (omega arith));
        places = rw c.requires.empty_room.0 (λ k d low. absurd (omega arith));
      };
      asked = omega (arith, ap (weigh asked_at) items);
      few = omega (
        arith,
        c.into_iter-desk_state-iterator.ensures.into_iter_gives.1,
        s.desk_states.ok.0,
        c.self.invariant.desk_states.long,
      );
      count = omega (
        arith,
        c.into_iter-desk_state-iterator.ensures.into_iter_gives.1,
        s.desk_states.ok.0,
        c.self.invariant.desk_states.long,
        c.args.room.ok.0,
        c.args.empty_room.ok.0,
        ap (λ (ds : List DeskIs). length ds) c.requires.room.0,
        ap (λ (ps : List PlaceIs). length ps) c.requires.empty_room.0,
      );
      room = c.requires.room.1;
      empty_room = c.requires.empty_room.1;
    })

pub put_away-rounds-requires-clause-back : goal.put_away-rounds-requires-clause-back
put_away-rounds-requires-clause-back c =
    let id = c.args.self.queue in
    back_of id c.in-Some.desk_state (all_head (IsOf id) _ _ _ c.in-Some.ensures.steps.0
    c.loop-desk_state.invariant.desk_states)

pub loop-desk_state-preserved : goal.loop-desk_state-preserved
loop-desk_state-preserved c =
    let id = c.args.self.queue in
    let i = c.loop-desk_state.invariant in
    let e = c.put_away-rounds.ensures in
    let steps = c.in-Some.ensures.steps.0 in
    record {
      desk_states = all_rest (IsOf id) _ _ _ steps i.desk_states;
      desks = e.of id (all_head (IsOf id) _ _ _ steps i.desk_states) i.desks;
      asked = asked_more _ _ _ _ _ _ steps e.asked i.asked;
      few = omega (arith, i.few, e.few, c.in-Some.ensures.steps.1);
      count = omega (arith, i.count, e.count, c.in-Some.ensures.steps.1);
      room = search rules;
      empty_room = search rules;
    }
