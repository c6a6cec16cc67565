use Rattle.std.proofs.Common.{rules, ◌≡◌, ℕ, ◌+◌, ◌<◌, ◌++◌, vec_len, sym, ◌∙◌, ap, drop, append-nil, List, arith}
use Rattle.std.proofs.lemmas.List.{drop_all}
use Rattle.firm_text.specs.Rosters.{most_places}
use Rattle.firm_rounds.specs.Passes.{PutIs}
use Rattle.firm_table.specs.Places.{Place}
use Rattle.firm_table.specs.Openings.{place_opened, places_opened}
use Rattle.firm_hall.specs.inner.Serving.{opening_state, opening_states}
use Rattle.firm_hall.proofs.Alls.{all_rest}
use Rattle.firm_hall.proofs.Opening.{rest_behind}
use Rattle.firm_hall.proofs.Starting.{next_state, opens_state}
use Rattle.firm_hall.proofs.seating.open_states.Goals as goal

pub loop-pass-preserved : goal.loop-pass-preserved
loop-pass-preserved c =
    let inv = c.loop-pass.invariant in
    let st = c.in-Some.ensures.steps in
    let places : List Place = places_opened c.args.opening in
    let at = vec_len c.loop-pass.states in
    let low : at < most_places = search rules in
    let here = sym inv.rest ∙ st.0 in
    let same : c.len.result ≡ at = search rules in
    let queue = c.in-Some.pass.queue in
    let stands = c.in_ok-state.ensures
    ∙ ap (λ (n : ℕ). opening_state queue c.in-Some.pass.place (place_opened c.args.opening n)) same in
    let more : vec_len c.push_reserved.new.self ≡ at + 1 = search rules in
    record {
      rest = sym (rest_behind at c.args.passes.items _ c.in-Some.pass here)
          ∙ sym (ap (λ (n : ℕ). drop n c.args.passes.items) more);
      count = search rules;
      room = search rules;
      unused = all_rest (λ (p : PutIs). p.put ≡ 0) _ _ _ st.0 inv.unused;
      opened = λ id e.
          rw more (opens_state id at places _ _ _ c.in_ok-state.state
          (omega (arith, low, c.places.ensures.all, c.places.ensures.most)) c.push_reserved.ensures.items
          (next_state id _ at _ c.in-Some.pass c.in_ok-state.state (place_opened c.args.opening at) e low here stands)
          (inv.opened id e));
    }

pub returns-clause-opened : goal.returns-clause-opened
returns-clause-opened c =
    let places : List Place = places_opened c.args.opening in
    let at = vec_len c.loop-pass.states in
    let past : most_places < at + 1 = search rules in
    λ id e.
    sym (append-nil c.loop-pass.states.items)
    ∙ ap (λ (ps : List Place). c.loop-pass.states.items ++ opening_states id at ps)
    (sym (drop_all at places (omega (arith, past, c.places.ensures.all, c.places.ensures.most))))
    ∙ c.loop-pass.invariant.opened id e
