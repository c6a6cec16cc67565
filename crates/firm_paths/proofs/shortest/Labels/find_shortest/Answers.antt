use Rattle.std.proofs.Common.{◌≡◌, ℕ, ◌-◌, ◌<◌, ◌∙◌, List, [], length, arith, refl, sym, ap, subst}
use Rattle.std.specs.Prelude.{slice_index}
use Rattle.firm_net.specs.Net.{lists_at}
use Rattle.firm_net.specs.Laws.{nodes_apart}
use Rattle.firm_paths.specs.Paths.{IsHighest, IsCut}
use Rattle.firm_paths.specs.inner.Search.{known, state, label, AreRaised, IsRaised, IsReachedBy}
use Rattle.firm_paths.specs.declared.search.NodeState.{NodeState}
use Rattle.std.proofs.lemmas.List.{get_or_default}
use Rattle.firm_paths.proofs.ArcRows.{as_many_as_counted}
use Rattle.firm_paths.proofs.Looks.{place_value}
use Rattle.firm_paths.proofs.Raised.{raise_found, end_cut}
use Rattle.firm_paths.proofs.Queues.{all_left}
use Rattle.firm_paths.proofs.shortest.Labels.find_shortest.Goals as goal

pub returns-in_default-dijkstra-clause-none : goal.returns-in_default-dijkstra-clause-none
returns-in_default-dijkstra-clause-none c =
    let ms = c.dijkstra.new.self.states.items in
    let from =
    (place_value c.args.from (lists_at c.args.net.now c.args.from) c.in-Some-Some.place
    c.in-Some-Some.ensures.value).1 in
    let to =
    (place_value c.args.to (lists_at c.args.net.now c.args.to) c.in-Some-Some.goal c.in-Some-Some.ensures'.value).1 in (
      known ms,
      subst (λ (f : ℕ). IsCut c.args.net.now f c.args.to.id.place (known ms)) from
          (subst (λ (t : ℕ). IsCut c.args.net.now c.in-Some-Some.place t (known ms)) to
          (end_cut c.args.net.now c.in-Some-Some.place c.in-Some-Some.goal ms c.in_default-dijkstra.ensures.none)),
    )

pub returns-clause-few : goal.returns-clause-few
returns-clause-few c =
    rw c.forget-2.ensures.others.0
    (omega (arith, c.in-Some.ensures.found.few, c.requires.length.1, c.dijkstra.ensures.size))

pub returns-clause-found : goal.returns-clause-found
returns-clause-found c =
    let net = c.args.net.now in
    let old = c.args.prices.now.prices in
    let new = c.raise.new.self.prices in
    let ms = c.dijkstra.new.self.states.items in
    let vs = c.dijkstra.new.self.visits.items in
    let from = c.in-Some-Some.place in
    let goal = c.in-Some-Some.goal in
    let end = c.in-Some.end in
    let from_is : from ≡ c.args.from.id.place =
    (place_value c.args.from (lists_at net c.args.from) from c.in-Some-Some.ensures.value).1 in
    let goal_is : goal ≡ c.args.to.id.place =
    (place_value c.args.to (lists_at net c.args.to) goal c.in-Some-Some.ensures'.value).1 in
    let highest : IsHighest net (slice_index old) goal =
    subst (IsHighest net (slice_index old)) (sym goal_is) c.requires.highest in
    let known : goal < length ms =
    omega (arith, c.in-Some-Some.ensures'.below, c.dijkstra.ensures.size, c.requires.length.1) in
    let here : c.index.result.now ≡ state ms goal = c.index.ensures ∙ get_or_default ms goal _ _ known in
    let distance : c.index.result.now.label - c.at.result ≡ label ms goal - slice_index old goal =
    omega (arith, c.at.ensures, ap (λ (m : NodeState). m.label) here) in
    rw c.forget-2.ensures.others.0
    (subst (λ (t : ℕ).
    IsRaised net old new t × IsReachedBy net (slice_index new) [] c.args.from.id.place t vs end) goal_is
    (subst (λ (f : ℕ). IsRaised net old new goal × IsReachedBy net (slice_index new) [] f goal vs end) from_is
    (raise_found net old new from goal ms vs end c.in-Some-Some.ensures.net
    (c.requires.length.0, c.dijkstra.ensures.size ∙ c.requires.length.1) c.in-Some.ensures.found
    (subst (λ (z : ℕ). AreRaised old ms goal z new) distance
    (subst (λ (z : List NodeState). AreRaised old z goal (c.index.result.now.label - c.at.result) new)
    c.deref.ensures.value c.raise.ensures.raises))
    (omega (arith, highest c.args.from c.requires.nodes.0, ap (slice_index old) from_is))
    c.in-Some-Some.ensures'.below highest (omega (arith, c.requires.room, ap (slice_index old) goal_is))
    c.requires.valid)))

pub forget-requires-clause-left : goal.forget-requires-clause-left
forget-requires-clause-left c = all_left c.dijkstra.ensures.queued c.dijkstra.ensures.visited

pub forget-requires-2-clause-left : goal.forget-requires-2-clause-left
forget-requires-2-clause-left c = all_left c.dijkstra.ensures.queued c.dijkstra.ensures.visited

pub dijkstra-requires-clause-start : goal.dijkstra-requires-clause-start
dijkstra-requires-clause-start c =
    let from =
    (place_value c.args.from (lists_at c.args.net.now c.args.from) c.in-Some-Some.place
    c.in-Some-Some.ensures.value).1 in
    (c.requires.nodes.0, sym from)

pub dijkstra-requires-clause-goal : goal.dijkstra-requires-clause-goal
dijkstra-requires-clause-goal c =
    let net = c.args.net.now in
    let from =
    (place_value c.args.from (lists_at net c.args.from) c.in-Some-Some.place c.in-Some-Some.ensures.value).1 in
    let to = (place_value c.args.to (lists_at net c.args.to) c.in-Some-Some.goal c.in-Some-Some.ensures'.value).1 in (
      c.in-Some-Some.ensures'.below,
      λ same. c.requires.nodes.2 (nodes_apart net c.args.from c.args.to c.in-Some-Some.ensures.net c.requires.nodes.0
          c.requires.nodes.1 (sym from ∙ (same ∙ to))),
    )

pub dijkstra-requires-clause-low : goal.dijkstra-requires-clause-low
dijkstra-requires-clause-low c =
    let old = c.args.prices.now.prices in
    let from =
    (place_value c.args.from (lists_at c.args.net.now c.args.from) c.in-Some-Some.place
    c.in-Some-Some.ensures.value).1 in (
      omega (
        arith,
        c.requires.highest c.args.from c.requires.nodes.0,
        ap (slice_index old) from,
        c.requires.room,
      ),
      c.in-Some-Some.ensures.net.node_limit,
    )

pub dijkstra-requires-clause-net : goal.dijkstra-requires-clause-net
dijkstra-requires-clause-net c = c.in-Some-Some.ensures.net

pub index-requires : goal.index-requires
index-requires c = omega (arith, c.in-Some-Some.ensures'.below, c.dijkstra.ensures.size, c.requires.length.1)

pub at-requires : goal.at-requires
at-requires c = omega (arith, c.in-Some-Some.ensures'.below, c.requires.length.0)

pub overflow_sub-distance : goal.overflow_sub-distance
overflow_sub-distance c =
    let ms = c.dijkstra.new.self.states.items in
    let goal = c.in-Some-Some.goal in
    let found = c.in-Some.ensures.found in
    let known : goal < length ms =
    omega (arith, c.in-Some-Some.ensures'.below, c.dijkstra.ensures.size, c.requires.length.1) in
    let here : c.index.result.now ≡ state ms goal = c.index.ensures ∙ get_or_default ms goal _ _ known in
    omega (
      arith,
      c.at.ensures,
      ap (λ (m : NodeState). m.label) here,
      (found.near_by goal).beyond found.is_known found.is_open,
    )

pub raise-requires-clause-length : goal.raise-requires-clause-length
raise-requires-clause-length c =
    omega (
      arith,
      ap (λ (z : List NodeState). length z) c.deref.ensures.value,
      c.dijkstra.ensures.size,
      c.requires.length.0,
      c.requires.length.1,
    )

pub raise-requires-clause-goal : goal.raise-requires-clause-goal
raise-requires-clause-goal c = omega (arith, c.in-Some-Some.ensures'.below, c.requires.length.0)

pub raise-requires-clause-room : goal.raise-requires-clause-room
raise-requires-clause-room c =
    let ms = c.dijkstra.new.self.states.items in
    let goal = c.in-Some-Some.goal in
    let found = c.in-Some.ensures.found in
    let known : goal < length ms =
    omega (arith, c.in-Some-Some.ensures'.below, c.dijkstra.ensures.size, c.requires.length.1) in
    let here : c.index.result.now ≡ state ms goal = c.index.ensures ∙ get_or_default ms goal _ _ known in
    omega (
      arith,
      c.at.ensures,
      ap (λ (m : NodeState). m.label) here,
      (found.near_by goal).beyond found.is_known found.is_open,
      c.dijkstra.ensures.queued.below goal found.is_known found.is_open,
    )

pub raise-requires-clause-visited : goal.raise-requires-clause-visited
raise-requires-clause-visited c =
    rw (c.deref.ensures.value, c.deref-2.ensures.value) c.dijkstra.ensures.visited

pub forget-requires-clause-length : goal.forget-requires-clause-length
forget-requires-clause-length c = c.dijkstra.ensures.queued.size

pub forget-requires-clause-places : goal.forget-requires-clause-places
forget-requires-clause-places c = c.dijkstra.ensures.visited.places

pub forget-requires-2-clause-length : goal.forget-requires-2-clause-length
forget-requires-2-clause-length c = c.dijkstra.ensures.queued.size

pub forget-requires-2-clause-places : goal.forget-requires-2-clause-places
forget-requires-2-clause-places c = c.dijkstra.ensures.visited.places

pub returns-in_default-dijkstra-clause-counts : goal.returns-in_default-dijkstra-clause-counts
returns-in_default-dijkstra-clause-counts c =
    omega (arith, c.forget.ensures.others.1, c.dijkstra.ensures.counts, as_many_as_counted c.args.net.now)

pub returns-in_default-dijkstra-clause-size : goal.returns-in_default-dijkstra-clause-size
returns-in_default-dijkstra-clause-size c = c.forget.ensures.size ∙ c.dijkstra.ensures.size

pub returns-in_default-dijkstra-clause-capacity : goal.returns-in_default-dijkstra-clause-capacity
returns-in_default-dijkstra-clause-capacity c = rw c.forget.ensures.others.0 c.dijkstra.ensures.capacity

pub returns-in_default-dijkstra-clause-idle : goal.returns-in_default-dijkstra-clause-idle
returns-in_default-dijkstra-clause-idle c = c.forget.ensures.idle

pub returns-in_default-dijkstra-clause-unchanged : goal.returns-in_default-dijkstra-clause-unchanged
returns-in_default-dijkstra-clause-unchanged c = refl

pub returns-clause-counts : goal.returns-clause-counts
returns-clause-counts c =
    omega (arith, c.forget-2.ensures.others.1, c.dijkstra.ensures.counts, as_many_as_counted c.args.net.now)

pub returns-clause-size : goal.returns-clause-size
returns-clause-size c = c.forget-2.ensures.size ∙ c.dijkstra.ensures.size

pub returns-clause-capacity : goal.returns-clause-capacity
returns-clause-capacity c = rw c.forget-2.ensures.others.0 c.dijkstra.ensures.capacity

pub returns-clause-idle : goal.returns-clause-idle
returns-clause-idle c = c.forget-2.ensures.idle

pub returns-clause-limits : goal.returns-clause-limits
returns-clause-limits c = c.raise.ensures.limits
