use Rattle.std.proofs.Common.{◌≡◌, ◌<◌, ◌-◌, ◌∙◌, ◌++◌, ◌∷◌, [], List, length, arith, refl, sym, ap, subst}
use Rattle.std.specs.Prelude.{slice_index}
use Rattle.std.proofs.lemmas.Bool.{both_ways}
use Rattle.std.proofs.lemmas.List.{length-set}
use Rattle.firm_paths.specs.inner.Search.{state, label, visit_at, with_settled, IsLowered, IsNearest, LooksBoth}
use Rattle.firm_paths.specs.declared.search.NodeState.{NodeState}
use Rattle.firm_paths.specs.declared.search.Visit.{Visit}
use Rattle.firm_paths.proofs.Listed.{node_listed}
use Rattle.firm_paths.proofs.Rounds.{search_start, few_visits, search_reached, search_ended, named_at, round_start}
use Rattle.firm_paths.proofs.Rounds.{round_done}
use Rattle.firm_paths.proofs.Settles.{visit_before, visit_last, length_push, fresh}
use Rattle.firm_paths.proofs.Degrees.{arcs_few}
use Rattle.firm_paths.proofs.Turns.{turn_counted, turns_counted}
use Rattle.firm_paths.proofs.Queues.{queue_start, queue_nearest, queue_none, queue_settle, visited_start, visited_push}
use Rattle.firm_paths.proofs.Queues.{visited_settle, visited_kept}
use Rattle.firm_paths.proofs.shortest.Labels.dijkstra.Goals as goal

pub loop-place-init : goal.loop-place-init
loop-place-init c =
    let listed : c.args.start.place < length c.args.self.now.states.items =
    omega (
      arith,
      node_listed c.args.net.now c.args.start.node c.requires.start.0,
      c.requires.start.1,
      c.requires.length.1,
    ) in
    record {
      size =
          omega (
            arith,
            ap (λ (z : List NodeState). length z) c.open.ensures.states,
            length-set {A = NodeState},
            c.requires.length.1,
          );
      searching = rw (c.open.ensures.visits, c.open.ensures.states)
          (search_start c.args.net.now (slice_index c.args.prices.now.prices) c.args.start.place c.args.goal
          c.args.self.now.states.items c.args.start.node listed c.requires.start.0 c.requires.start.1
          c.requires.idle.unknown);
      counted = omega (arith, c.open.ensures.looks);
      queued = rw (c.open.ensures.states, c.open.ensures.queue)
          (queue_start (slice_index c.args.prices.now.prices) c.args.self.now.states.items c.args.self.now.queue
          c.args.start.place c.args.start.node listed (omega (arith, c.requires.low.0)) c.requires.idle);
      visited = rw (c.open.ensures.visits, c.open.ensures.states)
          (visited_start c.args.self.now.states.items c.args.start.place _ c.requires.idle.unknown refl listed);
      capacity = c.open.ensures.capacity;
    }

pub visit-requires-clause-room : goal.visit-requires-clause-room
visit-requires-clause-room c =
    omega (
      arith,
      few_visits c.loop-place.invariant.searching (omega (arith, c.loop-place.invariant.size, c.requires.goal.0)),
      c.loop-place.invariant.size,
      c.loop-place.invariant.capacity,
      c.requires.room,
    )

pub returns-then-place-goal-clause-found : goal.returns-then-place-goal-clause-found
returns-then-place-goal-clause-found c =
    let ms = c.loop-place.self.states.items in
    let vs = c.loop-place.self.visits.items in
    let price = slice_index c.args.prices.now.prices in
    let nearest : IsNearest price ms c.args.goal =
    subst (IsNearest price ms) c.if-place-goal.true
    (queue_nearest c.loop-place.invariant.queued c.in-Some.ensures) in
    rw (c.visit.ensures.others.0, c.in_ok-current.ensures.visits, c.in_ok-current.ensures.current.2)
    (search_reached c.args.net.now price c.args.start.place c.args.goal ms vs
    (visit_at ms c.in-Some.place c.in_ok-current.current.node)
    (omega (arith, c.loop-place.invariant.size, c.requires.low.1)) c.loop-place.invariant.searching nearest
    c.if-place-goal.true (ap (λ z. (state ms z).predecessor) c.if-place-goal.true))

pub returns-then-place-goal-clause-visited : goal.returns-then-place-goal-clause-visited
returns-then-place-goal-clause-visited c =
    let ms = c.loop-place.self.states.items in
    rw (c.visit.ensures.others.0, c.in_ok-current.ensures.visits)
    (visited_push ms c.loop-place.self.visits.items (visit_at ms c.in-Some.place c.in_ok-current.current.node)
    (omega (arith, c.in-Some.ensures.listed, c.loop-place.invariant.queued.size)) c.loop-place.invariant.visited)

pub relax_node-requires-clause-stands : goal.relax_node-requires-clause-stands
relax_node-requires-clause-stands c =
    let ms = c.loop-place.self.states.items in
    let vs = c.loop-place.self.visits.items in
    let price = slice_index c.args.prices.now.prices in
    rw (c.settle.ensures.states, c.settle.ensures.others.0, c.in_ok-current.ensures.visits, c.visit.ensures.others.0) (
      c.args.start.place,
      label ms c.in-Some.place - price c.in-Some.place,
      round_start (visit_at ms c.in-Some.place c.in_ok-current.current.node) c.in_ok-current.current
          c.loop-place.invariant.searching
          (queue_nearest c.loop-place.invariant.queued c.in-Some.ensures)
          refl refl c.in_ok-current.ensures.current.1 c.in_ok-current.ensures.current.2
          (few_visits c.loop-place.invariant.searching (omega (arith, c.loop-place.invariant.size, c.requires.goal.0)))
          (omega (arith, c.loop-place.invariant.size, c.requires.low.1)) c.requires.low.0,
    )

pub relax_node-requires-clause-queued : goal.relax_node-requires-clause-queued
relax_node-requires-clause-queued c =
    rw (c.settle.ensures.states, c.settle.ensures.queue, c.visit.ensures.others.0, c.visit.ensures.others.1)
    (queue_settle (slice_index c.args.prices.now.prices) c.loop-place.self.states.items c.loop-place.self.queue
    c.in-Some.place (omega (arith, c.in-Some.ensures.listed, c.loop-place.invariant.queued.size))
    c.loop-place.invariant.queued)

pub relax_node-requires-clause-count : goal.relax_node-requires-clause-count
relax_node-requires-clause-count c =
    omega (
      arith,
      c.settle.ensures.others.1,
      c.visit.ensures.others.2,
      turns_counted c.args.net.now c.loop-place.self.visits.items (length c.loop-place.self.visits.items)
          c.loop-place.self.looks c.loop-place.invariant.counted,
      arcs_few c.args.net.now,
      c.requires.net.arc_limit,
    )

pub loop-place-smaller : goal.loop-place-smaller
loop-place-smaller c =
    let ms = c.loop-place.self.states.items in
    let vs = c.loop-place.self.visits.items in
    let few =
    few_visits c.loop-place.invariant.searching (omega (arith, c.loop-place.invariant.size, c.requires.goal.0)) in
    let visits : c.relax_node.new.self.visits.items ≡ vs
    ++ visit_at ms c.in-Some.place c.in_ok-current.current.node ∷ [] =
    rw (c.relax_node.ensures.visits, c.settle.ensures.others.0) c.in_ok-current.ensures.visits in
    let states : c.settle.new.self.states.items ≡ with_settled ms c.in-Some.place =
    rw (sym c.visit.ensures.others.0) c.settle.ensures.states in
    omega (
      arith,
      few,
      ap (λ (z : List Visit). length z) visits,
      length_push vs (visit_at ms c.in-Some.place c.in_ok-current.current.node),
      c.relax_node.ensures.lowers.length,
      ap (λ (z : List NodeState). length z) states,
      length-set {A = NodeState},
    )

pub loop-place-preserved : goal.loop-place-preserved
loop-place-preserved c =
    let net = c.args.net.now in
    let ms = c.loop-place.self.states.items in
    let vs = c.loop-place.self.visits.items in
    let price = slice_index c.args.prices.now.prices in
    let u = c.in-Some.place in
    let node = c.in_ok-current.current.node in
    let x : Visit = visit_at ms u node in
    let s = c.loop-place.invariant.searching in
    let nearest = queue_nearest c.loop-place.invariant.queued c.in-Some.ensures in
    let listed : u < length ms = omega (arith, c.in-Some.ensures.listed, c.loop-place.invariant.queued.size) in
    let visits : c.relax_node.new.self.visits.items ≡ vs ++ x ∷ [] =
    rw (c.relax_node.ensures.visits, c.settle.ensures.others.0) c.in_ok-current.ensures.visits in
    let states : c.settle.new.self.states.items ≡ with_settled ms u =
    rw (sym c.visit.ensures.others.0) c.settle.ensures.states in
    let lowers : IsLowered (with_settled ms u) c.relax_node.new.self.states.items =
    subst (λ (z : List NodeState). IsLowered z c.relax_node.new.self.states.items) states c.relax_node.ensures.lowers in
    let looks : LooksBoth net price c.in_ok-current.current (vs ++ x ∷ []) (with_settled ms u)
    c.relax_node.new.self.states.items =
    subst (λ (z : List NodeState).
    LooksBoth net price c.in_ok-current.current (vs ++ x ∷ []) z c.relax_node.new.self.states.items) states
    (subst (λ (z : List Visit).
    LooksBoth net price c.in_ok-current.current z c.settle.new.self.states.items c.relax_node.new.self.states.items)
    (rw c.settle.ensures.others.0 c.in_ok-current.ensures.visits) c.relax_node.ensures.looks) in
    record {
      size = omega (arith, c.loop-place.invariant.size, lowers.length, length-set {A = NodeState});
      searching = rw visits
          (round_done x c.in_ok-current.current s nearest refl refl
          c.in_ok-current.ensures.current.1 c.in_ok-current.ensures.current.2
          (few_visits s (omega (arith, c.loop-place.invariant.size, c.requires.goal.0)))
          (omega (arith, c.loop-place.invariant.size, c.requires.low.1)) c.requires.low.0
          c.relax_node.new.self.states.items c.if-place-goal.false lowers looks);
      counted =
          let more =
          turn_counted net vs (vs ++ x ∷ []) (length vs) (length (vs ++ x ∷ [])) u node c.loop-place.self.looks
          c.relax_node.ensures.net
          (named_at net ms u node c.in_ok-current.ensures.current.0
          ((s.labelled.near_by u).named nearest.is_known)).1
          (length_push vs x) (ap (λ (y : Visit). y.place) (visit_last vs x))
          (fresh x s.labelled nearest refl refl)
          (λ i l. ap (λ (y : Visit). y.place) (visit_before vs x i l)) c.loop-place.invariant.counted in
          rw visits
          (omega (arith, more, c.relax_node.ensures.counts, c.settle.ensures.others.1, c.visit.ensures.others.2));
      queued = c.relax_node.ensures.queued;
      visited = rw visits
          (visited_kept _ c.relax_node.new.self.states.items _ lowers
          (visited_settle ms vs x u refl listed c.loop-place.invariant.visited));
      capacity = rw (c.relax_node.ensures.visits, c.settle.ensures.others.0)
          (c.visit.ensures.capacity ∙ c.loop-place.invariant.capacity);
    }

pub relax_node-requires-clause-node : goal.relax_node-requires-clause-node
relax_node-requires-clause-node c =
    let ms = c.loop-place.self.states.items in
    let named =
    named_at c.args.net.now ms c.in-Some.place c.in_ok-current.current.node c.in_ok-current.ensures.current.0
    ((c.loop-place.invariant.searching.labelled.near_by c.in-Some.place).named
    (c.loop-place.invariant.queued.shut c.in-Some.place c.in-Some.ensures.listed c.in-Some.ensures.present).0) in
    (named.0, omega (arith, named.1, c.in_ok-current.ensures.current.1))

pub returns-clause-none : goal.returns-clause-none
returns-clause-none c =
    search_ended c.args.net.now (slice_index c.args.prices.now.prices) c.args.start.place c.args.goal
    c.loop-place.self.states.items c.loop-place.self.visits.items c.loop-place.invariant.searching
    (queue_none (slice_index c.args.prices.now.prices) c.loop-place.self.states.items c.loop-place.self.queue
    c.loop-place.invariant.queued c.in_default.ensures)

pub returns-in_err-current-clause-none : goal.returns-in_err-current-clause-none
returns-in_err-current-clause-none c =
    let shut =
    c.loop-place.invariant.queued.shut c.in-Some.place c.in-Some.ensures.listed c.in-Some.ensures.present in
    absurd (both_ways _ c.in_err-current.ensures.unknown.0 shut.0)

pub returns-in_err-current-clause-size : goal.returns-in_err-current-clause-size
returns-in_err-current-clause-size c =
    let shut =
    c.loop-place.invariant.queued.shut c.in-Some.place c.in-Some.ensures.listed c.in-Some.ensures.present in
    absurd (both_ways _ c.in_err-current.ensures.unknown.0 shut.0)

pub returns-in_err-current-clause-capacity : goal.returns-in_err-current-clause-capacity
returns-in_err-current-clause-capacity c =
    let shut =
    c.loop-place.invariant.queued.shut c.in-Some.place c.in-Some.ensures.listed c.in-Some.ensures.present in
    absurd (both_ways _ c.in_err-current.ensures.unknown.0 shut.0)

pub returns-in_err-current-clause-visited : goal.returns-in_err-current-clause-visited
returns-in_err-current-clause-visited c =
    let shut =
    c.loop-place.invariant.queued.shut c.in-Some.place c.in-Some.ensures.listed c.in-Some.ensures.present in
    absurd (both_ways _ c.in_err-current.ensures.unknown.0 shut.0)

pub returns-in_err-current-clause-queued : goal.returns-in_err-current-clause-queued
returns-in_err-current-clause-queued c =
    let shut =
    c.loop-place.invariant.queued.shut c.in-Some.place c.in-Some.ensures.listed c.in-Some.ensures.present in
    absurd (both_ways _ c.in_err-current.ensures.unknown.0 shut.0)

pub returns-in_err-current-clause-counts : goal.returns-in_err-current-clause-counts
returns-in_err-current-clause-counts c =
    let shut =
    c.loop-place.invariant.queued.shut c.in-Some.place c.in-Some.ensures.listed c.in-Some.ensures.present in
    absurd (both_ways _ c.in_err-current.ensures.unknown.0 shut.0)

pub open-requires-clause-place : goal.open-requires-clause-place
open-requires-clause-place c =
    omega (
      arith,
      node_listed c.args.net.now c.args.start.node c.requires.start.0,
      c.requires.start.1,
      c.requires.length.1,
    )

pub open-requires-clause-length : goal.open-requires-clause-length
open-requires-clause-length c = omega (arith, c.requires.length.0, c.requires.length.1)

pub open-requires-clause-idle : goal.open-requires-clause-idle
open-requires-clause-idle c = c.requires.idle

pub visit-requires-clause-place : goal.visit-requires-clause-place
visit-requires-clause-place c = omega (arith, c.in-Some.ensures.listed, c.loop-place.invariant.queued.size)

pub settle-requires : goal.settle-requires
settle-requires c = record {
  place = (
    rw c.visit.ensures.others.0 (omega (arith, c.in-Some.ensures.listed, c.loop-place.invariant.queued.size)),
    rw c.visit.ensures.others.1 c.in-Some.ensures.listed,
  );
}

pub relax_node-requires-clause-length : goal.relax_node-requires-clause-length
relax_node-requires-clause-length c = (
  rw (c.settle.ensures.states, c.visit.ensures.others.0)
      (omega (arith, length-set {A = NodeState}, c.loop-place.invariant.size)),
  c.requires.length.0,
)

pub relax_node-requires-clause-place : goal.relax_node-requires-clause-place
relax_node-requires-clause-place c =
    rw (c.settle.ensures.states, c.visit.ensures.others.0)
    (omega (
      arith,
      length-set {A = NodeState},
      c.in_ok-current.ensures.current.1,
      c.in-Some.ensures.listed,
      c.loop-place.invariant.queued.size,
    ))

pub returns-then-place-goal-clause-size : goal.returns-then-place-goal-clause-size
returns-then-place-goal-clause-size c =
    rw c.visit.ensures.others.0 (omega (arith, c.loop-place.invariant.size, c.requires.length.1))

pub returns-then-place-goal-clause-capacity : goal.returns-then-place-goal-clause-capacity
returns-then-place-goal-clause-capacity c = c.visit.ensures.capacity ∙ c.loop-place.invariant.capacity

pub returns-then-place-goal-clause-queued : goal.returns-then-place-goal-clause-queued
returns-then-place-goal-clause-queued c =
    rw (c.visit.ensures.others.0, c.visit.ensures.others.1) c.loop-place.invariant.queued

pub returns-then-place-goal-clause-counts : goal.returns-then-place-goal-clause-counts
returns-then-place-goal-clause-counts c =
    omega (
      arith,
      c.visit.ensures.others.2,
      turns_counted c.args.net.now c.loop-place.self.visits.items (length c.loop-place.self.visits.items)
          c.loop-place.self.looks c.loop-place.invariant.counted,
    )

pub returns-clause-size : goal.returns-clause-size
returns-clause-size c = omega (arith, c.loop-place.invariant.size, c.requires.length.1)

pub returns-clause-counts : goal.returns-clause-counts
returns-clause-counts c =
    turns_counted c.args.net.now c.loop-place.self.visits.items (length c.loop-place.self.visits.items)
    c.loop-place.self.looks c.loop-place.invariant.counted
