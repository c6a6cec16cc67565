use Rattle.std.proofs.Common.{◌≡◌, ℕ, Option, Some, None, Bool, true, ◌+◌, ◌<◌, ◌∙◌, sym, List, [], arith, refl, ap}
use Rattle.std.proofs.Common.{length, vec_capacity, eqb-true}
use Rattle.std.specs.Prelude.{slice_index, ◌==◌}
use Rattle.std.specs.Option.{option_eq}
use Rattle.std.proofs.lemmas.List.{get_or_default}
use Rattle.std.proofs.lemmas.List.Sums.{count_by-le-length}
use Rattle.std.proofs.lemmas.Bool.{both_ways, eq-eqb, false≢true}
use Rattle.firm_paths.specs.Visits.{visit}
use Rattle.firm_paths.specs.inner.Spread.{visits_with}
use Rattle.firm_paths.specs.declared.search.Visit.{Visit}
use Rattle.firm_paths.proofs.Listed.{node_listed}
use Rattle.firm_paths.proofs.Spreading.{counted_start, visit_counted, out_start, out_more, out_done, out_missed}
use Rattle.firm_paths.proofs.Spreading.{spread_agree}
use Rattle.firm_paths.proofs.Degrees.{arcs_few}
use Rattle.firm_paths.proofs.Turns.{turn_counted, turns_counted}
use Rattle.firm_paths.proofs.tight.Reach.breadth_first.Goals as goal

pub visit_once-requires-clause-counted : goal.visit_once-requires-clause-counted
visit_once-requires-clause-counted c =
    rw c.clear.ensures.visits (counted_start c.clear.new.self.seen.items _ c.clear.ensures.none
    (omega (arith, c.clear.ensures.size, c.requires.length.1, c.requires.room, c.clear.ensures.capacity)))

pub loop-number-init : goal.loop-number-init
loop-number-init c =
    let seen = c.clear.new.self.seen.items in
    let listed : c.args.root.place < length seen =
    omega (
      arith,
      node_listed c.args.arcs.now.net.now c.args.root.node c.requires.root.0,
      c.requires.root.1,
      c.clear.ensures.size,
      c.requires.length.1,
    ) in
    let items : c.visit_once.new.self.visits.items ≡ visits_with seen [] c.args.root =
    c.visit_once.ensures.visits ∙ ap (λ (z : List Visit). visits_with seen z c.args.root) c.clear.ensures.visits in
    record {
      length = omega (arith, c.visit_once.ensures.size, c.clear.ensures.size, c.requires.length.1);
      counted = rw (c.visit_once.ensures.seen, items)
          (visit_counted seen [] c.args.root listed (vec_capacity c.visit_once.new.self.visits)
          (counted_start seen _ c.clear.ensures.none (omega (
            arith,
            c.clear.ensures.size,
            c.requires.length.1,
            c.requires.room,
            c.clear.ensures.capacity,
            c.visit_once.ensures.capacity,
          ))));
      capacity = omega (arith, c.visit_once.ensures.capacity, c.clear.ensures.capacity);
      looked = omega (arith, c.visit_once.ensures.looks, c.clear.ensures.looks);
      out = rw (c.visit_once.ensures.seen, items)
          (out_start c.args.arcs.now.net.now (slice_index c.args.arcs.now.prices.now.prices)
          c.args.arcs.now.barred.now c.args.goal seen
          c.args.root
          listed c.clear.ensures.none c.requires.root.0 c.requires.root.1 c.requires.root.2);
    }

pub loop-number-preserved : goal.loop-number-preserved
loop-number-preserved c =
    let vs = c.loop-number.self.visits.items in
    let n = c.loop-number.number in
    let within : n < length vs =
    omega (arith, c.loop-number-test.true, c.len.ensures, c.loop-number.self.visits.ok.0) in
    let is_visit : c.index.result.now ≡ visit vs n = c.index.ensures ∙ get_or_default vs n _ _ within in
    record {
      length = omega (arith, c.loop-number.invariant.length, c.follow_node.ensures.grown.length);
      counted = c.follow_node.ensures.counted;
      capacity = omega (arith, c.loop-number.invariant.capacity, c.follow_node.ensures.capacity);
      looked =
          let more = turn_counted c.args.arcs.now.net.now vs c.follow_node.new.self.visits.items n (n + 1)
          c.index.result.now.place c.index.result.now.node c.loop-number.self.looks c.requires.net
          (ap (λ (y : Visit). y.node.id.place) is_visit ∙ ((c.loop-number.invariant.out.spread.named n within).1
          ∙ sym (ap (λ (y : Visit). y.place) is_visit)))
          refl
          (ap (λ (y : Visit). y.place) (c.follow_node.ensures.grown.visits n within ∙ sym is_visit))
          (λ i l e. c.loop-number.invariant.out.spread.tree.apart i n l within
          (e ∙ ap (λ (y : Visit). y.place) is_visit))
          (λ i l. ap (λ (y : Visit). y.place) (c.follow_node.ensures.grown.visits i (omega (arith, l, within))))
          c.loop-number.invariant.looked in
          omega (arith, more, c.follow_node.ensures.counts);
      out = out_more c.args.arcs.now.net.now (slice_index c.args.arcs.now.prices.now.prices)
          c.args.arcs.now.barred.now c.args.root.place
          c.args.goal c.loop-number.self.seen.items vs c.follow_node.new.self.seen.items
          c.follow_node.new.self.visits.items n
          (record { node = c.index.result.now.node; place = c.index.result.now.place; number = n })
          c.loop-number.invariant.out within (ap (λ (y : Visit). y.place) is_visit) refl
          (λ e. both_ways c.eq.result c.if-eq.false
          (c.eq.ensures
          ∙ (ap (λ (o : Option ℕ). option_eq (λ (a b : ℕ). a == b) o (Some c.index.result.now.place)) e
          ∙ eq-eqb (visit vs n).place c.index.result.now.place (sym (ap (λ (y : Visit). y.place) is_visit)))))
          c.follow_node.ensures.grown c.follow_node.ensures.spreads;
    }

pub follow_node-requires-clause-count : goal.follow_node-requires-clause-count
follow_node-requires-clause-count c =
    omega (
      arith,
      turns_counted c.args.arcs.now.net.now c.loop-number.self.visits.items c.loop-number.number
          c.loop-number.self.looks
          c.loop-number.invariant.looked,
      arcs_few c.args.arcs.now.net.now,
      c.requires.net.arc_limit,
    )

pub returns-clause-none : goal.returns-clause-none
returns-clause-none c =
    out_done c.args.arcs.now.net.now (slice_index c.args.arcs.now.prices.now.prices) c.args.arcs.now.barred.now
    c.args.root.place c.args.goal
    c.loop-number.self.seen.items c.loop-number.self.visits.items c.loop-number.number
    c.loop-number.invariant.out (omega (arith, c.loop-number-test.false, c.len.ensures, c.loop-number.self.visits.ok.0))

pub returns-clause-missed : goal.returns-clause-missed
returns-clause-missed c =
    λ v is_goal.
    out_missed c.args.arcs.now.net.now (slice_index c.args.arcs.now.prices.now.prices) c.args.arcs.now.barred.now
    c.args.root.place c.args.goal
    c.loop-number.self.seen.items c.loop-number.self.visits.items c.loop-number.number v
    c.loop-number.invariant.out (omega (arith, c.loop-number-test.false, c.len.ensures, c.loop-number.self.visits.ok.0))
    is_goal

pub returns-then-eq-clause-agree : goal.returns-then-eq-clause-agree
returns-then-eq-clause-agree c =
    spread_agree c.args.arcs.now.net.now (slice_index c.args.arcs.now.prices.now.prices) c.args.arcs.now.barred.now
    c.args.root.place
    c.loop-number.self.seen.items c.loop-number.self.visits.items _ c.loop-number.invariant.length
    c.loop-number.invariant.out.spread c.loop-number.invariant.counted

pub returns-clause-agree : goal.returns-clause-agree
returns-clause-agree c =
    spread_agree c.args.arcs.now.net.now (slice_index c.args.arcs.now.prices.now.prices) c.args.arcs.now.barred.now
    c.args.root.place
    c.loop-number.self.seen.items c.loop-number.self.visits.items _ c.loop-number.invariant.length
    c.loop-number.invariant.out.spread c.loop-number.invariant.counted

pub follow_node-requires-clause-length : goal.follow_node-requires-clause-length
follow_node-requires-clause-length c = (c.requires.length.0, c.loop-number.invariant.length)

pub follow_node-requires-clause-counted : goal.follow_node-requires-clause-counted
follow_node-requires-clause-counted c = c.loop-number.invariant.counted

pub follow_node-requires-clause-node : goal.follow_node-requires-clause-node
follow_node-requires-clause-node c =
    let vs = c.loop-number.self.visits.items in
    let n = c.loop-number.number in
    let within : n < length vs =
    omega (arith, c.loop-number-test.true, c.len.ensures, c.loop-number.self.visits.ok.0) in
    let is_visit : c.index.result.now ≡ visit vs n = c.index.ensures ∙ get_or_default vs n _ _ within in
    rw is_visit (c.loop-number.invariant.out.spread.named n within)

pub visit_once-requires-clause-place : goal.visit_once-requires-clause-place
visit_once-requires-clause-place c =
    omega (
      arith,
      node_listed c.args.arcs.now.net.now c.args.root.node c.requires.root.0,
      c.requires.root.1,
      c.clear.ensures.size,
      c.requires.length.1,
    )

pub index-requires : goal.index-requires
index-requires c = omega (arith, c.loop-number-test.true, c.len.ensures, c.loop-number.self.visits.ok.0)

pub loop-number-smaller : goal.loop-number-smaller
loop-number-smaller c =
    omega (
      arith,
      c.loop-number-test.true,
      c.len.ensures,
      c.loop-number.self.visits.ok.0,
      c.loop-number.invariant.counted.count,
      count_by-le-length (λ (b : Bool). b) c.loop-number.self.seen.items,
      c.loop-number.invariant.length,
    )

pub returns-clause-size : goal.returns-clause-size
returns-clause-size c = omega (arith, c.loop-number.invariant.length, c.requires.length.1)

pub returns-clause-counts : goal.returns-clause-counts
returns-clause-counts c =
    turns_counted c.args.arcs.now.net.now c.loop-number.self.visits.items c.loop-number.number c.loop-number.self.looks
    c.loop-number.invariant.looked

pub returns-then-eq-clause-size : goal.returns-then-eq-clause-size
returns-then-eq-clause-size c = omega (arith, c.loop-number.invariant.length, c.requires.length.1)

pub returns-then-eq-clause-counts : goal.returns-then-eq-clause-counts
returns-then-eq-clause-counts c =
    turns_counted c.args.arcs.now.net.now c.loop-number.self.visits.items c.loop-number.number c.loop-number.self.looks
    c.loop-number.invariant.looked

pub returns-then-eq-clause-found : goal.returns-then-eq-clause-found
returns-then-eq-clause-found c = record {
  tree = c.loop-number.invariant.out.spread.tree;
  listed = omega (arith, c.loop-number-test.true, c.len.ensures, c.loop-number.self.visits.ok.0);
}

same_option : (o : Option ℕ) (p : ℕ) → option_eq (λ (a b : ℕ). a == b) o (Some p) ≡ true → o ≡ Some p
same_option None p e = absurd (false≢true e)
same_option (Some a) p e = ap (λ (n : ℕ). Some n) (eqb-true a p e)

pub returns-then-eq-clause-goal : goal.returns-then-eq-clause-goal
returns-then-eq-clause-goal c =
    let vs = c.loop-number.self.visits.items in
    let n = c.loop-number.number in
    let within : n < length vs =
    omega (arith, c.loop-number-test.true, c.len.ensures, c.loop-number.self.visits.ok.0) in
    let is_visit : c.index.result.now ≡ visit vs n = c.index.ensures ∙ get_or_default vs n _ _ within in
    same_option c.args.goal c.index.result.now.place (sym c.eq.ensures ∙ c.if-eq.true)
    ∙ ap (λ (y : Visit). Some y.place) is_visit

pub returns-clause-apart : goal.returns-clause-apart
returns-clause-apart c = c.loop-number.invariant.out.spread.tree.apart

pub returns-then-eq-clause-apart : goal.returns-then-eq-clause-apart
returns-then-eq-clause-apart c = c.loop-number.invariant.out.spread.tree.apart
