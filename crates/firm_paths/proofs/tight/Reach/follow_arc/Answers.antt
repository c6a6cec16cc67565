use Rattle.std.proofs.Common.{◌≡◌, ℕ, ◌+◌, ◌∙◌, Some, true, arith, refl, sym, ap, subst, inl, inr}
use Rattle.std.specs.Prelude.{slice_index}
use Rattle.std.proofs.lemmas.Bool.{both_ways}
use Rattle.firm_net.specs.Net.{lists_at, IsResidual as IsOpen}
use Rattle.firm_net.specs.declared.row.Way.{Way}
use Rattle.firm_net.specs.declared.row.NodeId.{NodeId}
use Rattle.firm_paths.specs.inner.Search.{start_of, end_of, opposite_of, IsSuccessor}
use Rattle.firm_paths.specs.inner.Spread.{is}
use Rattle.firm_paths.specs.declared.search.Visit.{Visit}
use Rattle.firm_paths.proofs.Looks.{place_value}
use Rattle.firm_paths.proofs.Spreading.{grown_same, make_successor, visit_counted, visit_grown, visit_spread}
use Rattle.firm_paths.proofs.tight.Reach.follow_arc.Goals as goal
use Rattle.firm_paths.proofs.tight.Reach.follow_arc.Goals.{in-Forward, in-Backward, then-is_barred-via-then-is_barred}
use Rattle.firm_paths.proofs.tight.Reach.follow_arc.Goals.{then-is_barred-via-else-is_barred+then-not-is_residual}

pub returns-then-tight-clause-spreads : goal.returns-then-tight-clause-spreads
returns-then-tight-clause-spreads c from number place old =
    let there =
    place_value c.entered-node.result (lists_at c.args.arcs.now.net.now c.entered-node.result) c.in-Some.place
    c.in-Some.ensures.value in
    let open_ : IsOpen (opposite_of c.args.read.way) c.args.row =
    subst (λ (w : Way). IsOpen w c.args.row) c.opposite-way.ensures (c.if-not-is_residual.ensures.0 refl) in
    let ends : c.in-Some.place ≡ (end_of c.args.read.way c.args.row).id.place =
    there.1 ∙ ap (λ (n : NodeId). n.id.place) c.entered-node.ensures in
    let tight : c.args.row.cost + slice_index c.args.arcs.now.prices.now.prices c.args.row.tail.id.place
    ≡ slice_index c.args.arcs.now.prices.now.prices c.args.row.head.id.place =
    elim c.match-read.branch [
      | in-Forward w ↦
          let start : c.args.row.tail.id.place ≡ c.args.current.place =
          subst (λ (way : Way). (start_of way c.args.row).id.place ≡ c.args.current.place) w.in-Forward.is
          c.requires.start in
          let end : c.in-Some.place ≡ c.args.row.head.id.place =
          subst (λ (way : Way). c.in-Some.place ≡ (end_of way c.args.row).id.place) w.in-Forward.is ends in
          let t = w.is_tight-tight.ensures.0 (sym w.tight-is ∙ c.if-tight.true) in
          omega (
            arith,
            t,
            w.cost.ensures.value,
            ap (slice_index c.args.arcs.now.prices.now.prices) start,
            ap (slice_index c.args.arcs.now.prices.now.prices) end,
          )
      | in-Backward w ↦
          let start : c.args.row.head.id.place ≡ c.args.current.place =
          subst (λ (way : Way). (start_of way c.args.row).id.place ≡ c.args.current.place) w.in-Backward.is
          c.requires.start in
          let end : c.in-Some.place ≡ c.args.row.tail.id.place =
          subst (λ (way : Way). c.in-Some.place ≡ (end_of way c.args.row).id.place) w.in-Backward.is ends in
          let t = w.is_tight-tight-in-Backward.ensures.0 (sym w.tight-is ∙ c.if-tight.true) in
          omega (
            arith,
            t,
            w.cost-in-Backward.ensures.value,
            ap (slice_index c.args.arcs.now.prices.now.prices) start,
            ap (slice_index c.args.arcs.now.prices.now.prices) end,
          )
    ] in
    let predecessor : IsSuccessor c.args.arcs.now.net.now (slice_index c.args.arcs.now.prices.now.prices)
    c.args.arcs.now.barred.now
    c.args.self.now.visits.items c.in-Some.place
    (record {
      step = record { arc = c.args.read.arc; way = opposite_of c.args.read.way };
      after = c.args.current.number;
    }) =
    subst (λ (z : ℕ). IsSuccessor c.args.arcs.now.net.now (slice_index
    c.args.arcs.now.prices.now.prices) c.args.arcs.now.barred.now c.args.self.now.visits.items
    z (record {
      step = record { arc = c.args.read.arc; way = opposite_of c.args.read.way };
      after = c.args.current.number;
    }))
    (sym ends)
    (make_successor c.args.arcs.now.net.now (slice_index c.args.arcs.now.prices.now.prices) c.args.arcs.now.barred.now
    c.args.self.now.visits.items
    c.args.read.arc c.args.row c.args.read.way c.args.current.number
    c.requires.row open_ number (c.requires.start ∙ sym place) tight
    (λ b. let t : c.is_barred.result ≡ true = c.is_barred.ensures.1 b in absurd (cc (t, c.if-is_barred.false)))) in
    let x : Visit =
    record {
      node = c.entered-node.result;
      place = c.in-Some.place;
      predecessor =
          Some (record {
            step = record { arc = c.args.read.arc; way = opposite_of c.args.read.way };
            after = c.args.current.number;
          });
    } in
    let spread =
    visit_spread c.args.self.now.seen.items c.args.self.now.visits.items x
    (omega (arith, c.in-Some.ensures.below, c.requires.length.1)) c.args.arcs.now.net.now (slice_index
    c.args.arcs.now.prices.now.prices)
    c.args.arcs.now.barred.now from
    there.0 (sym there.1) predecessor old in
    rw (c.visit_once.ensures.seen, c.visit_once.ensures.visits, c.opposite-way.ensures)
    (spread.0, inr (λ o t. ap (is _) (sym ends) ∙ spread.1))

pub returns-then-tight-clause-counted : goal.returns-then-tight-clause-counted
returns-then-tight-clause-counted c =
    rw (c.visit_once.ensures.seen, c.visit_once.ensures.visits, c.visit_once.ensures.capacity)
    (visit_counted c.args.self.now.seen.items c.args.self.now.visits.items _
    (omega (arith, c.in-Some.ensures.below, c.requires.length.1)) _ c.requires.counted)

pub returns-then-tight-clause-grown : goal.returns-then-tight-clause-grown
returns-then-tight-clause-grown c =
    rw (c.visit_once.ensures.seen, c.visit_once.ensures.visits)
    (visit_grown c.args.self.now.seen.items c.args.self.now.visits.items _
    (omega (arith, c.in-Some.ensures.below, c.requires.length.1)))

pub returns-else-tight-clause-spreads : goal.returns-else-tight-clause-spreads
returns-else-tight-clause-spreads c from number place old =
    let there =
    place_value c.entered-node.result (lists_at c.args.arcs.now.net.now c.entered-node.result) c.in-Some.place
    c.in-Some.ensures.value in
    let price = slice_index c.args.arcs.now.prices.now.prices in
    let ends : c.in-Some.place ≡ (end_of c.args.read.way c.args.row).id.place =
    there.1 ∙ ap (λ (n : NodeId). n.id.place) c.entered-node.ensures in (
      old,
      inr (λ o t.
          let tight : c.match-read.tight ≡ true =
          elim c.match-read.branch [
            | in-Forward w ↦
                let start : c.args.row.tail.id.place ≡ c.args.current.place =
                subst (λ (way : Way). (start_of way c.args.row).id.place ≡ c.args.current.place) w.in-Forward.is
                c.requires.start in
                let end : c.in-Some.place ≡ c.args.row.head.id.place =
                subst (λ (way : Way). c.in-Some.place ≡ (end_of way c.args.row).id.place) w.in-Forward.is ends in
                w.tight-is
                ∙ w.is_tight-tight.ensures.1 (omega (arith, t, w.cost.ensures.value, ap price start, ap price end))
            | in-Backward w ↦
                let start : c.args.row.head.id.place ≡ c.args.current.place =
                subst (λ (way : Way). (start_of way c.args.row).id.place ≡ c.args.current.place) w.in-Backward.is
                c.requires.start in
                let end : c.in-Some.place ≡ c.args.row.tail.id.place =
                subst (λ (way : Way). c.in-Some.place ≡ (end_of way c.args.row).id.place) w.in-Backward.is ends in
                w.tight-is
                ∙ w.is_tight-tight-in-Backward.ensures.1
                (omega (arith, t, w.cost-in-Backward.ensures.value, ap price start, ap price end))
          ] in
          absurd (both_ways c.match-read.tight c.if-tight.false tight)),
    )

pub returns-then-is_barred-clause-spreads : goal.returns-then-is_barred-clause-spreads
returns-then-is_barred-clause-spreads c from number place old = (
  old,
  elim c.then-is_barred.branch [
    | then-is_barred-via-then-is_barred w ↦ inl (c.is_barred.ensures.0 w.if-is_barred.true)
    | then-is_barred-via-else-is_barred+then-not-is_residual w ↦
        inr (λ o t. absurd (both_ways w.is_residual.result w.if-not-is_residual.true
        (w.is_residual.ensures.1 (subst (λ (way : Way). IsOpen way c.args.row) (sym c.opposite-way.ensures) o))))
  ],
)

pub returns-else-tight-clause-grown : goal.returns-else-tight-clause-grown
returns-else-tight-clause-grown c = grown_same _ _

pub returns-then-is_barred-clause-grown : goal.returns-then-is_barred-clause-grown
returns-then-is_barred-clause-grown c = grown_same _ _
