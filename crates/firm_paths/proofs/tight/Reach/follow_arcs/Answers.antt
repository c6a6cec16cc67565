use Rattle.firm_net.specs.Row.{Row}
use Rattle.firm_net.specs.declared.row.ArcId.{ArcId}
use Rattle.std.proofs.Common.{◌∙◌, List, length, ap, arith}
use Rattle.std.specs.Prelude.{slice_index}
use Rattle.firm_paths.proofs.Walks.{cons_first}
use Rattle.firm_paths.proofs.Spreading.{spreading_start, spreading_more, spreading_done}
use Rattle.firm_paths.proofs.tight.Reach.follow_arcs.Goals as goal

pub loop-arc-init : goal.loop-arc-init
loop-arc-init c = record {
  can_next = tt;
  is_finite = tt;
  counted = c.requires.counted;
  capacity = omega arith;
  looked = omega (
    arith,
    ap (λ (z : List (ArcId × Row)). length z)
        (c.into_iter-arc-iterator.ensures.into_iter_gives ∙ c.arcs_leaving-arc-items.ensures.arcs),
  );
  spreading = spreading_start c.args.arcs.now.net.now (slice_index c.args.arcs.now.prices.now.prices)
      c.args.arcs.now.barred.now c.args.current
      c.args.way c.args.self.now.seen.items c.args.self.now.visits.items c.args.current.node _
      c.arcs_leaving-arc-items.ensures.net c.requires.node.0 c.requires.node.1
      (c.into_iter-arc-iterator.ensures.into_iter_gives ∙ c.arcs_leaving-arc-items.ensures.arcs);
}

pub follow_arc-requires-clause-row : goal.follow_arc-requires-clause-row
follow_arc-requires-clause-row c =
    (c.loop-arc.invariant.spreading.rows c.in-Some.arc c.in-Some.row (rw c.in-Some.ensures.steps (cons_first _ _))).0

pub follow_arc-requires-clause-start : goal.follow_arc-requires-clause-start
follow_arc-requires-clause-start c =
    (c.loop-arc.invariant.spreading.rows c.in-Some.arc c.in-Some.row (rw c.in-Some.ensures.steps (cons_first _ _))).1

pub loop-arc-preserved : goal.loop-arc-preserved
loop-arc-preserved c = record {
  can_next = tt;
  is_finite = tt;
  counted = c.follow_arc.ensures.counted;
  capacity = omega (arith, c.follow_arc.ensures.capacity, c.loop-arc.invariant.capacity);
  looked = omega (
    arith,
    c.loop-arc.invariant.looked,
    c.follow_arc.ensures.looks,
    ap (λ (z : List (ArcId × Row)). length z) c.in-Some.ensures.steps,
  );
  spreading = spreading_more c.args.arcs.now.net.now (slice_index c.args.arcs.now.prices.now.prices)
      c.args.arcs.now.barred.now c.args.current
      c.args.way c.args.self.now.seen.items c.args.self.now.visits.items c.loop-arc.self.seen.items
      c.loop-arc.self.visits.items c.follow_arc.new.self.seen.items c.follow_arc.new.self.visits.items
      c.loop-arc.arc-iterator c.next.new.self c.in-Some.arc c.in-Some.row
      c.loop-arc.invariant.spreading c.in-Some.ensures.steps c.follow_arc.ensures.grown c.follow_arc.ensures.spreads;
}

pub returns-clause-spreads : goal.returns-clause-spreads
returns-clause-spreads c =
    spreading_done c.args.arcs.now.net.now (slice_index c.args.arcs.now.prices.now.prices) c.args.arcs.now.barred.now
    c.args.current c.args.way
    c.args.self.now.seen.items c.args.self.now.visits.items c.loop-arc.self.seen.items c.loop-arc.self.visits.items
    c.loop-arc.arc-iterator c.loop-arc.invariant.spreading c.in-None.ensures.steps.0
