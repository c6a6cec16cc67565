use Rattle.firm_net.specs.Row.{Row}
use Rattle.firm_net.specs.declared.row.ArcId.{ArcId}
use Rattle.std.proofs.Common.{◌∙◌, refl, List, length, arith, ap}
use Rattle.firm_paths.specs.inner.Search.{IsFollowed}
use Rattle.firm_paths.proofs.Labels.{lowered_same, lowered_trans, followed_kept}
use Rattle.firm_paths.proofs.Walks.{walk_start, walk_more, walk_done, cons_first}
use Rattle.firm_paths.proofs.shortest.Labels.relax_arcs.Goals as goal

pub loop-arc-init : goal.loop-arc-init
loop-arc-init c =
    let rows = c.into_iter-arc-iterator.ensures.into_iter_gives ∙ c.arcs_leaving-arc-items.ensures.arcs in
    record {
      can_next = tt;
      is_finite = tt;
      lowers = lowered_same c.args.self.now.states.items;
      looking = λ from near at. (
        at,
        walk_start c.args.current.node c.arcs_leaving-arc-items.ensures.net c.requires.node.0 c.requires.node.1 rows,
      );
      counted = omega (arith, ap (λ (z : List (ArcId × Row)). length z) rows);
      queued = c.requires.queued;
      visits = refl;
    }

pub relax_arc-requires-clause-row : goal.relax_arc-requires-clause-row
relax_arc-requires-clause-row c =
    let at = c.requires.stands in
    ((c.loop-arc.invariant.looking at.0 at.1 at.2).1.rows c.in-Some.arc c.in-Some.row
    (rw c.in-Some.ensures.steps (cons_first _ _))).0

pub relax_arc-requires-clause-start : goal.relax_arc-requires-clause-start
relax_arc-requires-clause-start c =
    let at = c.requires.stands in
    ((c.loop-arc.invariant.looking at.0 at.1 at.2).1.rows c.in-Some.arc c.in-Some.row
    (rw c.in-Some.ensures.steps (cons_first _ _))).1

pub relax_arc-requires-clause-stands : goal.relax_arc-requires-clause-stands
relax_arc-requires-clause-stands c =
    let at = c.requires.stands in
    rw c.loop-arc.invariant.visits (at.0, at.1, (c.loop-arc.invariant.looking at.0 at.1 at.2).0)

pub loop-arc-preserved : goal.loop-arc-preserved
loop-arc-preserved c =
    let way = c.args.way in
    let now = c.loop-arc.self.states.items in
    let new = c.relax_arc.new.self.states.items in
    record {
      can_next = tt;
      is_finite = tt;
      lowers = lowered_trans c.args.self.now.states.items now new c.loop-arc.invariant.lowers
          c.relax_arc.ensures.lowers;
      looking = λ from near start.
          let before = c.loop-arc.invariant.looking from near start in
          let after = (rw c.loop-arc.invariant.visits at c.relax_arc.ensures.looks) from near before.0 in (
            after.0,
            walk_more c.next.new.self (λ id row. IsFollowed new way row) c.in-Some.arc c.in-Some.row before.1
                c.in-Some.ensures.steps (λ i r f. followed_kept now new way r c.relax_arc.ensures.lowers f) after.1,
          );
      counted = omega (
        arith,
        c.loop-arc.invariant.counted,
        c.relax_arc.ensures.others.1,
        ap (λ (z : List (ArcId × Row)). length z) c.in-Some.ensures.steps,
      );
      queued = c.relax_arc.ensures.queued;
      visits = c.relax_arc.ensures.others.0 ∙ c.loop-arc.invariant.visits;
    }

pub returns-clause-looks : goal.returns-clause-looks
returns-clause-looks c from near start =
    let done = c.loop-arc.invariant.looking from near start in
    (done.0, walk_done done.1 c.in-None.ensures.steps.0)
