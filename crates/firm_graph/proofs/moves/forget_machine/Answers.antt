use Rattle.std.proofs.Common.{◌≡◌, ◌≤◌, ◌+◌, ℕ, List, length, map, get_or, arith, ap, sym, ◌∙◌, subst}
use Rattle.firm_rules.specs.Book.{TenantRows}
use Rattle.firm_rules.specs.declared.book.Task.{Task}
use Rattle.firm_graph.specs.declared.ids.TaskParts.{TaskParts}
use Rattle.firm_graph.specs.Graph.{Mirrors}
use Rattle.std.proofs.Math.Seq.{map-set_same}
use Rattle.std.proofs.lemmas.List.{get_or-set_other, length-set}
use Rattle.firm_graph.specs.inner.Steps.{refitted, forgetting_first, no_task}
use Rattle.firm_graph.proofs.Drops.{AllZip-at}
use Rattle.firm_graph.proofs.Forgets.{forget-next, forget-end}
use Rattle.firm_graph.proofs.moves.forget_machine.Goals as goal

pub at-requires : goal.at-requires
at-requires c = omega (arith, c.loop-place-test.true, c.len-place-end.ensures, c.loop-place.invariant.long)

pub forget_at-parts-requires-clause-preferred : goal.forget_at-parts-requires-clause-preferred
forget_at-parts-requires-clause-preferred c =
    let place : ℕ = c.loop-place.place in
    let own : TaskParts = c.at.result.now in
    ap (λ (p : TaskParts). length p.arcs.preferred)
    (c.at.ensures ∙ c.loop-place.invariant.left place own (omega arith))
    ∙ AllZip-at (λ (t : Task) (p : TaskParts). length p.arcs.preferred ≡ length t.preferred) c.args.rows.now.tasks
    c.args.tasks.now.items place no_task own c.requires.preferred
    (omega (arith, c.loop-place-test.true, c.len-place-end.ensures))

pub set-requires : goal.set-requires
set-requires c = omega (arith, c.loop-place-test.true, c.len-place-end.ensures, c.loop-place.invariant.long)

pub loop-place-preserved : goal.loop-place-preserved
loop-place-preserved c = record {
  so_far = λ g mirrors net_is rows_is tasks_is.
      subst (λ (l : List TaskParts). Mirrors (refitted g
      (forgetting_first g.rows c.args.name (c.loop-place.place + 1)) c.forget_at-parts.new.net l))
      (sym c.set.ensures.items)
      (forget-next g c.args.rows.now c.args.name c.loop-place.place c.at.result.now c.forget_at-parts.result
      c.loop-place.tasks.items c.loop-place.net c.forget_at-parts.new.net rows_is
      (omega (arith, c.loop-place-test.true, c.len-place-end.ensures, c.requires.tasks))
      (omega (arith, c.loop-place-test.true, c.len-place-end.ensures, c.loop-place.invariant.long)) c.at.ensures
      (c.loop-place.invariant.so_far g mirrors net_is rows_is tasks_is) c.forget_at-parts.ensures.step);
  nodes = ap (λ (l : List TaskParts). map (λ (p : TaskParts). p.node) l) c.set.ensures.items
      ∙ map-set_same (λ (p : TaskParts). p.node) c.loop-place.tasks.items c.loop-place.place c.forget_at-parts.result
      c.at.result.now (c.forget_at-parts.ensures.node ∙ ap (λ (p : TaskParts). p.node) c.at.ensures)
      ∙ c.loop-place.invariant.nodes;
  left = λ k d later.
      ap (λ (l : List TaskParts). get_or l k d) c.set.ensures.items
      ∙ get_or-set_other c.loop-place.tasks.items c.loop-place.place k c.forget_at-parts.result d
      (λ (e : k ≡ c.loop-place.place). omega (arith, e, later))
      ∙ c.loop-place.invariant.left k d (omega (arith, later));
  long = ap (λ (l : List TaskParts). length l) c.set.ensures.items
      ∙ length-set c.loop-place.tasks.items c.loop-place.place c.forget_at-parts.result
      ∙ c.loop-place.invariant.long;
}

pub returns-clause-forgotten : goal.returns-clause-forgotten
returns-clause-forgotten c =
    λ g mirrors net_is rows_is tasks_is.
    let all : length g.rows.tasks ≤ c.loop-place.place = omega (
      arith,
      ap (λ (r : TenantRows). length r.tasks) rows_is,
      c.loop-place-test.false,
      c.len-place-end.ensures,
      c.requires.tasks,
    ) in
    subst (λ (r : TenantRows). Mirrors (refitted g r c.loop-place.net c.loop-place.tasks.items))
    (forget-end g.rows c.args.name c.loop-place.place all)
    (c.loop-place.invariant.so_far g mirrors net_is rows_is tasks_is)
