use Rattle.std.proofs.Common.{◌≤◌, ◌<◌, List, length, get_or, arith, ap, sym, ◌∙◌, subst}
use Rattle.firm_graph.specs.declared.ids.TaskParts.{TaskParts}
use Rattle.firm_rules.specs.Book.{TenantRows}
use Rattle.firm_graph.specs.Graph.{Mirrors}
use Rattle.firm_graph.specs.inner.Steps.{moved, thrown_out_first}
use Rattle.firm_graph.proofs.Firsts.{throw-end}
use Rattle.firm_graph.proofs.moves.evict_tasks.Goals as goal

pub loop-place-preserved : goal.loop-place-preserved
loop-place-preserved c = record {
  so_far = λ g mirrors net_is rows_is tasks_is hub_is.
      let below : c.loop-place.place < length g.tasks = omega (
        arith,
        c.loop-place-test.true,
        c.len-place-end.ensures,
        ap (λ (l : List TaskParts). length l) tasks_is,
      ) in
      c.evict_task.ensures.step g (c.loop-place.invariant.so_far g mirrors net_is rows_is tasks_is hub_is) rows_is
      hub_is below
      (c.at.ensures ∙ ap (λ (l : List TaskParts). get_or l c.loop-place.place c.at.result.now) (sym tasks_is));
}

pub returns : goal.returns
returns c = record {
  evicted = λ g mirrors net_is rows_is tasks_is hub_is.
      let all : length c.args.rows.now.tasks ≤ c.loop-place.place = omega (
        arith,
        c.loop-place-test.false,
        c.len-place-end.ensures,
        c.requires.tasks,
      ) in
      subst (λ (r : TenantRows). Mirrors (moved g r c.loop-place.net))
      (ap (λ (r : TenantRows). thrown_out_first r c.args.name c.loop-place.place) rows_is
      ∙ throw-end c.args.rows.now c.args.name c.loop-place.place all)
      (c.loop-place.invariant.so_far g mirrors net_is rows_is tasks_is hub_is);
}
