use Rattle.std.proofs.Common.{◌≡◌, ◌<◌, List, length, get_or, arith, ap, sym, ◌∙◌, subst}
use Rattle.std.proofs.lemmas.List.{get_or_default}
use Rattle.firm_rules.specs.Book.{TenantRows}
use Rattle.firm_rules.specs.declared.rounds.Choice.TheVariants.{Wait}
use Rattle.firm_graph.specs.declared.ids.TaskParts.{TaskParts}
use Rattle.firm_graph.specs.Graph.{Mirrors}
use Rattle.firm_graph.specs.inner.Steps.{moved}
use Rattle.firm_graph.proofs.Firsts.{settle-end}
use Rattle.firm_graph.proofs.Turns.{settle-next, stay-next}
use Rattle.firm_graph.proofs.moves.settle_tasks.Goals as goal

pub loop-place-preserved-then-stays : goal.loop-place-preserved-then-stays
loop-place-preserved-then-stays c = record {
  so_far = λ g mirrors net_is rows_is machines_is tasks_is hub_is.
      let here : c.loop-place.place < length c.args.rows.now.tasks = omega arith in
      stay-next g c.args.rows.now c.case.result.now c.args.choices.now c.loop-place.place _ c.loop-place.net rows_is
      c.case.ensures c.limits.ensures.form c.requires.places c.requires.one_each here
      (get_or_default c.args.choices.now c.loop-place.place Wait _ c.loop-place-test.true)
      (sym c.stays.ensures ∙ c.if-stays.true)
      (c.loop-place.invariant.so_far g mirrors net_is rows_is machines_is tasks_is hub_is);
}

pub loop-place-preserved : goal.loop-place-preserved
loop-place-preserved c = record {
  so_far = λ g mirrors net_is rows_is machines_is tasks_is hub_is.
      let here : c.loop-place.place < length c.args.rows.now.tasks = omega arith in
      let listed : c.loop-place.place < length c.args.tasks.now.items = omega (arith, here, c.requires.tasks) in
      let below : c.loop-place.place < length g.tasks = omega
      (arith, listed, ap (λ (l : List TaskParts). length l) tasks_is) in
      settle-next g c.args.rows.now c.args.heads.now.machines.now c.args.heads.now.hub c.args.choices.now
      c.loop-place.place _ c.at.result.now
      c.stand_of-stand.result c.loop-place.net c.settle_task.new.net
      rows_is machines_is hub_is here below
      (c.at.ensures ∙ ap (λ (l : List TaskParts). get_or l c.loop-place.place c.at.result.now)
      (sym tasks_is))
      (get_or_default c.args.choices.now c.loop-place.place Wait _ c.loop-place-test.true)
      c.stand_of-stand.ensures.stands
      (c.loop-place.invariant.so_far g mirrors net_is rows_is machines_is tasks_is hub_is)
      c.settle_task.ensures.settled;
}

pub returns : goal.returns
returns c = record {
  settled = λ g mirrors net_is rows_is machines_is tasks_is hub_is.
      let same : length c.args.choices.now ≡ length g.rows.tasks = omega
      (arith, c.requires.one_each, ap (λ (r : TenantRows). length r.tasks) rows_is) in
      subst (λ (r : TenantRows). Mirrors (moved g r c.loop-place.net))
      (settle-end g.rows c.args.choices.now c.loop-place.place same (omega (arith, c.loop-place-test.false, same)))
      (c.loop-place.invariant.so_far g mirrors net_is rows_is machines_is tasks_is hub_is);
}
