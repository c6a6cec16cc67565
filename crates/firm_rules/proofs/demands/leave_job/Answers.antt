use Rattle.std.proofs.Common.{ℕ, ◌<◌, List, [], None, length, map, set, sym, ap, ◌∙◌, arith}
use Rattle.std.specs.Prelude.{slice_index_or}
use Rattle.std.proofs.lemmas.List.{length-map, map-set, get_or-map}
use Rattle.firm_rules.specs.Placement.{Demand as RoundDemand}
use Rattle.firm_rules.specs.inner.Demands.{seen, without_job_at}
use Rattle.firm_rules.specs.declared.demands.Demand.{Demand}
use Rattle.firm_rules.proofs.CaseLists.{rewritten}
use Rattle.firm_rules.proofs.demands.leave_job.Goals as goal

pub loop-demand-preserved : goal.loop-demand-preserved
loop-demand-preserved c =
    let demands : List Demand = c.loop-demand.demands in
    let i = c.loop-demand.demand-index in
    let it : Demand = slice_index_or demands i c.demand-item.result in
    let new : Demand = record {
      home = it.home;
      preferred = it.preferred;
      delay = it.delay;
      job = c.place_without-demand.result;
    } in
    let old : List RoundDemand = map seen c.args.demands.now in
    let none : RoundDemand = record { home = None; preferred = []; delay = 0; job = 0 } in
    let below : i < length demands = omega (arith, c.loop-demand-test.true, c.loop-demand.auto.demands) in
    rewritten (without_job_at c.args.place) old (map seen demands) (map seen (set demands i new)) i none
    c.loop-demand.invariant (omega (arith, c.loop-demand-test.true, length-map c.args.demands.now seen))
    (map-set seen demands i new
    ∙ ap (λ (n : ℕ). let d : RoundDemand = record (seen it) { job = n } in set (map seen demands) i d)
    c.place_without-demand.ensures
    ∙ ap (λ (d : RoundDemand). set (map seen demands) i (without_job_at c.args.place d))
    (sym (get_or-map seen demands i c.demand-item.result none below)))
