use Rattle.std.proofs.Common.{◌<◌, List, [], None, length, map, set, sym, ap, ◌∙◌, arith}
use Rattle.std.proofs.lemmas.List.{length-map, map-set, get_or-map}
use Rattle.firm_rules.specs.Placement.{Demand as RoundDemand}
use Rattle.firm_rules.specs.inner.Demands.{seen, without_machine_at}
use Rattle.firm_rules.specs.declared.demands.Demand.{Demand}
use Rattle.firm_rules.proofs.CaseLists.{rewritten}
use Rattle.firm_rules.proofs.demands.leave_machine.Goals as goal

pub loop-task-preserved : goal.loop-task-preserved
loop-task-preserved c =
    let demands : List Demand = c.loop-task.demands in
    let i = c.loop-task.task in
    let old : List RoundDemand = map seen c.args.demands.now in
    let none : RoundDemand = record { home = None; preferred = []; delay = 0; job = 0 } in
    let below : i < length demands = omega (arith, c.loop-task-test.true, c.loop-task.auto.demands) in
    rewritten (without_machine_at c.args.place) old (map seen demands)
    (map seen (set demands i c.without_machine.result)) i none c.loop-task.invariant
    (omega (arith, c.loop-task-test.true, length-map c.args.demands.now seen))
    (map-set seen demands i c.without_machine.result
    ∙ ap (set (map seen demands) i)
    (c.without_machine.ensures
    ∙ ap (without_machine_at c.args.place)
    (sym (get_or-map seen demands i c.index-demands-task.result none below))))
