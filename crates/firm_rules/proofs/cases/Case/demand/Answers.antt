use Rattle.std.proofs.Common.{◌<◌, List, map, length, None, [], sym, ap, subst, ◌∙◌, arith}
use Rattle.std.proofs.lemmas.List.{length-map, get_or-map}
use Rattle.firm_rules.specs.Placement.{Case, Demand as RoundDemand}
use Rattle.firm_rules.specs.inner.Demands.{seen, Fits}
use Rattle.firm_rules.specs.declared.demands.Demand.{Demand}
use Rattle.firm_rules.proofs.cases.Case.demand.Goals as goal

pub returns-clause-fits : goal.returns-clause-fits
returns-clause-fits g c =
    let demands : List Demand = c.self.inside.demands.items in
    let it : Demand = c.index.result.now in
    let none : RoundDemand = record { home = None; preferred = []; delay = 0; job = 0 } in
    let below : c.args.task < length demands = omega (
      arith,
      c.requires,
      ap (λ (case : Case). length case.tasks) c.self.view_is,
      length-map demands seen,
    ) in
    subst (λ n. Fits n (seen it)) (ap (λ (case : Case). length case.slots) c.self.view_is)
    (subst (Fits (length c.self.inside.slots.items))
    (get_or-map seen demands c.args.task it none below ∙ ap seen (sym c.index.ensures))
    (c.self.invariant.tasks c.args.task none (omega (arith, below, length-map demands seen))))
