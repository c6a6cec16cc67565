use Rattle.std.proofs.Common.{◌≡◌, ◌<◌, IfSome, List, length, set, map, refl, sym, ap, subst, ◌∙◌, arith}
use Rattle.std.proofs.lemmas.List.{length-map, map-set}
use Rattle.firm_rules.specs.Placement.{Case, Demand as RoundDemand, task_at}
use Rattle.firm_rules.specs.inner.Demands.{seen, placed}
use Rattle.firm_rules.specs.declared.demands.Demand.{Demand}
use Rattle.firm_rules.proofs.CaseSteps.{fits-placed, seen-as, seen-at}
use Rattle.firm_rules.proofs.cases.Case.place.Goals as goal

pub invariant_of-self : goal.invariant_of-self
invariant_of-self g c =
    let it : Demand = c.index_mut-demand.result.now in
    let demands : List Demand = c.self.inside.demands.items in
    fits-placed c.self.inside.limits c.self.inside.jobs c.self.inside.slots.items demands c.args.task it
    (record { home = c.args.home; preferred = it.preferred; delay = c.args.delay; job = it.job })
    c.args.home c.args.delay c.self.invariant c.index_mut-demand.ensures.value
    (omega (
      arith,
      c.requires.there,
      ap (λ (case : Case). length case.tasks) c.self.view_is,
      length-map demands seen,
    ))
    refl
    (subst (λ n. IfSome c.args.home (λ place. place < n)) (sym (ap (λ (case : Case). length case.slots) c.self.view_is))
    c.requires.home)
    c.requires.delay

pub returns : goal.returns
returns g c =
    let it : Demand = c.index_mut-demand.result.now in
    let demands : List Demand = c.self.inside.demands.items in
    let new : Demand = record { home = c.args.home; preferred = it.preferred; delay = c.args.delay; job = it.job } in
    let tasks : map seen demands ≡ c.args.self.now.tasks = ap (λ (case : Case). case.tasks) c.self.view_is in
    seen-as c.self.inside.limits c.self.inside.jobs c.self.inside.slots.items demands (set demands c.args.task new)
    c.args.self.now
    (set c.args.self.now.tasks c.args.task (placed c.args.home c.args.delay (task_at c.args.self.now c.args.task)))
    c.self.view_is
    (map-set seen demands c.args.task new
    ∙ ap (λ (l : List RoundDemand). set l c.args.task (placed c.args.home c.args.delay (seen it))) tasks
    ∙ ap (λ (d : RoundDemand). set c.args.self.now.tasks c.args.task (placed c.args.home c.args.delay d))
    (seen-at demands c.args.task it c.args.self.now.tasks tasks c.requires.there c.index_mut-demand.ensures.value))

pub index_mut-demand-requires : goal.index_mut-demand-requires
index_mut-demand-requires g c =
    subst (λ n. c.args.task < n)
    (sym (ap (λ (case : Case). length case.tasks) c.self.view_is) ∙ length-map c.self.inside.demands.items seen
    ∙ sym c.self.inside.demands.ok.0) c.requires.there
