use Rattle.std.proofs.Common.{List, [], ◌∷◌, ◌++◌, map, sym, ap, subst, ◌∙◌}
use Rattle.std.proofs.lemmas.List.{map_push}
use Rattle.firm_rules.specs.Placement.{Case}
use Rattle.firm_rules.specs.inner.Demands.{seen, case_seen, CaseFits}
use Rattle.firm_rules.specs.declared.demands.Demand.{Demand}
use Rattle.firm_rules.proofs.CaseSteps.{fits-with_task, seen-as}
use Rattle.firm_rules.proofs.cases.Case.add_task.Goals as goal

pub invariant_of-self : goal.invariant_of-self
invariant_of-self g c =
    subst
    (λ (l : List Demand). CaseFits (case_seen c.self.inside.limits c.self.inside.jobs c.self.inside.slots.items l))
    (sym c.in_err-push.ensures.items) c.self.invariant

pub invariant_of-self-2 : goal.invariant_of-self-2
invariant_of-self-2 g c =
    fits-with_task c.self.inside.limits c.self.inside.jobs c.self.inside.slots.items c.self.inside.demands.items
    c.push.new.self.items c.args.demand c.args.self.now c.self.invariant c.self.view_is c.in_ok-push.ensures.items
    c.requires.fits c.requires.room

pub returns-clause-ok : goal.returns-clause-ok
returns-clause-ok g c =
    let demands : List Demand = c.self.inside.demands.items in
    seen-as c.self.inside.limits c.self.inside.jobs c.self.inside.slots.items demands c.push.new.self.items
    c.args.self.now (c.args.self.now.tasks ++ seen c.args.demand ∷ []) c.self.view_is
    (ap (map seen) c.in_ok-push.ensures.items ∙ map_push seen demands c.args.demand
    ∙ ap (λ (case : Case). case.tasks ++ seen c.args.demand ∷ []) c.self.view_is)
