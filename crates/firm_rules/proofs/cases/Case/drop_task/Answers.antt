use Rattle.std.proofs.Common.{◌<◌, List, length, remove, sym, ap, subst, ◌∙◌, map}
use Rattle.std.proofs.lemmas.List.{length-map}
use Rattle.indexmap.proofs.SetLemmas.{map-remove}
use Rattle.firm_rules.specs.Placement.{Case}
use Rattle.firm_rules.specs.inner.Demands.{seen}
use Rattle.firm_rules.specs.declared.demands.Demand.{Demand}
use Rattle.firm_rules.proofs.CaseSteps.{fits-without_task, seen-as}
use Rattle.firm_rules.proofs.cases.Case.drop_task.Goals as goal

pub invariant_of-self : goal.invariant_of-self
invariant_of-self g c =
    fits-without_task c.self.inside.limits c.self.inside.jobs c.self.inside.slots.items c.self.inside.demands.items
    c.remove.new.self.items c.args.task c.self.invariant c.remove.ensures.items

pub returns : goal.returns
returns g c =
    seen-as c.self.inside.limits c.self.inside.jobs c.self.inside.slots.items c.self.inside.demands.items
    c.remove.new.self.items c.args.self.now (remove c.args.self.now.tasks c.args.task) c.self.view_is
    (ap (map seen) c.remove.ensures.items ∙ map-remove seen c.self.inside.demands.items c.args.task
    ∙ ap (λ (case : Case). remove case.tasks c.args.task) c.self.view_is)

pub remove-requires : goal.remove-requires
remove-requires g c =
    let demands : List Demand = c.self.inside.demands.items in
    subst (λ n. c.args.task < n)
    (sym (ap (λ (case : Case). length case.tasks) c.self.view_is) ∙ length-map demands seen
    ∙ sym c.self.inside.demands.ok.0) c.requires
