use Rattle.std.proofs.Common.{◌∙◌, ◌++◌, ◌∷◌, [], ℕ, List, sym, ap}
use Rattle.firm_saved.specs.inner.Loads.{loads_of, view}
use Rattle.firm_saved.proofs.Allowed.{machine_may, no_fault}
use Rattle.firm_saved.proofs.tenant_drafts.TenantDraft.take_machine.Goals as goal

pub returns-clause-loads : goal.returns-clause-loads
returns-clause-loads c =
    let may = machine_may (view c.args.self.now) c.args.machine.now
    (sym c.machine_fault.ensures ∙ no_fault c.machine_fault.result c.in_default.not-Some) in
    c.in_ok-push.ensures.items ∙ ap (λ (l : List ℕ). l ++ 0 ∷ []) c.requires ∙ sym may.loads
    ∙ ap loads_of (sym c.in_ok-add_machine.ensures.ok)
