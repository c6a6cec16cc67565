use Rattle.std.proofs.Common.{◌∙◌, sym}
use Rattle.firm_saved.proofs.Keeping.{kept_tenant, none_if}
use Rattle.firm_saved.proofs.drafts.Draft.take_tenant.Goals as goal

pub returns-clause-sound : goal.returns-clause-sound
returns-clause-sound c =
    kept_tenant c.args.self.now c.args.name c.args.limits c.args.given c.new.result c.requires
    (sym c.tenant_fault.ensures ∙ none_if c.tenant_fault.result c.in_default.not-Some) c.as_bytes.ensures.formed
    c.new.ensures.value c.new.ensures.loads
