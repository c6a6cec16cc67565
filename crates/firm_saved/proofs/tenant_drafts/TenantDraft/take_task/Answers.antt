use Rattle.std.proofs.Common.{◌∙◌, sym}
use Rattle.firm_saved.specs.inner.Loads.{view}
use Rattle.firm_saved.proofs.Allowed.{no_fault, task_may}
use Rattle.firm_saved.proofs.tenant_drafts.TenantDraft.take_task.Goals as goal

pub restore_task-requires-clause-room : goal.restore_task-requires-clause-room
restore_task-requires-clause-room c =
    (task_may (view c.args.self.now) c.args.task.now
    (sym c.task_fault.ensures ∙ no_fault c.task_fault.result c.in_default.not-Some)).room

pub restore_task-requires-clause-machines_there : goal.restore_task-requires-clause-machines_there
restore_task-requires-clause-machines_there c =
    (task_may (view c.args.self.now) c.args.task.now
    (sym c.task_fault.ensures ∙ no_fault c.task_fault.result c.in_default.not-Some)).preferred

pub restore_task-requires-clause-fits : goal.restore_task-requires-clause-fits
restore_task-requires-clause-fits c =
    (task_may (view c.args.self.now) c.args.task.now
    (sym c.task_fault.ensures ∙ no_fault c.task_fault.result c.in_default.not-Some)).fits
