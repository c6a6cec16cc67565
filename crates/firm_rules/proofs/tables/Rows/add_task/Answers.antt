use Rattle.std.proofs.Common.{◌≡◌, ◌≤◌, ℕ, true, All, IfSome, sym, ap, subst, ◌∙◌, arith}
use Rattle.std.specs.Prelude.{OnOk}
use Rattle.firm_rules.specs.ArenaUse.{FitsLimits}
use Rattle.firm_rules.specs.Book.{job_names, machine_names, task_names, with_restored}
use Rattle.firm_rules.specs.Names.{is_among}
use Rattle.firm_rules.specs.Sound.{HasRoom}
use Rattle.firm_rules.specs.declared.book.Task.{Task}
use Rattle.firm_rules.proofs.tables.Rows.add_task.Goals as goal

least : (n : ℕ) → 0 ≤ n
least n = omega arith

pub restore_task-requires-clause-job_there : goal.restore_task-requires-clause-job_there
restore_task-requires-clause-job_there g c =
    ap (λ (t : Task). is_among (job_names c.args.self.now) t.job) c.waiting.ensures ∙ c.requires.job_there

pub restore_task-requires-clause-new_name : goal.restore_task-requires-clause-new_name
restore_task-requires-clause-new_name g c =
    ap (λ (t : Task). is_among (task_names c.args.self.now) t.name) c.waiting.ensures ∙ c.requires.new_name

pub restore_task-requires-clause-machine_there : goal.restore_task-requires-clause-machine_there
restore_task-requires-clause-machine_there g c =
    subst (λ (t : Task). IfSome t.machine (λ machine. is_among (machine_names c.args.self.now) machine ≡ true))
    (sym c.waiting.ensures) tt

pub restore_task-requires-clause-machines_there : goal.restore_task-requires-clause-machines_there
restore_task-requires-clause-machines_there g c =
    subst (λ (t : Task). All (λ machine. is_among (machine_names c.args.self.now) machine ≡ true) t.preferred)
    (sym c.waiting.ensures) c.requires.machines_there

pub restore_task-requires-clause-room : goal.restore_task-requires-clause-room
restore_task-requires-clause-room g c =
    subst (λ (t : Task). IfSome t.machine (λ _. HasRoom (with_restored c.args.self.now t))) (sym c.waiting.ensures) tt

pub restore_task-requires-clause-waited : goal.restore_task-requires-clause-waited
restore_task-requires-clause-waited g c =
    subst (λ (t : Task). t.waited ≤ c.args.self.now.limits.patience) (sym c.waiting.ensures)
    (least c.args.self.now.limits.patience)

pub restore_task-requires-clause-running : goal.restore_task-requires-clause-running
restore_task-requires-clause-running g c =
    subst (λ (t : Task). IfSome t.machine (λ _. t.waited ≡ 0)) (sym c.waiting.ensures) tt

pub restore_task-requires-clause-fits : goal.restore_task-requires-clause-fits
restore_task-requires-clause-fits g c =
    subst (λ (t : Task). FitsLimits (with_restored c.args.self.now t)) (sym c.waiting.ensures) c.requires.fits

pub returns-clause-ok : goal.returns-clause-ok
returns-clause-ok g c =
    subst (λ (t : Task). OnOk c.restore_task.result (c.restore_task.new.self ≡ with_restored c.args.self.now t))
    c.waiting.ensures c.restore_task.ensures.ok

pub returns-clause-err : goal.returns-clause-err
returns-clause-err g c = c.restore_task.ensures.err

pub returns-clause-sound : goal.returns-clause-sound
returns-clause-sound g c = c.restore_task.ensures.sound
