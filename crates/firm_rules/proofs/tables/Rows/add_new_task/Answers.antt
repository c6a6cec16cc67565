use Rattle.std.proofs.Common.{◌≡◌, ◌≤◌, ℕ, true, All, IfSome, sym, ap, subst, ◌∙◌, arith}
use Rattle.std.specs.Prelude.{OnOk}
use Rattle.firm_rules.specs.ArenaUse.{FitsLimits}
use Rattle.firm_rules.specs.Book.{job_names, machine_names, task_names, with_restored}
use Rattle.firm_rules.specs.Names.{is_among}
use Rattle.firm_rules.specs.Round.{demand_of}
use Rattle.firm_rules.specs.Sound.{HasRoom}
use Rattle.firm_rules.specs.declared.book.Task.{Task}
use Rattle.firm_rules.proofs.tables.Rows.add_new_task.Goals as goal

least : (n : ℕ) → 0 ≤ n
least n = omega arith

pub put_task-requires-clause-job_there : goal.put_task-requires-clause-job_there
put_task-requires-clause-job_there g c =
    ap (λ (t : Task). is_among (job_names c.args.self.now) t.job) c.waiting.ensures ∙ c.requires.job_there

pub put_task-requires-clause-new_name : goal.put_task-requires-clause-new_name
put_task-requires-clause-new_name g c =
    ap (λ (t : Task). is_among (task_names c.args.self.now) t.name) c.waiting.ensures ∙ c.requires.new_name

pub put_task-requires-clause-machine_there : goal.put_task-requires-clause-machine_there
put_task-requires-clause-machine_there g c =
    subst (λ (t : Task). IfSome t.machine (λ machine. is_among (machine_names c.args.self.now) machine ≡ true))
    (sym c.waiting.ensures) tt

pub put_task-requires-clause-machines_there : goal.put_task-requires-clause-machines_there
put_task-requires-clause-machines_there g c =
    subst (λ (t : Task). All (λ machine. is_among (machine_names c.args.self.now) machine ≡ true) t.preferred)
    (sym c.waiting.ensures) c.requires.machines_there

pub put_task-requires-clause-room : goal.put_task-requires-clause-room
put_task-requires-clause-room g c =
    subst (λ (t : Task). IfSome t.machine (λ _. HasRoom (with_restored c.args.self.now t))) (sym c.waiting.ensures) tt

pub put_task-requires-clause-waited : goal.put_task-requires-clause-waited
put_task-requires-clause-waited g c =
    subst (λ (t : Task). t.waited ≤ c.args.self.now.limits.patience) (sym c.waiting.ensures)
    (least c.args.self.now.limits.patience)

pub put_task-requires-clause-running : goal.put_task-requires-clause-running
put_task-requires-clause-running g c =
    subst (λ (t : Task). IfSome t.machine (λ _. t.waited ≡ 0)) (sym c.waiting.ensures) tt

pub put_task-requires-clause-fits : goal.put_task-requires-clause-fits
put_task-requires-clause-fits g c =
    subst (λ (t : Task). FitsLimits (with_restored c.args.self.now t)) (sym c.waiting.ensures) c.requires.fits

pub demand_of_new-demand-requires : goal.demand_of_new-demand-requires
demand_of_new-demand-requires g c = record { found = c.requires.found }

pub put_task-requires-clause-seen : goal.put_task-requires-clause-seen
put_task-requires-clause-seen g c =
    c.demand_of_new-demand.ensures.seen ∙ ap (demand_of c.args.self.now) (sym c.waiting.ensures)

pub put_task-requires-clause-places : goal.put_task-requires-clause-places
put_task-requires-clause-places g c = c.demand_of_new-demand.ensures.fits

pub returns-clause-ok : goal.returns-clause-ok
returns-clause-ok g c =
    subst (λ (t : Task). OnOk c.put_task.result (c.put_task.new.self ≡ with_restored c.args.self.now t))
    c.waiting.ensures c.put_task.ensures.ok

pub returns-clause-err : goal.returns-clause-err
returns-clause-err g c = c.put_task.ensures.err

pub returns-clause-sound : goal.returns-clause-sound
returns-clause-sound g c = c.put_task.ensures.sound
