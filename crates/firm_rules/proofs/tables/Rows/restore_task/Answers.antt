use Rattle.std.proofs.Common.{◌≤◌, ℕ, arith}
use Rattle.firm_rules.proofs.tables.Rows.restore_task.Goals as goal

pub demand_of-demand-requires-clause-machine : goal.demand_of-demand-requires-clause-machine
demand_of-demand-requires-clause-machine g c = c.requires.machine_there

pub demand_of-demand-requires-clause-preferred : goal.demand_of-demand-requires-clause-preferred
demand_of-demand-requires-clause-preferred g c = c.requires.machines_there

few : (waited patience most : ℕ) → waited ≤ patience → patience ≤ most → waited ≤ most
few waited patience most is less = omega (arith, is, less)

pub demand_of-demand-requires-clause-waited : goal.demand_of-demand-requires-clause-waited
demand_of-demand-requires-clause-waited g c =
    few c.args.task.waited c.args.self.now.limits.patience 1000000 c.requires.waited
    c.limits.ensures.sound.most_patience

pub put_task-requires-clause-seen : goal.put_task-requires-clause-seen
put_task-requires-clause-seen g c = c.demand_of-demand.ensures.seen

pub put_task-requires-clause-places : goal.put_task-requires-clause-places
put_task-requires-clause-places g c = c.demand_of-demand.ensures.fits

pub put_task-requires-clause-job_there : goal.put_task-requires-clause-job_there
put_task-requires-clause-job_there g c = c.requires.job_there

pub put_task-requires-clause-new_name : goal.put_task-requires-clause-new_name
put_task-requires-clause-new_name g c = c.requires.new_name

pub put_task-requires-clause-machine_there : goal.put_task-requires-clause-machine_there
put_task-requires-clause-machine_there g c = c.requires.machine_there

pub put_task-requires-clause-machines_there : goal.put_task-requires-clause-machines_there
put_task-requires-clause-machines_there g c = c.requires.machines_there

pub put_task-requires-clause-room : goal.put_task-requires-clause-room
put_task-requires-clause-room g c = c.requires.room

pub put_task-requires-clause-waited : goal.put_task-requires-clause-waited
put_task-requires-clause-waited g c = c.requires.waited

pub put_task-requires-clause-running : goal.put_task-requires-clause-running
put_task-requires-clause-running g c = c.requires.running

pub put_task-requires-clause-fits : goal.put_task-requires-clause-fits
put_task-requires-clause-fits g c = c.requires.fits

pub returns-clause-ok : goal.returns-clause-ok
returns-clause-ok g c = c.put_task.ensures.ok

pub returns-clause-err : goal.returns-clause-err
returns-clause-err g c = c.put_task.ensures.err

pub returns-clause-sound : goal.returns-clause-sound
returns-clause-sound g c = c.put_task.ensures.sound
