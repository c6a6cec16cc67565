use Rattle.std.proofs.Common.{◌<◌, length, arith}
use Rattle.firm_rents.proofs.Rows.{all_least_more}
use Rattle.firm_rents.proofs.bounds.paid_of_all.Goals as goal

pub loop-task-preserved : goal.loop-task-preserved
loop-task-preserved c =
    let l : c.loop-task.task < length c.args.case.now.tasks =
    omega (arith, c.loop-task-test.true, c.task_count-task-end.ensures.count) in
    let more = all_least_more c.args.case.now c.args.rents.now c.args.case.now.tasks c.loop-task.task l in (
      omega (arith, more, c.loop-task.invariant.0, c.least_paid-paid.ensures.paid),
      omega (arith, c.loop-task.invariant.1, c.least_paid-paid.ensures.most),
    )
