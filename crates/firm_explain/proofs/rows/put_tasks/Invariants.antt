use Rattle.std.proofs.Common.{◌≡◌, ◌++◌, map}
use Rattle.std.specs.List.{flat_map}
use Rattle.firm_saved.specs.declared.rows.Row.TheVariants as row
use Rattle.firm_explain.specs.RoundRows.{comment_text}
use Rattle.firm_explain.proofs.rows.put_tasks.Given as goal

-- what was added and what the tasks still to come add are the lines of all tasks
abbrev pub invariant-loop-task : goal.invariant-loop-task
invariant-loop-task l = record {
  added : l.text.items ++ flat_map comment_text (map row.Task l.task-iterator)
      ≡ l.initial.text.items ++ flat_map comment_text (map row.Task l.rows.tasks);
}
