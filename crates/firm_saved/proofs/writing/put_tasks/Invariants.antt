use Rattle.std.proofs.Common.{◌≡◌, ◌++◌, map}
use Rattle.std.specs.Io.{StartsWith}
use Rattle.std.specs.List.{flat_map}
use Rattle.firm_saved.specs.StateText.{row_text}
use Rattle.firm_saved.specs.declared.rows.Row.TheVariants as row
use Rattle.firm_saved.proofs.writing.put_tasks.Given as goal

-- what was added and what the tasks still to come add are the text of all tasks
abbrev pub invariant-loop-task : goal.invariant-loop-task
invariant-loop-task l = record {
  kept : StartsWith l.output.items l.initial.output.items;
  added : l.output.items ++ flat_map row_text (map row.Task l.task-iterator)
      ≡ l.initial.output.items ++ flat_map row_text (map row.Task l.rows.tasks);
}
