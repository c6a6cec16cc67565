use Rattle.std.proofs.Common.{◌≡◌, ◌++◌, map}
use Rattle.std.specs.Io.{StartsWith}
use Rattle.std.specs.List.{flat_map}
use Rattle.firm_saved.specs.StateText.{row_text}
use Rattle.firm_saved.specs.declared.rows.Row.TheVariants as row
use Rattle.firm_saved.proofs.writing.put_machines.Given as goal

-- what was added and what the machines still to come add are the text of all machines
abbrev pub invariant-loop-machine : goal.invariant-loop-machine
invariant-loop-machine l = record {
  kept : StartsWith l.output.items l.initial.output.items;
  added : l.output.items ++ flat_map row_text (map row.Machine l.machine-iterator)
      ≡ l.initial.output.items ++ flat_map row_text (map row.Machine l.rows.machines);
}
