use Rattle.std.proofs.Common.{◌≡◌, ◌++◌, map}
use Rattle.std.specs.List.{flat_map}
use Rattle.firm_saved.specs.declared.rows.Row.TheVariants as row
use Rattle.firm_explain.specs.RoundRows.{comment_text}
use Rattle.firm_explain.proofs.rows.put_machines.Given as goal

-- what was added and what the machines still to come add are the lines of all machines
abbrev pub invariant-loop-machine : goal.invariant-loop-machine
invariant-loop-machine l = record {
  added : l.text.items ++ flat_map comment_text (map row.Machine l.machine-iterator)
      ≡ l.initial.text.items ++ flat_map comment_text (map row.Machine l.rows.machines);
}
