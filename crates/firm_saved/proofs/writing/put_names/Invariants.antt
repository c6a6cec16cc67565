use Rattle.std.proofs.Common.{◌≡◌, ◌++◌, drop}
use Rattle.std.specs.Io.{StartsWith}
use Rattle.std.specs.List.{flat_map}
use Rattle.firm_text.specs.Replies.{spaced}
use Rattle.firm_saved.proofs.writing.put_names.Given as goal

-- what was added and what the names still to come add are the text of all names
abbrev pub invariant-loop-name : goal.invariant-loop-name
invariant-loop-name l = record {
  kept : StartsWith l.output.items l.initial.output.items;
  added : l.output.items ++ flat_map spaced (drop l.name-index l.names)
      ≡ l.initial.output.items ++ flat_map spaced l.names;
}
