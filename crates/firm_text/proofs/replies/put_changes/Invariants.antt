use Rattle.std.proofs.Common.{◌≡◌, ◌++◌, drop}
use Rattle.std.specs.Io.{StartsWith}
use Rattle.std.specs.List.{flat_map}
use Rattle.firm_text.specs.Replies.{change_words, spaced}
use Rattle.firm_text.proofs.replies.put_changes.Given as goal

-- what was added and what the changes still to come add are the text of all changes
abbrev pub invariant-loop-change : goal.invariant-loop-change
invariant-loop-change l = record {
  kept : StartsWith l.text.items l.initial.text.items;
  added : l.text.items ++ flat_map spaced (flat_map change_words (drop l.change-index l.changes)) ≡ l.initial.text.items
      ++ flat_map spaced (flat_map change_words l.changes);
}
