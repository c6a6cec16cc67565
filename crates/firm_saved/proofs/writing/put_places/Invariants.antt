use Rattle.std.proofs.Common.{◌≡◌, ◌≤◌, ◌+◌, ◌*◌, ◌++◌, drop, length}
use Rattle.std.specs.Io.{StartsWith}
use Rattle.std.specs.List.{flat_map}
use Rattle.firm_saved.specs.StateText.{place_rows, row_text}
use Rattle.firm_saved.proofs.writing.put_places.Given as goal

-- what was added and what the places still to come add are the text of all places, and so are the counts
abbrev pub invariant-loop-place : goal.invariant-loop-place
invariant-loop-place l = record {
  kept : StartsWith l.output.items l.initial.output.items;
  added : l.output.items ++ flat_map row_text (flat_map place_rows (drop l.place-index l.places))
      ≡ l.initial.output.items
      ++ flat_map row_text (flat_map place_rows l.places);
  counted : l.count + length (flat_map place_rows (drop l.place-index l.places))
      ≡ length (flat_map place_rows l.places);
  few : l.count ≤ 4097 * l.place-index;
}
