use Rattle.std.proofs.Common.{◌≡◌, ◌≤◌, ◌*◌, ◌++◌, All, length, take}
use Rattle.std.specs.Io.{StartsWith}
use Rattle.std.specs.List.{flat_map}
use Rattle.firm_saved.specs.Saved.{IsSoundPlace}
use Rattle.firm_saved.specs.StateText.{place_rows, row_text}
use Rattle.firm_table.specs.Ends.{tenants_state}
use Rattle.firm_table.proofs.tenants.Tenants.put_places.Given as goal

-- what was added is the text of the first places, which are sound, and their rows are counted
abbrev pub invariant-loop-place : goal.invariant-loop-place
invariant-loop-place l = record {
  kept : StartsWith l.output.items l.initial.output.items;
  added : l.output.items
      ≡ l.initial.output.items ++ flat_map row_text (flat_map place_rows (take l.place (tenants_state l.self)));
  counted : l.count ≡ length (flat_map place_rows (take l.place (tenants_state l.self)));
  few : l.count ≤ 4097 * l.place;
  sound : All IsSoundPlace (take l.place (tenants_state l.self));
}
