-- Laws about a fault's line in a text, and about the order in which places are first given.
use Rattle.std.specs.Prelude.{◌≡◌, ◌<◌, ℕ, List, Ok, length, nat_lt, take}
use Rattle.std.specs.List.{slice_split}
use Rattle.firm_text.specs.Lines.{is_line_feed}
use Rattle.firm_text.specs.Registers.{IsRegister, first_places, place_for, with_tenant, without_tenant}
use Rattle.firm_text.specs.Rosters.{RosterRow}
use Rattle.firm_text.specs.declared.registers.Entry.{Entry}
use Rattle.firm_saved.specs.Saved.{AreGivenInOrder}

-- two texts have the same first lines, this many, and a line feed ends the last of them in both or in neither
pub record BeginAlike (count : ℕ) (text other : List ℕ) : Type 0 where
  pub lines : take count (slice_split is_line_feed text) ≡ take count (slice_split is_line_feed other)
  pub ended : nat_lt count (length (slice_split is_line_feed text))
      ≡ nat_lt count (length (slice_split is_line_feed other))

-- a roster's places are given in their order
abbrev pub RostersGiveInOrder : Type 0
RostersGiveInOrder = (roster : List RosterRow) → 0 < length roster → AreGivenInOrder (first_places roster)

-- and so are those after an admission
abbrev pub AdmissionsKeepOrder : Type 0
AdmissionsKeepOrder = (places : List Entry) (name : List ℕ) (at : ℕ) → IsRegister places → AreGivenInOrder places
    → place_for places name ≡ Ok at → AreGivenInOrder (with_tenant places at name)

-- and after a retirement
abbrev pub RetirementsKeepOrder : Type 0
RetirementsKeepOrder = (places : List Entry) (at : ℕ) → AreGivenInOrder places
    → AreGivenInOrder (without_tenant places at)
