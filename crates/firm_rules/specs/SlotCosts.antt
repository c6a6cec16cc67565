-- What the slots of a machine cost beside one another, and together.
use Rattle.std.specs.Prelude.{◌≡◌, ℕ, ◌<◌, ◌≤◌}
use Rattle.firm_rules.specs.Placement.{total, slot_cost, load_cost}

-- a load costs what the slots that it fills cost together
abbrev pub LoadsAreSumsOfSlots : Type 0
LoadsAreSumsOfSlots = (spread n : ℕ) → load_cost spread n ≡ total (slot_cost spread) n

-- a later slot costs no less
abbrev pub LaterSlotsCostNoLess : Type 0
LaterSlotsCostNoLess = (spread earlier later : ℕ) → earlier ≤ later → slot_cost spread earlier ≤ slot_cost spread later

-- the most that a slot of a machine can cost: the last of 64, where each costs 1,000 more than the one before
abbrev pub most_slot_cost : ℕ
most_slot_cost = 63000

-- none costs more
abbrev pub SlotsCostAtMost : Type 0
SlotsCostAtMost = (spread k : ℕ) → spread ≤ 1000 → k < 64 → slot_cost spread k ≤ most_slot_cost
