-- The slot after a `&mut` to its value ends.
use Rattle.std.specs.Borrow.{Lends, Fml, RattleType, MutBor}
use Rattle.firm_arena.specs.declared.slot.Slot.{Slot}
use Rattle.firm_arena.specs.contracts.slot.Slot.{the_row}
use Rattle.firm_arena.specs.inner.Slot.{with_held}

-- once the borrow r ends, the slot has the last value written through r, under its stamp
abbrev pub lends_held : (T : RattleType) → MutBor (Slot T.Denot) → MutBor T.Denot → Fml
lends_held T s r = Lends (the_row T) T s r (with_held s.now)
