-- The arena after a `&mut` to one of its values ends.
use Rattle.std.specs.Prelude.{Option}
use Rattle.std.specs.Borrow.{LendsIf, Fml, RattleType, MutBor}
use Rattle.firm_arena.specs.declared.Id.{Id}
use Rattle.firm_arena.specs.Arena.{Arena, with_value}
use Rattle.firm_arena.specs.contracts.Arena.{the_row}

-- once the borrow r ends, the id has the last value written through r; at `None` the arena stays as it is
abbrev pub lends_value : (T : RattleType) → MutBor (Arena T.Denot) → Id → Option (MutBor T.Denot) → Fml
lends_value T a id r = LendsIf (the_row T) T a r (with_value a.now id) a.now
