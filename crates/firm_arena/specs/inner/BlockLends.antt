-- The block after a `&mut` to one of its values ends.
use Rattle.std.specs.Prelude.{ℕ, List, Option, Some, slice_set}
use Rattle.std.specs.Borrow.{Lends, Fml, RattleType, MutBor}
use Rattle.firm_arena.specs.contracts.block.Block.{the_row}

-- once the borrow r ends, the place has the last value written through r
abbrev pub lends_place : (T : RattleType) → MutBor (List (Option T.Denot)) → ℕ → MutBor T.Denot → Fml
lends_place T b place r = Lends (the_row T) T b r (λ value. slice_set b.now place (Some value))
