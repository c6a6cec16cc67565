-- Invariants of the fields of a `Block`.
use Rattle.std.specs.Prelude.{◌≡◌, ◌^◌, ◌<◌, length}
use Rattle.firm_arena.specs.declared.block.Block.TheInside.{Inside}

-- the row has `capacity` places
pub record IsBlock {X : Type 0} (b : Inside X) : Type 0 where
  pub capacity : length b.row ≡ b.capacity
  pub range : b.capacity < 2 ^ 32
