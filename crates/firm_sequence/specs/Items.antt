-- What a contract sees of a sequence.
use Rattle.std.specs.Prelude.{ℕ, List}

-- its items in order, and how many more it takes without memory
pub record Items (T : Type 0) : Type 0 where
  pub items : List T
  pub room : ℕ
