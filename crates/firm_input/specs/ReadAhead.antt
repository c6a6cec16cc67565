-- The value of a source that reads ahead in contracts.
use Rattle.std.specs.Prelude.{ℕ, Bool, List, Option}

-- the bytes that are left, where its reader tells them, and whether a read has failed so far
pub record SourceIs : Type 0 where
  pub left : Option (List ℕ)
  pub has_failed : Bool

abbrev pub source_is : Option (List ℕ) → Bool → SourceIs
source_is left has_failed = record { left = left; has_failed = has_failed }
