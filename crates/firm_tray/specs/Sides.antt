-- The value of a side of a tray in contracts.
use Rattle.std.specs.Prelude.{ℕ}
use Rattle.atomic_table.specs.Seated.{TableId}
use Rattle.firm_rules.specs.Book.{Book}

-- which tray it is, the book of the tenant for which it was opened, and how many polls found its word at 0
pub record Side : Type 0 where
  pub tray : TableId
  pub book : Book
  pub vain : ℕ
