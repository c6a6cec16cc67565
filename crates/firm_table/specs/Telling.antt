-- A clerk's claims about the lines that it was given.
use Rattle.std.specs.Prelude.{ℕ, ◌≤◌, List, Option, length}
use Rattle.std.specs.Io.KnownBytes.{Consumes, IsAtEnd, Keeps}
use Rattle.firm_table.specs.Service.{Device}

-- a claim about a text that was read, about what was written before it, and about what was written after it
abbrev pub Telling : Type 1
Telling = List ℕ → Option (List ℕ) → Option (List ℕ) → Type 0

-- the claim held of a text, and the bytes written until then stay written
pub record WasTold (IsTold : Telling) (text : List ℕ) (written now : Option (List ℕ)) : Type 0 where
  pub until : Option (List ℕ)
  pub told : IsTold text written until
  pub kept : Keeps until now

-- the claim held of everything left to read, which was read whole and has at most `most` bytes
pub record ToldToTheEnd (IsTold : Telling) (most : ℕ) (reader writer : Device) : Type 0 where
  pub input : List ℕ
  pub read : Consumes reader.before reader.after input
  pub at_end : IsAtEnd reader.after
  pub within : length input ≤ most
  pub told : WasTold IsTold input writer.before writer.after
