-- The bytes that a service reads and writes in one call.
use Rattle.std.specs.Prelude.{◌≡◌, ℕ, ◌≤◌, ◌<◌, ◌⊎◌, Bool, true, false, List, [], ◌++◌, Option, length, take}
use Rattle.std.specs.List.{list_any}
use Rattle.std.specs.Io.{IsEmptyOrEndsWith}
use Rattle.std.specs.Io.KnownBytes.{Appends, Consumes, IsAtEnd}
use Rattle.firm_table.specs.Opened.{Opened, opened_roster}
use Rattle.firm_table.specs.Places.{MarkedLine}
use Rattle.firm_table.specs.Output.{output_from, AreLinesFrom}
use Rattle.firm_text.specs.Lines.{is_line_feed}
use Rattle.firm_text.specs.Rosters.{RosterIs}
use Rattle.firm_table.specs.declared.faults.ServeFault.{ServeFault}
use Rattle.firm_table.specs.declared.faults.ServeFault.TheVariants.{Read, Write, TooLong, Memory}

-- the bytes that a reader has left, or that a writer has received, before and after a call, if the device reveals them,
-- and whether a call of the device has failed
pub record Device : Type 0 where
  pub before : Option (List ℕ)
  pub after : Option (List ℕ)
  pub failed : Bool

-- the device of these parts
abbrev pub device : Option (List ℕ) → Option (List ℕ) → Bool → Device
device before after failed = record { before = before; after = after; failed = failed }

-- the device between these two of its states, by what tells its bytes and whether a call has failed
abbrev pub between : {X : Type 0} → (X → Option (List ℕ)) → (X → Bool) → X → X → Device
between bytes failed old new = device (bytes old) (bytes new) (failed new)

-- what was written is the output for this input, with marks on exactly the lines whose answer says that memory was
-- refused
pub record AnswersFrom (opened : Opened) (input : List ℕ)
    (written written_after : Option (List ℕ)) : Type 0 where
  pub lines : List MarkedLine
  pub are_lines : AreLinesFrom opened input lines
  pub wrote : Appends written written_after (output_from opened.places lines)

-- what was written is a prefix of such an output
pub record BeginsAnswersFrom (opened : Opened) (input : List ℕ)
    (written written_after : Option (List ℕ)) : Type 0 where
  pub lines : List MarkedLine
  pub are_lines : AreLinesFrom opened input lines
  pub count : ℕ
  pub wrote : Appends written written_after (take count (output_from opened.places lines))

-- everything left to read was read, at most `most` bytes, what was written is the output for it, and no call has failed
pub record ServedFrom (opened : Opened) (most : ℕ) (reader writer : Device) : Type 0 where
  pub input : List ℕ
  pub read : Consumes reader.before reader.after input
  pub at_end : IsAtEnd reader.after
  pub within : length input ≤ most
  pub answers : AnswersFrom opened input writer.before writer.after
  pub reads : reader.failed ≡ false
  pub writes : writer.failed ≡ false

-- the fault of a service that read this much and takes at most `most` bytes: a read failed, a write failed, or neither
-- did, and the input is longer or memory was refused
abbrev pub IsCause : ServeFault → List ℕ → ℕ → Bool → Bool → Type 0
IsCause Read input most read_failed write_failed = (read_failed ≡ true) × (write_failed ≡ false)
IsCause Write input most read_failed write_failed = (read_failed ≡ false) × (write_failed ≡ true)
IsCause TooLong input most read_failed write_failed =
    (most < length input) × (read_failed ≡ false) × (write_failed ≡ false)
IsCause Memory input most read_failed write_failed = (read_failed ≡ false) × (write_failed ≡ false)

-- the fault of a service that reads nothing meanwhile: a write failed, or none did and memory was refused
abbrev pub IsWritingFault : ServeFault → Bool → Type 0
IsWritingFault Read write_failed = ⊥
IsWritingFault Write write_failed = write_failed ≡ true
IsWritingFault TooLong write_failed = ⊥
IsWritingFault Memory write_failed = write_failed ≡ false

-- each line of these bytes is whole: its line feed was read, or a read reached the end of the input after it
abbrev pub AreWholeLines : List ℕ → List ℕ → Device → Type 0
AreWholeLines lines rest reader =
    IsEmptyOrEndsWith lines 10 ⊎ ((rest ≡ []) × IsAtEnd reader.after × (reader.failed ≡ false))

-- whole lines and a rest were read, and what was written is a prefix of the output for those lines; the fault has its
-- cause
pub record StoppedFrom (opened : Opened) (most : ℕ) (reader writer : Device) (fault : ServeFault) : Type 0 where
  pub answered : List ℕ
  pub rest : List ℕ
  pub read : Consumes reader.before reader.after (answered ++ rest)
  pub whole : AreWholeLines answered rest reader
  pub cause : IsCause fault (answered ++ rest) most reader.failed writer.failed
  pub begins : BeginsAnswersFrom opened answered writer.before writer.after

-- the output of a service that opens with a roster was written
abbrev pub Answers : RosterIs → List ℕ → Option (List ℕ) → Option (List ℕ) → Type 0
Answers roster = AnswersFrom (opened_roster roster)

-- such a service has read all and written its output
abbrev pub Served : RosterIs → ℕ → Device → Device → Type 0
Served roster = ServedFrom (opened_roster roster)

-- or ended with a fault
abbrev pub Stopped : RosterIs → ℕ → Device → Device → ServeFault → Type 0
Stopped roster = StoppedFrom (opened_roster roster)

-- the claim holds of the lines that were read whole; no line feed was read after them
pub record UpToDate (IsTold : List ℕ → Option (List ℕ) → Option (List ℕ) → Type 0)
    (reader writer : Device) : Type 0 where
  pub lines : List ℕ
  pub rest : List ℕ
  pub read : Consumes reader.before reader.after (lines ++ rest)
  pub whole : IsEmptyOrEndsWith lines 10
  pub in_line : list_any is_line_feed rest ≡ false
  pub told : IsTold lines writer.before writer.after
