-- The inputs of a program, its unchanged devices, and the end of a service that it opens with a file.
use Rattle.std.specs.Prelude.{◌≡◌, ℕ, false}
use Rattle.firm_table.specs.Opened.{Opened}
use Rattle.firm_table.specs.Service.{Device, ServedFrom, StoppedFrom}
use Rattle.firm_table.specs.declared.faults.ServeFault.{ServeFault}
use Rattle.firm_program.specs.Files.{KnownFiles, Opens, RefusesFile}
use Rattle.firm_program.specs.declared.faults.Fault.{Fault}
use Rattle.firm_program.specs.declared.faults.Fault.TheVariants.{Service}
use Rattle.firm_program.specs.declared.words.Named.{Named}

-- the most bytes of input that a program takes: 2 to the 32nd
abbrev pub most_input : ℕ
most_input = 4294967296

-- nothing was read, and no read has failed
pub record IsUnread (reader : Device) : Type 0 where
  pub unread : reader.after ≡ reader.before
  pub reads : reader.failed ≡ false

-- nothing was written, and no write has failed
pub record IsUnwritten (writer : Device) : Type 0 where
  pub unwritten : writer.after ≡ writer.before
  pub writes : writer.failed ≡ false

-- nothing was read, nothing was written, and no call has failed
pub record IsUntouched (reader writer : Device) : Type 0 where
  pub unread : reader.after ≡ reader.before
  pub unwritten : writer.after ≡ writer.before
  pub reads : reader.failed ≡ false
  pub writes : writer.failed ≡ false

-- a service opened with the file that is named, and came to the end of the input with its output written
pub record ServesFile (files : KnownFiles) (named : Named) (reader writer : Device) : Type 0 where
  pub opened : Opened
  pub opens : Opens files named opened
  pub served : ServedFrom opened most_input reader writer

-- a service that opened so stopped, for the fault's cause
pub record StopsFrom (opened : Opened) (reader writer : Device) (fault : Fault) : Type 0 where
  pub cause : ServeFault
  pub is : fault ≡ Service cause
  pub stopped : StoppedFrom opened most_input reader writer cause

-- a service opened with the file that is named, and stopped
pub record StopsService (files : KnownFiles) (named : Named) (reader writer : Device) (fault : Fault) : Type 0 where
  pub opened : Opened
  pub opens : Opens files named opened
  pub stopped : StopsFrom opened reader writer fault

-- how a program stops that serves with the file that is named: the file is refused, or memory before the service, and
-- nothing was read or written; or the service stopped
pub data StopsFile (files : KnownFiles) (named : Named) (reader writer : Device) (fault : Fault) : Type 0 where
  NotOpened : RefusesFile files named fault → IsUntouched reader writer → StopsFile files named reader writer fault
  NotServed : StopsService files named reader writer fault → StopsFile files named reader writer fault
