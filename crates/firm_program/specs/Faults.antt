-- Why a program ends early.
use Rattle.std.specs.Prelude.{ℕ}
use Rattle.firm_saved.specs.declared.faults.FaultKind.{FaultKind}
use Rattle.firm_saved.specs.declared.faults.FaultKind.TheVariants.{Memory as StateMemory}
use Rattle.firm_saved.specs.declared.faults.StateFault.{StateFault}
use Rattle.firm_table.specs.declared.faults.ServeFault.{ServeFault}
use Rattle.firm_table.specs.declared.faults.ServeFault.TheVariants.{Read, Write, TooLong, Memory}
use Rattle.firm_program.specs.declared.faults.Fault.{Fault}
use Rattle.firm_program.specs.declared.faults.Fault.TheVariants.{Words, UnreadableRoster, Roster, UnreadableState}
use Rattle.firm_program.specs.declared.faults.Fault.TheVariants.{LongState, State, Tenant, Service}
use Rattle.firm_text.specs.declared.faults.RosterFault.{RosterFault}
use Rattle.firm_text.specs.declared.faults.RosterFault.TheVariants.{Memory as RosterMemory}

-- the program's fault for a fault of the roster
abbrev pub fault_of_roster : RosterFault → Fault
fault_of_roster RosterMemory = Service Memory
fault_of_roster fault = Roster fault

-- the program's fault for a fault of this kind of the state
abbrev pub fault_of_kind : StateFault → FaultKind → Fault
fault_of_kind fault StateMemory = Service Memory
fault_of_kind fault kind = State fault

-- the program's fault for a fault of the state
abbrev pub fault_of_state : StateFault → Fault
fault_of_state fault = fault_of_kind fault fault.kind

-- the exit status of a service that stopped
abbrev pub status_of_service : ServeFault → ℕ
status_of_service Read = 4
status_of_service TooLong = 4
status_of_service Write = 5
status_of_service Memory = 6

-- the exit status of a fault
abbrev pub status_of : Fault → ℕ
status_of (Words text) = 2
status_of UnreadableRoster = 3
status_of (Roster fault) = 3
status_of UnreadableState = 3
status_of LongState = 3
status_of (State fault) = 3
status_of (Tenant name refusal) = 3
status_of (Service fault) = status_of_service fault
