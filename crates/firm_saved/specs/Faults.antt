-- The code and the printed name of each fault of a state's text.
use Rattle.std.specs.Prelude.{ℕ, List, codes}
use Rattle.firm_saved.specs.declared.faults.FaultKind.{FaultKind}
use Rattle.firm_saved.specs.declared.faults.FaultKind.TheVariants.{Version, Row, BadName, BadNumber, Repeated}
use Rattle.firm_saved.specs.declared.faults.FaultKind.TheVariants.{NoSuchJob, NoSuchMachine, NoRoom, ArenaNodes}
use Rattle.firm_saved.specs.declared.faults.FaultKind.TheVariants.{ArenaArcs, Commands, Places, Rows, Memory, Rounds}
use Rattle.firm_saved.specs.declared.faults.FaultKind.TheVariants.{Crowded}

-- the number of a fault
abbrev pub fault_code : FaultKind → ℕ
fault_code Version = 1
fault_code Row = 2
fault_code BadName = 3
fault_code BadNumber = 4
fault_code Repeated = 5
fault_code NoSuchJob = 6
fault_code NoSuchMachine = 7
fault_code NoRoom = 8
fault_code ArenaNodes = 9
fault_code ArenaArcs = 10
fault_code Commands = 11
fault_code Places = 12
fault_code Rows = 13
fault_code Memory = 14
fault_code Rounds = 15
fault_code Crowded = 16

-- the name of a fault, as a program prints it
abbrev pub fault_name : FaultKind → List ℕ
fault_name Version = codes "version"
fault_name Row = codes "row"
fault_name BadName = codes "name"
fault_name BadNumber = codes "number"
fault_name Repeated = codes "repeated-name"
fault_name NoSuchJob = codes "no-such-job"
fault_name NoSuchMachine = codes "no-such-machine"
fault_name NoRoom = codes "no-room"
fault_name ArenaNodes = codes "arena-nodes"
fault_name ArenaArcs = codes "arena-arcs"
fault_name Commands = codes "commands"
fault_name Places = codes "places"
fault_name Rows = codes "rows"
fault_name Memory = codes "memory"
fault_name Rounds = codes "rounds"
fault_name Crowded = codes "crowded"
