-- How a service ends, and the desks of a hall that no longer serves.
use Rattle.std.specs.Prelude.{◌≡◌, ℕ, All, List, Result, Ok, Err}
use Rattle.firm_table.specs.Opened.{Opened}
use Rattle.firm_table.specs.Service.{Device, StoppedFrom}
use Rattle.firm_table.specs.declared.faults.ServeFault.{ServeFault}
use Rattle.firm_rounds.specs.Passes.{QueueId}
use Rattle.firm_hall.specs.Desks.{DeskIs, PlaceIs}
use Rattle.firm_hall.specs.Counts.{ServedWithFrom}
use Rattle.firm_hall.specs.declared.ending.Ended.{Ended}
use Rattle.firm_hall.specs.declared.desk_states.DeskState.{DeskState}
use Rattle.firm_hall.specs.declared.desk_states.DeskState.TheVariants.{Home, Away, Empty, Gone}

-- what stands at a place is of this hall, and no round is away from it
abbrev pub IsOf : QueueId → DeskState → Type 0
IsOf id (Home desk waits) = desk.queue ≡ id
IsOf id (Away asked) = ⊥
IsOf id (Empty place) = place.queue ≡ id
IsOf id Gone = ⊥

-- these desks and these empty ones are of this hall
pub record AreOf (id : QueueId) (desks : List DeskIs) (empty : List PlaceIs) : Type 0 where
  pub each : All (λ desk. desk.queue ≡ id) desks
  pub places : All (λ place. place.queue ≡ id) empty

-- the service reached the end of the input, or stopped with a fault
abbrev pub Ran : Opened → ℕ → Device → Device → Result Ended ServeFault → Type 0
Ran opening most reader writer (Ok ended) = ServedWithFrom opening most reader writer ended.rounds
Ran opening most reader writer (Err fault) = StoppedFrom opening most reader writer fault
