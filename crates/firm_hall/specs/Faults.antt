-- The faults of closing a hall.
use Rattle.std.specs.Prelude.{◌≡◌, ◌+◌, ◌<◌, ◌⊎◌, List, map, length}
use Rattle.firm_rounds.specs.Passes.{QueueIs, PopIs, spent_pop}
use Rattle.firm_hall.specs.Desks.{DeskIs, PlaceIs, spent_desk, spent_place}
use Rattle.firm_hall.specs.Closed.{IsClosed}
use Rattle.firm_hall.specs.declared.close.CloseFault.{CloseFault}
use Rattle.firm_hall.specs.declared.close.CloseFault.TheVariants.{Missing, Left}

-- a desk, an empty desk or a report is missing, and everything is given back unchanged; or some requested tickets
-- are in no report but in jobs, and the hall has ended
abbrev pub IsCloseFault : QueueIs → List DeskIs → List PopIs → List PlaceIs → CloseFault → Type 0
IsCloseFault hall desks reports empty (Missing same ds rs es) =
    (same ≡ hall) × (ds.items ≡ desks) × (rs.items ≡ reports) × (es.items ≡ empty)
    × ((length desks + length empty < hall.puts) ⊎ (length reports < hall.pops))
IsCloseFault hall desks reports empty (Left ds rs jobs es) =
    (ds.items ≡ map spent_desk desks) × (rs.items ≡ map spent_pop reports) × (es.items ≡ map spent_place empty)
    × (0 < length jobs.items) × IsClosed desks empty reports jobs.items
