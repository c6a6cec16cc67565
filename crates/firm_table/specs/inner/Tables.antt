-- The invariant of the table, by which each event fits as defined and takes no memory of the table's own.
use Rattle.std.specs.Prelude.{◌≡◌, ℕ, ◌+◌, ◌≤◌, ◌==◌, List, [], ◌∷◌, Option, Some, None, length, slice_get}
use Rattle.std.specs.List.{filter}
use Rattle.firm_rules.specs.declared.tickets.Ticket.{Ticket}
use Rattle.firm_text.specs.Rosters.{RosterRow, most_places}
use Rattle.firm_table.specs.Interleaving.{Station, queued, Seat, TableState, opening_seat, unused_seat}

-- the table of these parts
abbrev pub table_of : ℕ → List Seat → List Ticket → TableState
table_of workers seats queue = record { workers = workers; seats = seats; queue = queue }

-- the seat of a place before the first event, for the row that the roster may have for it
abbrev pub first_seat : Option RosterRow → Seat
first_seat None = unused_seat
first_seat (Some row) = opening_seat row

-- the ticket of a round that waits in the queue
abbrev pub queued_ticket : Station → List Ticket
queued_ticket (queued book ticket) = ticket ∷ []
queued_ticket _ = []

-- the ticket that waits at a place, if the table has that place
abbrev pub waiting_at : Option Seat → List Ticket
waiting_at None = []
waiting_at (Some seat) = queued_ticket seat.station

-- the tickets of a place in the queue
abbrev pub tickets_of : ℕ → List Ticket → List Ticket
tickets_of place queue = filter (λ ticket. ticket.place == place) queue

-- how many places have a round waiting
abbrev pub waiting : List Seat → ℕ
waiting [] = 0
waiting (seat ∷ rest) = length (queued_ticket seat.station) + waiting rest

-- the queue holds, for each place, the ticket of its tenant's round if that waits, and no other; so it has one ticket
-- for each place that waits
pub record IsSound (table : TableState) : Type 0 where
  pub few : length table.seats ≤ most_places
  pub as_many : length table.queue ≡ waiting table.seats
  pub holds : (place : ℕ) → tickets_of place table.queue ≡ waiting_at (slice_get table.seats place)
