-- The table of tenants as a machine: the answer to each event, and what it changes.
use Rattle.std.specs.Prelude.{ℕ, ◌+◌, ◌-◌, Bool, true, false, ◌&&◌, ◌==◌, not, nat_lt, nat_le, List, [], ◌∷◌, ◌++◌, map}
use Rattle.std.specs.Prelude.{length, replicate, Option, Some, None, slice_get, slice_set, if◌then◌else◌}
use Rattle.std.specs.List.{list_any, position}
use Rattle.firm_rules.specs.Book.{Book, opening_book}
use Rattle.firm_rules.specs.Limits.{TenantLimits}
use Rattle.firm_rules.specs.declared.commands.Command.{Command}
use Rattle.firm_rules.specs.declared.commands.Command.TheVariants.{Round}
use Rattle.firm_rules.specs.declared.replies.Reply.{Reply}
use Rattle.firm_rules.specs.declared.tickets.Ticket.{Ticket}
use Rattle.firm_tenant.specs.Step.{step}
use Rattle.firm_text.specs.Registers.{most_admissions}
use Rattle.firm_text.specs.Rosters.{RosterRow, most_places}
use Rattle.firm_table.specs.declared.events.Event.{Event}
use Rattle.firm_table.specs.declared.events.Event.TheVariants.{Post, Ask, Take, Answer, Collect, Admit, Retire}
use Rattle.firm_table.specs.declared.events.Answer.{Answer as EventAnswer}
use Rattle.firm_table.specs.declared.events.Answer.TheVariants.{Replied, Queued, Took, Solved, Admitted, NoMemory}
use Rattle.firm_table.specs.declared.events.Answer.TheVariants.{Retired, NotNow}

-- whether a command is the round
abbrev pub is_round : Command → Bool
is_round Round = true
is_round _ = false

-- what stands at a place: no tenant; a tenant at home with its book; or one whose round is queued, held by a worker, or
-- answered, with the book after the reply
pub data Station : Type 0 where
  empty : Station
  home : Book → Station
  queued : Book → Ticket → Station
  held : Book → Ticket → ℕ → Station
  answered : Book → Reply → Station

-- whether a tenant is home
abbrev pub is_home : Station → Bool
is_home (home book) = true
is_home _ = false

-- a place: what stands there, how many rounds all its tenants have queued, and how many tenants it was given to
pub record Seat : Type 0 where
  pub station : Station
  pub rounds : ℕ
  pub admissions : ℕ

-- the table: how many workers there are, the places, and the queue, front first
pub record TableState : Type 0 where
  pub workers : ℕ
  pub seats : List Seat
  pub queue : List Ticket

-- an event, and whether memory is refused in it
abbrev pub MarkedEvent : Type 0
MarkedEvent = Event × Bool

-- the seat of a row of the roster, which is its place's first admission
abbrev pub opening_seat : RosterRow → Seat
opening_seat row = record { station = home (opening_book row.1); rounds = 0; admissions = 1 }

-- a place that was never given
abbrev pub unused_seat : Seat
unused_seat = record { station = empty; rounds = 0; admissions = 0 }

-- the places of a roster's tenants, in its order, followed by empty ones, up to as many as a service has
abbrev pub opening_seats : List RosterRow → List Seat
opening_seats roster = map opening_seat roster ++ replicate (most_places - length roster) unused_seat

-- before the first event each tenant is home, the other places are empty, and so is the queue
abbrev pub opening_table : List RosterRow → ℕ → TableState
opening_table roster workers = record { workers = workers; seats = opening_seats roster; queue = [] }

-- a command that is not a round
abbrev pub posted : Station → Command → Bool → EventAnswer × Station
posted (home book) command mark =
    if is_round command then (NotNow, home book)
    else (Replied (step book command mark).0, home (step book command mark).1)
posted station command mark = (NotNow, station)

-- a round: a tenant without life left replies at once, and so does one whose round is refused memory
abbrev pub asked : Station → Ticket → Bool → EventAnswer × Station
asked (home book) ticket mark =
    if nat_le book.rows.limits.life book.given then (Replied (step book Round mark).0, home (step book Round mark).1)
    else if mark then (Replied (step book Round mark).0, home (step book Round mark).1)
    else (Queued ticket, queued book ticket)
asked station ticket mark = (NotNow, station)

-- what stands at a place once this worker has taken the round queued there
abbrev pub taken_by : ℕ → Station → Station
taken_by worker (queued book ticket) = held book ticket worker
taken_by worker station = station

-- whether this worker holds the tenant
abbrev pub is_held : ℕ → Station → Bool
is_held worker (held book ticket holder) = holder == worker
is_held worker _ = false

-- the round is solved
abbrev pub solved : Station → Bool → EventAnswer × Station
solved (held book ticket worker) mark = (Solved ticket, answered (step book Round mark).1 (step book Round mark).0)
solved station mark = (NotNow, station)

-- the tenant comes home
abbrev pub collected : Station → EventAnswer × Station
collected (answered book reply) = (Replied reply, home book)
collected station = (NotNow, station)

-- a tenant comes with its opening book to an empty place that has an admission left; if memory is refused, the place
-- stays empty
abbrev pub admitted : Station → ℕ → TenantLimits → Bool → EventAnswer × Station
admitted empty admissions limits mark =
    if not (nat_lt admissions most_admissions) then (NotNow, empty)
    else if mark then (NoMemory, empty)
    else (Admitted, home (opening_book limits))
admitted station admissions limits mark = (NotNow, station)

-- a tenant that is home leaves, and its book is dropped
abbrev pub retired : Station → EventAnswer × Station
retired (home book) = (Retired, empty)
retired station = (NotNow, station)

-- what an answer adds to the counts of a seat's rounds and tenants, and to the queue
abbrev pub rounds_more : EventAnswer → ℕ
rounds_more (Queued ticket) = 1
rounds_more _ = 0

abbrev pub admissions_more : EventAnswer → ℕ
admissions_more Admitted = 1
admissions_more _ = 0

abbrev pub queue_more : EventAnswer → List Ticket
queue_more (Queued ticket) = ticket ∷ []
queue_more _ = []

-- the next ticket of a place, whichever tenant is there
abbrev pub next_ticket : ℕ → Seat → Ticket
next_ticket place seat = record { place = place; number = seat.rounds + 1 }

-- the answer to an event at a place, and what stands there after it
abbrev pub local : Seat → ℕ → Event → Bool → EventAnswer × Station
local seat place (Post _ command) mark = posted seat.station command mark
local seat place (Ask _) mark = asked seat.station (next_ticket place seat) mark
local seat place (Collect _) mark = collected seat.station
local seat place (Admit _ limits) mark = admitted seat.station seat.admissions limits mark
local seat place (Retire _) mark = retired seat.station
local seat place (Take _) mark = (NotNow, seat.station)
local seat place (Answer _) mark = solved seat.station mark

-- the seat after an answer
abbrev pub seat_behind : Seat → EventAnswer × Station → Seat
seat_behind seat after = record {
  station = after.1;
  rounds = seat.rounds + rounds_more after.0;
  admissions = seat.admissions + admissions_more after.0;
}

-- an event at a place of the table
abbrev pub at_place : TableState → ℕ → Option Seat → Event → Bool → EventAnswer × TableState
at_place table place None event mark = (NotNow, table)
at_place table place (Some seat) event mark =
    let after = local seat place event mark in (
      after.0,
      record table {
        seats = slice_set table.seats place (seat_behind seat after);
        queue = table.queue ++ queue_more after.0;
      },
    )

-- the place that this worker holds
abbrev pub place_held : ℕ → List Seat → Option ℕ
place_held worker seats = position (λ seat. is_held worker seat.station) seats

-- the front of the queue goes to the worker
abbrev pub taking : TableState → ℕ → Ticket → List Ticket → Option Seat → EventAnswer × TableState
taking table worker ticket rest None = (NotNow, table)
taking table worker ticket rest (Some seat) = (
  Took ticket,
  record table {
    seats = slice_set table.seats ticket.place (record seat { station = taken_by worker seat.station });
    queue = rest;
  },
)

abbrev pub take_front : TableState → ℕ → List Ticket → EventAnswer × TableState
take_front table worker [] = (NotNow, table)
take_front table worker (ticket ∷ rest) = taking table worker ticket rest (slice_get table.seats ticket.place)

-- the worker is one of the table's and holds no tenant
abbrev pub may_take : TableState → ℕ → Bool
may_take table worker = nat_lt worker table.workers && not (list_any (λ seat. is_held worker seat.station) table.seats)

-- the place that an event names
abbrev pub named_place : Event → Option ℕ
named_place (Post place command) = Some place
named_place (Ask place) = Some place
named_place (Collect place) = Some place
named_place (Admit place limits) = Some place
named_place (Retire place) = Some place
named_place (Take worker) = None
named_place (Answer worker) = None

-- the place at which an event happens: the one that it names, or the one whose round its worker holds
abbrev pub event_place : TableState → Event → Option ℕ
event_place table (Answer worker) = place_held worker table.seats
event_place table event = named_place event

-- an event at this place, if given
abbrev pub at_event : TableState → Option ℕ → Event → Bool → EventAnswer × TableState
at_event table None event mark = (NotNow, table)
at_event table (Some place) event mark = at_place table place (slice_get table.seats place) event mark

-- the answer to an event, and the table after it
abbrev pub happens : TableState → MarkedEvent → EventAnswer × TableState
happens table (Take worker, mark) =
    if may_take table worker then take_front table worker table.queue else (NotNow, table)
happens table (event, mark) = at_event table (event_place table event) event mark

-- the answers to a list of events, and the table after them
abbrev pub event_answers : TableState → List MarkedEvent → List EventAnswer
event_answers table [] = []
event_answers table (given ∷ rest) = (happens table given).0 ∷ event_answers (happens table given).1 rest

abbrev pub table_after : TableState → List MarkedEvent → TableState
table_after table [] = table
table_after table (given ∷ rest) = table_after (happens table given).1 rest
