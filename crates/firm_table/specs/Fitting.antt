-- The events that fit the table as it stands, and the effect of one call on it.
use Rattle.std.specs.Prelude.{◌≡◌, Bool, true, false, ◌&&◌, not, nat_lt, List, [], ◌∷◌, Option, Some, None, slice_get}
use Rattle.std.specs.Option.{is_some}
use Rattle.firm_rules.specs.declared.tickets.Ticket.{Ticket}
use Rattle.firm_text.specs.Registers.{most_admissions}
use Rattle.firm_table.specs.Interleaving.{is_round, Station, empty, answered, is_home, Seat}
use Rattle.firm_table.specs.Interleaving.{TableState, place_held, may_take, happens}
use Rattle.firm_table.specs.declared.events.Event.{Event}
use Rattle.firm_table.specs.declared.events.Event.TheVariants.{Post, Ask, Take, Answer, Collect, Admit, Retire}
use Rattle.firm_table.specs.declared.events.Answer.{Answer as EventAnswer}

-- whether the round of a tenant is answered
abbrev pub is_answered : Station → Bool
is_answered (answered book reply) = true
is_answered _ = false

-- whether a place is empty
abbrev pub is_empty : Station → Bool
is_empty empty = true
is_empty _ = false

-- whether a place is empty and has an admission left
abbrev pub is_free_seat : Seat → Bool
is_free_seat seat = is_empty seat.station && nat_lt seat.admissions most_admissions

-- whether the place exists and passes the test
abbrev pub stands : (Seat → Bool) → Option Seat → Bool
stands test None = false
stands test (Some seat) = test seat

-- whether a round waits in the queue
abbrev pub has_waiting : List Ticket → Bool
has_waiting [] = false
has_waiting (ticket ∷ rest) = true

-- whether an event fits: a command that is not a round, or a round, of a tenant that is home; the front of a nonempty
-- queue, for a worker of the table that holds no tenant; the answer of a worker that holds a tenant; the return of a
-- tenant whose round is answered; a new tenant for a free place; and the retirement of a tenant that is home
abbrev pub fits : TableState → Event → Bool
fits table (Post place command) =
    stands (λ seat. is_home seat.station && not (is_round command)) (slice_get table.seats place)
fits table (Ask place) = stands (λ seat. is_home seat.station) (slice_get table.seats place)
fits table (Take worker) = may_take table worker && has_waiting table.queue
fits table (Answer worker) = is_some (place_held worker table.seats)
fits table (Collect place) = stands (λ seat. is_answered seat.station) (slice_get table.seats place)
fits table (Admit place limits) = stands is_free_seat (slice_get table.seats place)
fits table (Retire place) = stands (λ seat. is_home seat.station) (slice_get table.seats place)

-- whether an event asks for a round
abbrev pub asks : Event → Bool
asks (Ask place) = true
asks _ = false

-- an event is answered, and changes the table, as defined; memory may be refused in it, unless it only asks for a round
pub record IsEventStep (table : TableState) (event : Event) (answer : EventAnswer) (after : TableState) : Type 0 where
  pub mark : Bool
  pub asked : asks event ≡ true → mark ≡ false
  pub happened : (answer, after) ≡ happens table (event, mark)
