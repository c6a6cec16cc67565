-- The queue, and the places that wait in it.
use Rattle.std.proofs.Common.{◌≡◌, ℕ, zero, suc, ◌+◌, ◌≤◌, List, [], ◌∷◌, ◌++◌, length, refl, sym, ap, subst, ◌∙◌}
use Rattle.std.proofs.Common.{append-nil, length-append, arith}
use Rattle.std.specs.Prelude.{◌==◌, Bool, false, Option, Some, None, slice_get, slice_set}
use Rattle.std.proofs.lemmas.List.{length-set}
use Rattle.std.proofs.lemmas.List.Elements.{filter-append}
use Rattle.firm_rules.specs.Book.{Book}
use Rattle.firm_rules.specs.declared.tickets.Ticket.{Ticket}
use Rattle.firm_text.specs.Rosters.{most_places}
use Rattle.firm_table.specs.Interleaving.{Station, queued, Seat, TableState, taken_by, seat_behind, queue_more}
use Rattle.firm_table.specs.inner.Tables.{queued_ticket, waiting_at, tickets_of, waiting, IsSound}
use Rattle.firm_table.specs.declared.events.Event.{Event}
use Rattle.firm_table.specs.declared.events.Answer.{Answer as EventAnswer}
use Rattle.firm_table.proofs.Machine.{Places, one, two, places, eq_itself, set_here, set_there}
use Rattle.firm_table.proofs.Ways.{Way, queues}

-- what an event at a place adds to the queue is the ticket that then waits there
pub record AddsTicket (place : ℕ) (station : Station) (outcome : EventAnswer × Station) : Type 0 where
  pub here : queued_ticket outcome.1 ≡ queued_ticket station ++ queue_more outcome.0
  pub own : tickets_of place (queue_more outcome.0) ≡ queue_more outcome.0
  pub others : (other : ℕ) → (place == other) ≡ false → tickets_of other (queue_more outcome.0) ≡ []

-- nothing is added
adds_none : (place : ℕ) (station after : Station) (answer : EventAnswer) → queue_more answer ≡ []
    → queued_ticket after ≡ queued_ticket station
    → AddsTicket place station (answer, after)
adds_none place station after answer none same = record {
  here = same ∙ sym (append-nil (queued_ticket station))
      ∙ ap (λ (more : List Ticket). queued_ticket station ++ more) (sym none);
  own = ap (tickets_of place) none ∙ sym none;
  others = λ other apart. ap (tickets_of other) none;
}

pub adds_way : (place : ℕ) (station : Station) (event : Event) (fit : Bool) (answer : EventAnswer) (after : Station)
    → Way place station event fit answer after → AddsTicket place station (answer, after)
adds_way place station event fit answer after (queues _ _ number book) = record {
  here = refl;
  own = rw (eq_itself place) refl;
  others = λ other apart. rw apart refl;
}
adds_way place station event fit answer after _ = adds_none place station after answer refl refl

-- how many wait once a seat has changed
pub waiting_set : (seats : List Seat) (place : ℕ) (seat new : Seat) → slice_get seats place ≡ Some seat
    → waiting (slice_set seats place new) + length (queued_ticket seat.station) ≡ waiting seats
    + length (queued_ticket new.station)
waiting_set [] place seat new e = cc
waiting_set (first ∷ rest) zero seat new e =
    let same : first ≡ seat = cc in
    rw same (omega arith)
waiting_set (first ∷ rest) (suc place) seat new e = let behind =
    waiting_set rest place seat new e in omega (arith, behind)

pub sound_at : (table : TableState) (place : ℕ) (seat : Seat) (outcome : EventAnswer × Station) → IsSound table
    → slice_get table.seats place ≡ Some seat
    → AddsTicket place seat.station outcome
    → IsSound (record table {
      seats = slice_set table.seats place (seat_behind seat outcome);
      queue = table.queue
          ++ queue_more outcome.0;
    })
sound_at table place seat outcome sound found adds = record {
  few = subst (λ (n : ℕ). n ≤ most_places) (sym (length-set table.seats place new)) sound.few;
  as_many =
      let more = waiting_set table.seats place seat new found in
      let queue_is = length-append table.queue (queue_more outcome.0) in
      let seat_is = ap length adds.here ∙ length-append (queued_ticket seat.station) (queue_more outcome.0) in
      omega (arith, more, queue_is, seat_is, sound.as_many);
  holds = λ other. at other (places place other);
}
  where
    new : Seat
    new = seat_behind seat outcome

    at : (other : ℕ) → Places place other → tickets_of other (table.queue ++ queue_more outcome.0)
        ≡ waiting_at (slice_get (slice_set table.seats place new) other)
    at other (one _) =
        filter-append (λ (t : Ticket). t.place == place) table.queue (queue_more outcome.0)
        ∙ ap (λ (ts : List Ticket). ts ++ tickets_of place (queue_more outcome.0))
        (sound.holds place ∙ ap waiting_at found)
        ∙ ap (λ (ts : List Ticket). queued_ticket seat.station ++ ts) adds.own ∙ sym adds.here
        ∙ sym (ap waiting_at (set_here table.seats place seat new found))
    at other (two _ _ apart) =
        filter-append (λ (t : Ticket). t.place == other) table.queue (queue_more outcome.0)
        ∙ ap (λ (ts : List Ticket). tickets_of other table.queue ++ ts) (adds.others other apart)
        ∙ append-nil (tickets_of other table.queue)
        ∙ sound.holds other ∙ sym (ap waiting_at (set_there table.seats place other new apart))

-- the front of the queue is the ticket of a tenant that waits, and no other ticket there is its own
pub record IsFront (table : TableState) (ticket : Ticket) (rest : List Ticket) : Type 0 where
  pub seat : Seat
  pub book : Book
  pub here : slice_get table.seats ticket.place ≡ Some seat
  pub waits : seat.station ≡ queued book ticket
  pub last : tickets_of ticket.place rest ≡ []

-- one that waits by the first of these tickets has no further one
pub record WaitsBy (ticket : Ticket) (more : List Ticket) (station : Station) : Type 0 where
  pub book : Book
  pub waits : station ≡ queued book ticket
  pub last : more ≡ []

waits_by : (ticket : Ticket) (more : List Ticket) (station : Station) → ticket ∷ more ≡ queued_ticket station
    → WaitsBy ticket more station
waits_by ticket more (queued book own) e = record { book = book; waits = cc; last = cc }
waits_by ticket more _ e = cc

front_found : (table : TableState) (ticket : Ticket) (rest : List Ticket) (found : Option Seat)
    → slice_get table.seats ticket.place ≡ found
    → ticket ∷ tickets_of ticket.place rest ≡ waiting_at found → IsFront table ticket rest
front_found table ticket rest None here e = cc
front_found table ticket rest (Some seat) here e =
    let by = waits_by ticket (tickets_of ticket.place rest) seat.station e in
    record { seat = seat; book = by.book; here = here; waits = by.waits; last = by.last }

pub front : (table : TableState) (ticket : Ticket) (rest : List Ticket) → IsSound table → table.queue ≡ ticket ∷ rest
    → IsFront table ticket rest
front table ticket rest sound queue_is =
    let first : tickets_of ticket.place (ticket ∷ rest) ≡ ticket ∷ tickets_of ticket.place rest =
    rw (eq_itself ticket.place) refl in
    front_found table ticket rest (slice_get table.seats ticket.place) refl
    (sym first ∙ ap (tickets_of ticket.place) (sym queue_is) ∙ sound.holds ticket.place)

pub sound_taken : (table : TableState) (ticket : Ticket) (rest : List Ticket) (worker : ℕ)
    (is_front : IsFront table ticket rest) → IsSound table → table.queue ≡ ticket ∷ rest
    → IsSound (record table {
      seats = slice_set table.seats ticket.place
          (record is_front.seat { station = taken_by worker is_front.seat.station });
      queue = rest;
    })
sound_taken table ticket rest worker is_front sound queue_is = record {
  few = subst (λ (n : ℕ). n ≤ most_places) (sym (length-set table.seats ticket.place new)) sound.few;
  as_many =
      let fewer = waiting_set table.seats ticket.place is_front.seat new is_front.here in
      let was = ap (λ (s : Station). length (queued_ticket s)) is_front.waits in
      let is = ap (λ (s : Station). length (queued_ticket (taken_by worker s))) is_front.waits in
      let long = ap length queue_is in
      omega (arith, fewer, was, is, long, sound.as_many);
  holds = λ other. at ticket.place other (places ticket.place other) is_front.here is_front.last others;
}
  where
    new : Seat
    new = record is_front.seat { station = taken_by worker is_front.seat.station }

    others : (other : ℕ) → (ticket.place == other) ≡ false
        → tickets_of other rest ≡ waiting_at (slice_get table.seats other)
    others other apart =
        let behind : tickets_of other (ticket ∷ rest) ≡ tickets_of other rest = rw apart refl in
        sym behind ∙ ap (tickets_of other) (sym queue_is) ∙ sound.holds other

    at : (first other : ℕ) → Places first other → slice_get table.seats first ≡ Some is_front.seat
        → tickets_of first rest ≡ []
        → ((o : ℕ) → (first == o) ≡ false → tickets_of o rest ≡ waiting_at (slice_get table.seats o))
        → tickets_of other rest ≡ waiting_at (slice_get (slice_set table.seats first new) other)
    at first other (one _) here last apart_is =
        last ∙ sym (ap (λ (s : Station). queued_ticket (taken_by worker s)) is_front.waits)
        ∙ sym (ap waiting_at (set_here table.seats first is_front.seat new here))
    at first other (two _ _ apart) here last apart_is =
        apart_is other apart ∙ sym (ap waiting_at (set_there table.seats first other new apart))
