-- The effect of each arm of the table's call on its parts.
use Rattle.std.proofs.Common.{◌≡◌, ℕ, zero, suc, ◌<◌, ◌≤◌, List, [], ◌∷◌, ◌++◌, length, refl, sym, ap, ◌∙◌}
use Rattle.std.proofs.Common.{arith, ◌+◌, cond, ◌||◌}
use Rattle.std.specs.Prelude.{nat_lt, ◌&&◌, ◌-◌, not, Bool, true, false, Option, Some, None, slice_get, slice_set, map}
use Rattle.std.specs.Prelude.{slice_index_or, replicate, if◌then◌else◌}
use Rattle.std.specs.List.{list_any, position_from}
use Rattle.std.specs.Option.{is_some}
use Rattle.std.proofs.lemmas.Bool.Decides.{nat_tests}
use Rattle.std.proofs.lemmas.Iterator.Adapters.{position_from-zero}
use Rattle.std.proofs.lemmas.Option.{slice_get_past, slice_get_read, slice_get_within}
use Rattle.firm_rules.specs.declared.tickets.Ticket.{Ticket}
use Rattle.firm_text.specs.Rosters.{RosterRow, most_places}
use Rattle.firm_table.specs.Interleaving.{Station, queued, Seat, TableState, opening_seat, unused_seat, opening_seats}
use Rattle.firm_table.specs.Interleaving.{taken_by, is_held, local, seat_behind, at_place, take_front, may_take}
use Rattle.firm_table.specs.Interleaving.{event_place, place_held, at_event, happens, queue_more}
use Rattle.firm_table.specs.Fitting.{asks}
use Rattle.firm_table.specs.inner.Seats.{Becomes}
use Rattle.firm_table.specs.inner.Tables.{table_of, queued_ticket, waiting, waiting_at, IsSound}
use Rattle.firm_table.specs.inner.Events.{IsDone}
use Rattle.firm_table.specs.declared.events.Event.{Event}
use Rattle.firm_table.specs.declared.events.Event.TheVariants.{Take}
use Rattle.firm_table.specs.declared.events.Answer.{Answer as EventAnswer}
use Rattle.firm_table.specs.declared.events.Answer.TheVariants.{Took, NotNow}
use Rattle.firm_table.proofs.Waiting.{front}
use Rattle.firm_table.proofs.Happening.{taken_is, done, still_sound}

-- an event was done, and left the table sound
pub record Keeps (table : TableState) (event : Event) (answer : EventAnswer) (after : TableState) : Type 0 where
  pub done : IsDone table event answer after
  pub sound : IsSound after

keeps : (table : TableState) (event : Event) (mark : Bool) (answer : EventAnswer) (after : TableState) → IsSound table
    → (asks event ≡ true → mark ≡ false) → (answer, after) ≡ happens table (event, mark)
    → Keeps table event answer after
keeps table event mark answer after sound asked_so is = record {
  done = done table event mark answer after sound asked_so is;
  sound = still_sound table event mark answer after sound is;
}

-- the seat that an index gave
pub seat_at : (seats : List Seat) (place : ℕ) (seat : Seat) → place < length seats
    → seat ≡ slice_index_or seats place seat → slice_get seats place ≡ Some seat
seat_at seats place seat within value = slice_get_read seats (length seats) place seat refl within value

-- the seat at a place answers, and the queue grows by what that adds
happened : (workers : ℕ) (seats : List Seat) (queue after_queue : List Ticket) (place : ℕ) (seat new : Seat)
    (event : Event) (mark : Bool) (answer : EventAnswer)
    → slice_get seats place ≡ Some seat → Becomes seat (local seat place event mark) answer new
    → after_queue ≡ queue ++ queue_more answer
    → let table : TableState = table_of workers seats queue in
    (answer, table_of workers (slice_set seats place new) after_queue)
    ≡ at_place table place (slice_get seats place) event mark
happened workers seats queue after_queue place seat new event mark answer here becomes queue_is =
    let table : TableState = table_of workers seats queue in
    let outcome : EventAnswer × Station = local seat place event mark in
    ap (λ (q : List Ticket). let p : EventAnswer × TableState =
    (answer, table_of workers (slice_set seats place new) q) in p) queue_is
    ∙ ap (λ (s : Seat). let p : EventAnswer × TableState =
    (answer, table_of workers (slice_set seats place s) (queue ++ queue_more answer)) in p) becomes.seat_is
    ∙ ap (λ (a : EventAnswer). let p : EventAnswer × TableState =
    (a, table_of workers (slice_set seats place (seat_behind seat outcome)) (queue ++ queue_more a)) in p)
    becomes.answers
    ∙ sym (ap (λ (found : Option Seat). at_place table place found event mark) here)

-- an event that takes no round happens at its place
happens_at : (table : TableState) (event : Event) (mark : Bool) → ((worker : ℕ) → event ≡ Take worker → ⊥)
    → happens table (event, mark) ≡ at_event table (event_place table event) event mark
happens_at table (Take worker) mark other = absurd (other worker refl)
happens_at table _ mark other = refl

pub acts : (workers : ℕ) (seats : List Seat) (queue after_queue : List Ticket) (place : ℕ) (seat new : Seat)
    (event : Event) (mark : Bool) (answer : EventAnswer)
    → IsSound (table_of workers seats queue) → (asks event ≡ true → mark ≡ false)
    → ((worker : ℕ) → event ≡ Take worker → ⊥) → event_place (table_of workers seats queue) event ≡ Some place
    → slice_get seats place ≡ Some seat → Becomes seat (local seat place event mark) answer new
    → after_queue ≡ queue ++ queue_more answer
    → Keeps (table_of workers seats queue) event answer (table_of workers (slice_set seats place new) after_queue)
acts workers seats queue after_queue place seat new event mark answer sound asked_so other at here becomes queue_is =
    let table : TableState = table_of workers seats queue in
    keeps table event mark answer (table_of workers (slice_set seats place new) after_queue) sound asked_so
    (happened workers seats queue after_queue place seat new event mark answer here becomes queue_is
    ∙ sym (happens_at table event mark other ∙ ap (λ (found : Option ℕ). at_event table found event mark) at))

-- an event without a place, or past the last one
pub acts_nowhere : (workers : ℕ) (seats : List Seat) (queue : List Ticket) (event : Event)
    → IsSound (table_of workers seats queue) → ((worker : ℕ) → event ≡ Take worker → ⊥)
    → event_place (table_of workers seats queue) event ≡ None
    → IsDone (table_of workers seats queue) event NotNow (table_of workers seats queue)
acts_nowhere workers seats queue event sound other none =
    let table : TableState = table_of workers seats queue in
    done table event false NotNow table sound (λ e. refl)
    (sym (happens_at table event false other ∙ ap (λ (found : Option ℕ). at_event table found event false) none))

pub acts_past : (workers : ℕ) (seats : List Seat) (queue : List Ticket) (event : Event) (place : ℕ)
    → IsSound (table_of workers seats queue) → ((worker : ℕ) → event ≡ Take worker → ⊥)
    → event_place (table_of workers seats queue) event ≡ Some place → length seats ≤ place
    → IsDone (table_of workers seats queue) event NotNow (table_of workers seats queue)
acts_past workers seats queue event place sound other at past =
    let table : TableState = table_of workers seats queue in
    done table event false NotNow table sound (λ e. refl)
    (sym (happens_at table event false other ∙ ap (λ (found : Option ℕ). at_event table found event false) at
    ∙ ap (λ (found : Option Seat). at_place table place found event false) (slice_get_past seats place past)))

-- each place waits once at most
at_most : (seats : List Seat) → waiting seats ≤ length seats
at_most [] = omega arith
at_most (seat ∷ rest) =
    let one : length (queued_ticket seat.station) ≤ 1 = once seat.station in
    let others = at_most rest in
    omega (arith, one, others)
  where
    once : (station : Station) → length (queued_ticket station) ≤ 1
    once (queued book ticket) = omega arith
    once _ = omega arith

-- so the queue has no more rounds than there are places
pub has_room : (table : TableState) → IsSound table → length table.queue ≤ length table.seats
has_room table sound = let most = at_most table.seats in omega (arith, most, sound.as_many)

-- a worker holds a tenant where it holds a place
held_here : (here : Bool) (n : ℕ) (found : Option ℕ) (rest : Bool) → is_some found ≡ rest
    → is_some (cond here (Some n) found) ≡ (here || rest)
held_here true n found rest e = refl
held_here false n found rest e = e

held_from : (worker n : ℕ) (seats : List Seat)
    → is_some (position_from (λ (seat : Seat). is_held worker seat.station) n seats)
    ≡ list_any (λ (seat : Seat). is_held worker seat.station) seats
held_from worker n [] = refl
held_from worker n (seat ∷ rest) =
    held_here (is_held worker seat.station) n
    (position_from (λ (seat : Seat). is_held worker seat.station) (n + 1) rest)
    (list_any (λ (seat : Seat). is_held worker seat.station) rest) (held_from worker (n + 1) rest)

holds_place : (worker : ℕ) (seats : List Seat)
    → is_some (place_held worker seats) ≡ list_any (λ (seat : Seat). is_held worker seat.station) seats
holds_place worker seats =
    ap is_some (position_from-zero (λ (seat : Seat). is_held worker seat.station) seats) ∙ held_from worker 0 seats

-- a worker past the table's, or one that holds a tenant, may not take; any other may
and_not : (b c : Bool) → c ≡ true → (b && not c) ≡ false
and_not true c e = ap not e
and_not false c e = refl

pub refused_worker : (workers worker : ℕ) (seats : List Seat) (queue : List Ticket) → workers ≤ worker
    → may_take (table_of workers seats queue) worker ≡ false
refused_worker workers worker seats queue few = let past : nat_lt worker workers ≡ false =
    grind (arith, nat_tests) in rw past refl

pub refused_holder : (workers worker : ℕ) (seats : List Seat) (queue : List Ticket)
    → is_some (place_held worker seats) ≡ true
    → may_take (table_of workers seats queue) worker ≡ false
refused_holder workers worker seats queue holds =
    and_not (nat_lt worker workers) (list_any (λ (seat : Seat). is_held worker seat.station) seats)
    (sym (holds_place worker seats) ∙ holds)

pub allowed : (workers worker : ℕ) (seats : List Seat) (queue : List Ticket) → worker < workers
    → is_some (place_held worker seats) ≡ false
    → may_take (table_of workers seats queue) worker ≡ true
allowed workers worker seats queue one none =
    let within : nat_lt worker workers ≡ true = grind (arith, nat_tests) in
    ap (λ (b : Bool). b && not (list_any (λ (seat : Seat). is_held worker seat.station) seats)) within
    ∙ ap not (sym (holds_place worker seats) ∙ none)

-- the worker may not take
pub takes_not : (workers worker : ℕ) (seats : List Seat) (queue : List Ticket) → IsSound (table_of workers seats queue)
    → may_take (table_of workers seats queue) worker ≡ false
    → IsDone (table_of workers seats queue) (Take worker) NotNow (table_of workers seats queue)
takes_not workers worker seats queue sound refused =
    let table : TableState = table_of workers seats queue in
    done table (Take worker) false NotNow table sound (λ e. cc)
    (sym (ap (λ (b : Bool). if b then take_front table worker queue else (NotNow, table)) refused))

-- or finds no round
pub takes_none : (workers worker : ℕ) (seats : List Seat) (queue : List Ticket) → IsSound (table_of workers seats queue)
    → queue ≡ []
    → IsDone (table_of workers seats queue) (Take worker) NotNow (table_of workers seats queue)
takes_none workers worker seats queue sound none =
    let table : TableState = table_of workers seats queue in
    done table (Take worker) false NotNow table sound (λ e. cc) (sym (at (may_take table worker) ∙ refl))
  where
    at : (b : Bool) → (if b then take_front (table_of workers seats queue) worker queue else
        (NotNow, table_of workers seats queue)) ≡ (NotNow, table_of workers seats queue)
    at true = ap (take_front (table_of workers seats queue) worker) none
    at false = refl

-- the front's tenant is there
pub front_within : (workers : ℕ) (seats : List Seat) (queue rest : List Ticket) (ticket : Ticket)
    → IsSound (table_of workers seats queue)
    → queue ≡ ticket ∷ rest → ticket.place < length seats
front_within workers seats queue rest ticket sound queue_is =
    let is_front = front (table_of workers seats queue) ticket rest sound queue_is in
    slice_get_within seats ticket.place is_front.seat is_front.here

pub takes : (workers worker : ℕ) (seats : List Seat) (queue rest : List Ticket) (ticket : Ticket) (seat new : Seat)
    → IsSound (table_of workers seats queue)
    → may_take (table_of workers seats queue) worker ≡ true → queue ≡ ticket ∷ rest
    → slice_get seats ticket.place ≡ Some seat
    → new ≡ record seat { station = taken_by worker seat.station }
    → Keeps (table_of workers seats queue) (Take worker) (Took ticket)
    (table_of workers (slice_set seats ticket.place new) rest)
takes workers worker seats queue rest ticket seat new sound may queue_is here new_is =
    let table : TableState = table_of workers seats queue in
    let is_front = front table ticket rest sound queue_is in
    let same : is_front.seat ≡ seat = cc (is_front.here, here) in
    let new_too : new ≡ record is_front.seat { station = taken_by worker is_front.seat.station } =
    new_is ∙ sym (ap (λ (s : Seat). let taken : Seat =
    record s { station = taken_by worker s.station } in taken) same) in
    keeps table (Take worker) false (Took ticket)
    (table_of workers (slice_set seats ticket.place new) rest) sound (λ e. cc)
    (ap (λ (s : Seat). let p : EventAnswer × TableState =
    (Took ticket, table_of workers (slice_set seats ticket.place s) rest) in p) new_too
    ∙ sym (taken_is table worker ticket rest is_front)
    ∙ ap (take_front table worker) (sym queue_is)
    ∙ sym (ap (λ (b : Bool). if b then take_front table worker queue else (NotNow, table)) may))

-- before the first event
pub sound_opening : (workers : ℕ) (roster : List RosterRow) → length (opening_seats roster) ≤ most_places
    → IsSound (table_of workers (opening_seats roster) [])
sound_opening workers roster few = record {
  few = few;
  as_many = none_waits roster;
  holds = λ place. none_at roster place;
}
  where
    none_unused : (n : ℕ) → 0 ≡ waiting (replicate n unused_seat)
    none_unused zero = refl
    none_unused (suc n) = let behind = none_unused n in omega (arith, behind)

    none_waits_with : (rows : List RosterRow) (n : ℕ) → 0 ≡ waiting (map opening_seat rows ++ replicate n unused_seat)
    none_waits_with [] n = none_unused n
    none_waits_with (row ∷ rest) n = let behind = none_waits_with rest n in omega (arith, behind)

    none_waits : (rows : List RosterRow) → 0 ≡ waiting (opening_seats rows)
    none_waits rows = none_waits_with rows (most_places - length rows)

    none_at_unused : (n place : ℕ) → [] ≡ waiting_at (slice_get (replicate n unused_seat) place)
    none_at_unused zero place = refl
    none_at_unused (suc n) zero = refl
    none_at_unused (suc n) (suc place) = none_at_unused n place

    none_at_with : (rows : List RosterRow) (n place : ℕ)
        → [] ≡ waiting_at (slice_get (map opening_seat rows ++ replicate n unused_seat) place)
    none_at_with [] n place = none_at_unused n place
    none_at_with (row ∷ rest) n zero = refl
    none_at_with (row ∷ rest) n (suc place) = none_at_with rest n place

    none_at : (rows : List RosterRow) (place : ℕ) → [] ≡ waiting_at (slice_get (opening_seats rows) place)
    none_at rows place = none_at_with rows (most_places - length rows) place
