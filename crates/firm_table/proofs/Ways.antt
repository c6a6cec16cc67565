-- The ways in which an event goes at a place.
use Rattle.std.proofs.Common.{◌≡◌, ℕ, ◌+◌, refl}
use Rattle.std.specs.Prelude.{◌&&◌, Bool, true, false, not, nat_lt, nat_le, if◌then◌else◌}
use Rattle.firm_rules.specs.Book.{Book, opening_book}
use Rattle.firm_rules.specs.Limits.{TenantLimits}
use Rattle.firm_rules.specs.declared.commands.Command.{Command}
use Rattle.firm_rules.specs.declared.commands.Command.TheVariants.{Round}
use Rattle.firm_rules.specs.declared.replies.Reply.{Reply}
use Rattle.firm_rules.specs.declared.tickets.Ticket.{Ticket}
use Rattle.firm_tenant.specs.Step.{step}
use Rattle.firm_text.specs.Registers.{most_admissions}
use Rattle.firm_table.specs.Interleaving.{is_round, Station, empty, home, queued, held, answered, is_home, Seat, posted}
use Rattle.firm_table.specs.Interleaving.{asked, is_held, solved, collected, admitted, retired, local}
use Rattle.firm_table.specs.Fitting.{is_answered, is_empty, is_free_seat}
use Rattle.firm_table.specs.declared.events.Event.{Event}
use Rattle.firm_table.specs.declared.events.Event.TheVariants.{Post, Ask, Take, Answer, Collect, Admit, Retire}
use Rattle.firm_table.specs.declared.events.Answer.{Answer as EventAnswer}
use Rattle.firm_table.specs.declared.events.Answer.TheVariants.{Replied, Queued, Solved, Admitted, NoMemory, Retired}
use Rattle.firm_table.specs.declared.events.Answer.TheVariants.{NotNow}

-- a ticket of these numbers
abbrev pub numbered : ℕ → ℕ → Ticket
numbered place number = record { place = place; number = number }

-- how an event goes at a place, by what stands there: whether it fits, its answer, and what stands there then
pub data Way : ℕ → Station → Event → Bool → EventAnswer → Station → Type 0 where
  refused : (place : ℕ) (station : Station) (event : Event) → Way place station event false NotNow station
  posts : (place at : ℕ) (book : Book) (command : Command) (mark : Bool)
      → Way place (home book) (Post at command) true (Replied (step book command mark).0)
      (home (step book command mark).1)
  declines : (place at : ℕ) (book : Book) (mark : Bool)
      → Way place (home book) (Ask at) true (Replied (step book Round mark).0) (home (step book Round mark).1)
  queues : (place at number : ℕ) (book : Book)
      → Way place (home book) (Ask at) true (Queued (numbered place number)) (queued book (numbered place number))
  solves : (place worker holder : ℕ) (book : Book) (ticket : Ticket) (mark : Bool)
      → Way place (held book ticket holder) (Answer worker) true (Solved ticket)
      (answered (step book Round mark).1 (step book Round mark).0)
  returns : (place at : ℕ) (book : Book) (reply : Reply)
      → Way place (answered book reply) (Collect at) true (Replied reply) (home book)
  finds_none : (place at : ℕ) (limits : TenantLimits) → Way place empty (Admit at limits) true NoMemory empty
  comes : (place at : ℕ) (limits : TenantLimits)
      → Way place empty (Admit at limits) true Admitted (home (opening_book limits))
  leaves : (place at : ℕ) (book : Book) → Way place (home book) (Retire at) true Retired empty

abbrev pub WayTo : ℕ → Station → Event → Bool → EventAnswer × Station → Type 0
WayTo place station event fit outcome = Way place station event fit outcome.0 outcome.1

way_either : (place : ℕ) (station : Station) (event : Event) (fit b : Bool) (x y : EventAnswer × Station)
    → WayTo place station event fit x → WayTo place station event fit y
    → WayTo place station event fit (if b then x else y)
way_either place station event fit true x y p q = p
way_either place station event fit false x y p q = q

way_posted : (place at : ℕ) (station : Station) (command : Command) (mark : Bool)
    → WayTo place station (Post at command) (is_home station && not (is_round command)) (posted station command mark)
way_posted place at (home book) command mark = by (is_round command)
  where
    by : (b : Bool) → WayTo place (home book) (Post at command) (true && not b)
        (if b then (NotNow, home book) else (Replied (step book command mark).0, home (step book command mark).1))
    by true = refused place (home book) (Post at command)
    by false = posts place at book command mark
way_posted place at station command mark = refused place station (Post at command)

way_asked : (place at number : ℕ) (station : Station) (mark : Bool)
    → WayTo place station (Ask at) (is_home station) (asked station (numbered place number) mark)
way_asked place at number (home book) mark =
    let now : EventAnswer × Station = (Replied (step book Round mark).0, home (step book Round mark).1) in
    let later : EventAnswer × Station = (Queued (numbered place number), queued book (numbered place number)) in
    let at_once : WayTo place (home book) (Ask at) true now = declines place at book mark in
    way_either place (home book) (Ask at) true (nat_le book.rows.limits.life book.given) now
    (if mark then now else later) at_once
    (way_either place (home book) (Ask at) true mark now later at_once (queues place at number book))
way_asked place at number station mark = refused place station (Ask at)

-- whether a worker holds the tenant
abbrev pub is_away : Station → Bool
is_away (held book ticket holder) = true
is_away _ = false

pub away_of : (worker : ℕ) (station : Station) → is_held worker station ≡ true → is_away station ≡ true
away_of worker (held book ticket holder) e = refl
away_of worker _ e = e

way_solved : (place worker : ℕ) (station : Station) (mark : Bool)
    → WayTo place station (Answer worker) (is_away station) (solved station mark)
way_solved place worker (held book ticket holder) mark = solves place worker holder book ticket mark
way_solved place worker station mark = refused place station (Answer worker)

way_collected : (place at : ℕ) (station : Station)
    → WayTo place station (Collect at) (is_answered station) (collected station)
way_collected place at (answered book reply) = returns place at book reply
way_collected place at station = refused place station (Collect at)

way_admitted : (place at : ℕ) (station : Station) (admissions : ℕ) (limits : TenantLimits) (mark : Bool)
    → WayTo place station (Admit at limits) (is_empty station && nat_lt admissions most_admissions)
    (admitted station admissions limits mark)
way_admitted place at empty admissions limits mark = by (nat_lt admissions most_admissions)
  where
    nobody : EventAnswer × Station
    nobody = (NoMemory, empty)

    new : EventAnswer × Station
    new = (Admitted, home (opening_book limits))

    by : (b : Bool) → WayTo place empty (Admit at limits) (true && b)
        (if not b then (NotNow, empty) else if mark then nobody else new)
    by true = way_either place empty (Admit at limits) true mark nobody new (finds_none place at limits)
        (comes place at limits)
    by false = refused place empty (Admit at limits)
way_admitted place at station admissions limits mark = refused place station (Admit at limits)

way_retired : (place at : ℕ) (station : Station) → WayTo place station (Retire at) (is_home station) (retired station)
way_retired place at (home book) = leaves place at book
way_retired place at station = refused place station (Retire at)

-- whether an event fits a seat, at which one that no worker holds has no round to answer
abbrev pub fits_here : Event → Seat → Bool
fits_here (Post at command) seat = is_home seat.station && not (is_round command)
fits_here (Ask at) seat = is_home seat.station
fits_here (Take worker) seat = false
fits_here (Answer worker) seat = is_away seat.station
fits_here (Collect at) seat = is_answered seat.station
fits_here (Admit at limits) seat = is_free_seat seat
fits_here (Retire at) seat = is_home seat.station

pub way : (place : ℕ) (seat : Seat) (event : Event) (mark : Bool)
    → WayTo place seat.station event (fits_here event seat) (local seat place event mark)
way place seat (Post at command) mark = way_posted place at seat.station command mark
way place seat (Ask at) mark = way_asked place at (seat.rounds + 1) seat.station mark
way place seat (Take worker) mark = refused place seat.station (Take worker)
way place seat (Answer worker) mark = way_solved place worker seat.station mark
way place seat (Collect at) mark = way_collected place at seat.station
way place seat (Admit at limits) mark = way_admitted place at seat.station seat.admissions limits mark
way place seat (Retire at) mark = way_retired place at seat.station
