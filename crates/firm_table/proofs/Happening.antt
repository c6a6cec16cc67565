-- Each event is answered `NotNow` exactly where it does not fit, and the table stays sound.
use Rattle.std.proofs.Common.{◌≡◌, ℕ, zero, suc, ◌+◌, List, [], ◌∷◌, ◌++◌, refl, sym, ap, subst, ◌∙◌, append-nil}
use Rattle.std.proofs.Common.{get_or, arith}
use Rattle.std.specs.Prelude.{◌&&◌, not, Bool, true, false, Option, Some, None, slice_get, slice_set}
use Rattle.std.specs.Prelude.{if◌then◌else◌, ◌↔◌}
use Rattle.std.specs.List.{position}
use Rattle.std.specs.Option.{is_some}
use Rattle.std.proofs.lemmas.List.Quantifiers.{position-Some}
use Rattle.std.proofs.lemmas.Option.{slice_get-get_or}
use Rattle.firm_rules.specs.declared.tickets.Ticket.{Ticket}
use Rattle.firm_table.specs.Interleaving.{Station, Seat, TableState, taken_by, is_held, local, seat_behind, at_place}
use Rattle.firm_table.specs.Interleaving.{place_held, taking, take_front, may_take, at_event, happens, queue_more}
use Rattle.firm_table.specs.Interleaving.{rounds_more, admissions_more}
use Rattle.firm_table.specs.Fitting.{stands, has_waiting, fits, asks}
use Rattle.firm_table.specs.inner.Tables.{IsSound}
use Rattle.firm_table.specs.inner.Events.{IsDone}
use Rattle.firm_table.specs.declared.events.Event.{Event}
use Rattle.firm_table.specs.declared.events.Event.TheVariants.{Post, Ask, Take, Answer, Collect, Admit, Retire}
use Rattle.firm_table.specs.declared.events.Answer.{Answer as EventAnswer}
use Rattle.firm_table.specs.declared.events.Answer.TheVariants.{Took, NoMemory, NotNow}
use Rattle.firm_table.proofs.Waiting.{adds_way, sound_at, IsFront, front, sound_taken}
use Rattle.firm_table.proofs.Ways.{Way, WayTo, refused, finds_none, away_of, fits_here, way}

-- whether an event was refused
abbrev is_not_now : EventAnswer → Bool
is_not_now NotNow = true
is_not_now _ = false

-- whether an answer reports a change
abbrev tells_change : EventAnswer → Bool
tells_change NoMemory = false
tells_change NotNow = false
tells_change _ = true

-- one that does not adds nothing
record AddsNothing (answer : EventAnswer) : Type 0 where
  pub rounds : rounds_more answer ≡ 0
  pub admissions : admissions_more answer ≡ 0
  pub queue : queue_more answer ≡ []

adds_nothing : (answer : EventAnswer) → tells_change answer ≡ false → AddsNothing answer
adds_nothing NoMemory e = record { rounds = refl; admissions = refl; queue = refl }
adds_nothing NotNow e = record { rounds = refl; admissions = refl; queue = refl }
adds_nothing _ e = cc

-- the first that passes a test
pub record IsAt {X : Type 0} (p : X → Bool) (xs : List X) (place : ℕ) : Type 0 where
  pub item : X
  pub here : slice_get xs place ≡ Some item
  pub passes : p item ≡ true

pub at_position : {X : Type 0} (p : X → Bool) (xs : List X) (place : ℕ) → position p xs ≡ Some place → IsAt p xs place
at_position p [] place e = cc
at_position p (x ∷ xs) place e =
    let at = position-Some p (x ∷ xs) place x e in
    record {
      item = get_or (x ∷ xs) place x;
      here = slice_get-get_or (x ∷ xs) place x at.0;
      passes = at.1;
    }

-- an event that fits gets another answer, and a place is unchanged if the answer reports no change
refused_way : (place : ℕ) (station : Station) (event : Event) (fit : Bool) (answer : EventAnswer) (after : Station)
    → Way place station event fit answer after → is_not_now answer ≡ not fit
refused_way place station event fit answer after (refused _ _ _) = refl
refused_way place station event fit answer after _ = refl

kept_way : (place : ℕ) (station : Station) (event : Event) (fit : Bool) (answer : EventAnswer) (after : Station)
    → Way place station event fit answer after → tells_change answer ≡ false → after ≡ station
kept_way place station event fit answer after (refused _ _ _) e = refl
kept_way place station event fit answer after (finds_none _ _ _) e = refl
kept_way place station event fit answer after _ e = cc

-- a table is unchanged if the answer reports no change, and sound
pub record Goes (table : TableState) (fit : Bool) (outcome : EventAnswer × TableState) : Type 0 where
  pub refused : is_not_now outcome.0 ≡ not fit
  pub kept : tells_change outcome.0 ≡ false → outcome.1 ≡ table
  pub sound : IsSound outcome.1

goes_nowhere : (table : TableState) → IsSound table → Goes table false (NotNow, table)
goes_nowhere table sound = record { refused = refl; kept = λ e. refl; sound = sound }

same_seat : (seats : List Seat) (place : ℕ) (seat : Seat) → slice_get seats place ≡ Some seat
    → slice_set seats place seat ≡ seats
same_seat [] place seat e = cc
same_seat (first ∷ rest) zero seat e = cc
same_seat (first ∷ rest) (suc place) seat e = ap (λ (seats : List Seat). first ∷ seats) (same_seat rest place seat e)

none_added : (seat : Seat) (answer : EventAnswer) (station : Station) → AddsNothing answer → station ≡ seat.station
    → seat_behind seat (answer, station) ≡ seat
none_added seat answer station adds same =
    let rounds : seat.rounds + rounds_more answer ≡ seat.rounds = omega (arith, adds.rounds) in
    let admissions : seat.admissions + admissions_more answer ≡ seat.admissions = omega (arith, adds.admissions) in
    ap (λ (there : Station). seat_behind seat (answer, there)) same
    ∙ ap (λ (n : ℕ). let so : Seat =
    record seat { rounds = n; admissions = seat.admissions + admissions_more answer } in so) rounds
    ∙ ap (λ (n : ℕ). let so : Seat = record seat { admissions = n } in so) admissions

goes_at : (table : TableState) (place : ℕ) (seat : Seat) (event : Event) (mark fit : Bool) → IsSound table
    → slice_get table.seats place ≡ Some seat
    → WayTo place seat.station event fit (local seat place event mark)
    → Goes table fit (at_place table place (Some seat) event mark)
goes_at table place seat event mark fit sound here goes =
    let outcome : EventAnswer × Station = local seat place event mark in
    record {
      refused = refused_way place seat.station event fit outcome.0 outcome.1 goes;
      kept = λ e.
          let adds : AddsNothing outcome.0 = adds_nothing outcome.0 e in
          let same = kept_way place seat.station event fit outcome.0 outcome.1 goes e in
          let seats_are : slice_set table.seats place (seat_behind seat outcome) ≡ table.seats =
          ap (slice_set table.seats place) (none_added seat outcome.0 outcome.1 adds same)
          ∙ same_seat table.seats place seat here in
          let queue_is : table.queue ++ queue_more outcome.0 ≡ table.queue =
          ap (λ (more : List Ticket). table.queue ++ more) adds.queue ∙ append-nil table.queue in
          ap (λ (seats : List Seat). let t : TableState =
          record table { seats = seats; queue = table.queue ++ queue_more outcome.0 } in t) seats_are
          ∙ ap (λ (queue : List Ticket). let t : TableState = record table { queue = queue } in t) queue_is;
      sound = sound_at table place seat outcome sound here
          (adds_way place seat.station event fit outcome.0 outcome.1 goes);
    }

goes_found : (table : TableState) (place : ℕ) (found : Option Seat) (event : Event) (mark : Bool) → IsSound table
    → slice_get table.seats place ≡ found
    → Goes table (stands (fits_here event) found) (at_place table place found event mark)
goes_found table place None event mark sound here = goes_nowhere table sound
goes_found table place (Some seat) event mark sound here =
    goes_at table place seat event mark (fits_here event seat) sound here (way place seat event mark)

-- a worker that holds the tenant solves its round
goes_answering : (table : TableState) (worker : ℕ) (mark : Bool) (found : Option ℕ) → IsSound table
    → place_held worker table.seats ≡ found
    → Goes table (is_some found) (at_event table found (Answer worker) mark)
goes_answering table worker mark None sound is = goes_nowhere table sound
goes_answering table worker mark (Some place) sound is =
    let at = at_position (λ (seat : Seat). is_held worker seat.station) table.seats place is in
    let goes : WayTo place at.item.station (Answer worker) true (local at.item place (Answer worker) mark) =
    subst (λ (b : Bool). WayTo place at.item.station (Answer worker) b (local at.item place (Answer worker) mark))
    (away_of worker at.item.station at.passes) (way place at.item (Answer worker) mark) in
    subst (λ (found : Option Seat). Goes table true (at_place table place found (Answer worker) mark)) (sym at.here)
    (goes_at table place at.item (Answer worker) mark true sound at.here goes)

-- the front of the queue is taken
pub taken_is : (table : TableState) (worker : ℕ) (ticket : Ticket) (rest : List Ticket)
    (is_front : IsFront table ticket rest)
    → take_front table worker (ticket ∷ rest)
    ≡ (
      Took ticket,
      record table {
        seats = slice_set table.seats ticket.place
            (record is_front.seat { station = taken_by worker is_front.seat.station });
        queue = rest;
      },
    )
taken_is table worker ticket rest is_front = ap (taking table worker ticket rest) is_front.here

goes_front : (table : TableState) (worker : ℕ) (queue : List Ticket) → IsSound table → table.queue ≡ queue
    → Goes table (has_waiting queue) (take_front table worker queue)
goes_front table worker [] sound is = goes_nowhere table sound
goes_front table worker (ticket ∷ rest) sound is =
    let is_front = front table ticket rest sound is in
    subst (Goes table true) (sym (taken_is table worker ticket rest is_front))
    (record { refused = refl; kept = λ e. cc; sound = sound_taken table ticket rest worker is_front sound is })

goes_take : (table : TableState) (worker : ℕ) (may : Bool) → IsSound table
    → Goes table (may && has_waiting table.queue) (if may then take_front table worker table.queue else (NotNow, table))
goes_take table worker true sound = goes_front table worker table.queue sound refl
goes_take table worker false sound = goes_nowhere table sound

pub goes : (table : TableState) (event : Event) (mark : Bool) → IsSound table
    → Goes table (fits table event) (happens table (event, mark))
goes table (Take worker) mark sound = goes_take table worker (may_take table worker) sound
goes table (Answer worker) mark sound = goes_answering table worker mark (place_held worker table.seats) sound refl
goes table (Post place command) mark sound =
    goes_found table place (slice_get table.seats place) (Post place command) mark sound refl
goes table (Ask place) mark sound = goes_found table place (slice_get table.seats place) (Ask place) mark sound refl
goes table (Collect place) mark sound =
    goes_found table place (slice_get table.seats place) (Collect place) mark sound refl
goes table (Admit place limits) mark sound =
    goes_found table place (slice_get table.seats place) (Admit place limits) mark sound refl
goes table (Retire place) mark sound =
    goes_found table place (slice_get table.seats place) (Retire place) mark sound refl

told_not_now : (answer : EventAnswer) → is_not_now answer ≡ true → answer ≡ NotNow
told_not_now NotNow e = refl
told_not_now _ e = cc

not_fit : (answer : EventAnswer) (fit : Bool) → is_not_now answer ≡ not fit → (answer ≡ NotNow) ↔ (fit ≡ false)
not_fit answer true e = (λ f. let b : is_not_now answer ≡ true = ap is_not_now f in cc, λ f. cc)
not_fit answer false e = (λ f. refl, λ f. told_not_now answer e)

-- what the code did is what was defined
pub done : (table : TableState) (event : Event) (mark : Bool) (answer : EventAnswer) (after : TableState)
    → IsSound table
    → (asks event ≡ true → mark ≡ false) → (answer, after) ≡ happens table (event, mark)
    → IsDone table event answer after
done table event mark answer after sound asked_so is =
    let way = goes table event mark sound in
    let answer_is : answer ≡ (happens table (event, mark)).0 = ap (λ (p : EventAnswer × TableState). p.0) is in
    let after_is : after ≡ (happens table (event, mark)).1 = ap (λ (p : EventAnswer × TableState). p.1) is in
    record {
      stepped = record { mark = mark; asked = asked_so; happened = is };
      not_now = not_fit answer (fits table event) (ap is_not_now answer_is ∙ way.refused);
      unchanged = λ e. after_is ∙ way.kept (ap tells_change (sym answer_is ∙ e));
      no_memory = λ e. after_is ∙ way.kept (ap tells_change (sym answer_is ∙ e));
    }

pub still_sound : (table : TableState) (event : Event) (mark : Bool) (answer : EventAnswer) (after : TableState)
    → IsSound table
    → (answer, after) ≡ happens table (event, mark) → IsSound after
still_sound table event mark answer after sound is =
    subst IsSound (sym (ap (λ (p : EventAnswer × TableState). p.1) is)) (goes table event mark sound).sound
