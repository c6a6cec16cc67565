-- Every list of events keeps each place in step with a tenant alone.
use Rattle.std.proofs.Common.{◌≡◌, ℕ, zero, suc, ◌<◌, List, [], ◌∷◌, ◌++◌, length, refl, sym, ap, subst, ◌∙◌}
use Rattle.std.proofs.Common.{append-nil, length-append, arith}
use Rattle.std.specs.Prelude.{◌==◌, ◌-◌, Bool, true, false, Option, Some, None, map, replicate, option_to_list}
use Rattle.std.specs.Prelude.{slice_get, slice_set, if◌then◌else◌}
use Rattle.std.proofs.lemmas.Bool.{eqb-true, true_from_ne_false}
use Rattle.std.proofs.lemmas.List.{append_assoc}
use Rattle.std.proofs.Math.Dec.{eqb_refl, eqb-suc-suc}
use Rattle.firm_tenant.specs.Laws.{RepliesTellTheirMarks}
use Rattle.firm_text.specs.Rosters.{RosterRow, most_places}
use Rattle.firm_table.specs.Interleaving.{is_home, Seat, TableState, MarkedEvent, opening_seat, unused_seat}
use Rattle.firm_table.specs.Interleaving.{opening_table, taken_by, local, seat_behind, at_place, place_held, taking}
use Rattle.firm_table.specs.Interleaving.{take_front, may_take, at_event, happens, event_answers, table_after}
use Rattle.firm_table.specs.Histories.{History, history_here, ended_here, history_with}
use Rattle.firm_table.specs.Histories.{history_behind, ended_with, ended_behind, opening_history, history_at, ended_at}
use Rattle.firm_table.specs.Histories.{AreFirstReplies, StaysAreCounted, EventsKeepAlone}
use Rattle.firm_table.specs.declared.events.Event.{Event}
use Rattle.firm_table.specs.declared.events.Event.TheVariants.{Post, Ask, Take, Answer, Collect, Admit, Retire}
use Rattle.firm_table.specs.declared.events.Answer.{Answer as EventAnswer}
use Rattle.firm_table.specs.declared.events.Answer.TheVariants.{NotNow}
use Rattle.firm_rules.specs.declared.tickets.Ticket.{Ticket}
use Rattle.firm_table.proofs.Stations.{Fits, nothing_past, here_not_now, ended_not_now}
use Rattle.firm_table.proofs.Kept.{HaveAll, have_none, said_of, IsKept, kept_local, kept_taken, stands_there}

-- two places are one or differ
pub data Places : ℕ → ℕ → Type 0 where
  one : (place : ℕ) → Places place place
  two : (place other : ℕ) → (place == other) ≡ false → Places place other

pub places : (place other : ℕ) → Places place other
places place other = elim (place == other) as (λ b. (place == other) ≡ b → Places place other) [
  | true ↦ λ e. rw (eqb-true place other e) (one other)
  | false ↦ λ e. two place other e
] refl

pub eq_itself : (place : ℕ) → (place == place) ≡ true
eq_itself place = true_from_ne_false (place == place) (λ f. rw f at (eqb_refl place))

pub set_here : (seats : List Seat) (place : ℕ) (seat new : Seat) → slice_get seats place ≡ Some seat
    → slice_get (slice_set seats place new) place ≡ Some new
set_here [] place seat new e = cc
set_here (first ∷ rest) zero seat new e = refl
set_here (first ∷ rest) (suc place) seat new e = set_here rest place seat new e

pub set_there : (seats : List Seat) (place other : ℕ) (new : Seat) → (place == other) ≡ false
    → slice_get (slice_set seats place new) other ≡ slice_get seats other
set_there [] place other new e = refl
set_there (first ∷ rest) zero zero new e = cc
set_there (first ∷ rest) zero (suc other) new e = refl
set_there (first ∷ rest) (suc place) zero new e = refl
set_there (first ∷ rest) (suc place) (suc other) new e =
    set_there rest place other new (sym (eqb-suc-suc place other) ∙ e)

-- what stands at a place, if it is one of the table's, keeps its stays
abbrev KeptSeat : List History → Option History → Option Seat → Type 0
KeptSeat ended history None = (history ≡ None) × HaveAll ended
KeptSeat ended history (Some seat) = IsKept ended history seat

abbrev KeptAt : ℕ → List History → Option History → List Seat → Type 0
KeptAt place ended history seats = KeptSeat ended history (slice_get seats place)

-- no stay more has ended
none_more : (ended : List History) (history : Option History) (found : Option Seat) → KeptSeat ended history found
    → KeptSeat (ended ++ []) history found
none_more ended history found kept =
    subst (λ (stays : List History). KeptSeat stays history found) (sym (append-nil ended)) kept

if_same : {X : Type 0} (b : Bool) (x y : X) → x ≡ y → (if b then x else y) ≡ y
if_same true x y e = e
if_same false x y e = refl

-- an event at a place, by whether that is this place
keeps_at : RepliesTellTheirMarks → (place other : ℕ) (ended : List History) (history : Option History)
    (table : TableState) (found : Option Seat) (event : Event) (mark : Bool)
    → slice_get table.seats other ≡ found → Places other place → KeptAt place ended history table.seats
    → let answer = (at_place table other found event mark).0 in
    KeptAt place (ended ++ (if other == place then ended_here history event answer else []))
    (if other == place then history_here history event answer else history)
    (at_place table other found event mark).1.seats
keeps_at told place other ended history table None event mark here which kept =
    let same = here_not_now history event in
    let none = ended_not_now history event in
    subst (λ (stays : List History). KeptAt place (ended ++ stays)
    (if other == place then history_here history event NotNow else history) table.seats)
    (sym (if_same (other == place) (ended_here history event NotNow) [] none))
    (subst (λ (h : Option History). KeptAt place (ended ++ []) h table.seats)
    (sym (if_same (other == place) (history_here history event NotNow) history same))
    (none_more ended history (slice_get table.seats place) kept))
keeps_at told place other ended history table (Some seat) event mark here (one _) kept =
    let after = local seat place event mark in
    let was : IsKept ended history seat = rw here at kept in
    rw (eq_itself place)
    (subst (KeptSeat (ended ++ ended_here history event after.0) (history_here history event after.0))
    (sym (set_here table.seats place seat (seat_behind seat after) here))
    (kept_local told ended history seat place event mark was))
keeps_at told place other ended history table (Some seat) event mark here (two _ _ apart) kept =
    rw apart
    (subst (KeptSeat (ended ++ []) history)
    (sym (set_there table.seats other place (seat_behind seat (local seat other event mark)) apart))
    (none_more ended history (slice_get table.seats place) kept))

-- a worker's answer, which adds nothing
keeps_answering : RepliesTellTheirMarks → (place worker : ℕ) (ended : List History) (history : Option History)
    (table : TableState) (holding : Option ℕ) (mark : Bool)
    → KeptAt place ended history table.seats
    → KeptAt place (ended ++ []) history (at_event table holding (Answer worker) mark).1.seats
keeps_answering told place worker ended history table None mark kept =
    none_more ended history (slice_get table.seats place) kept
keeps_answering told place worker ended history table (Some other) mark kept =
    let after = (at_event table (Some other) (Answer worker) mark).1 in
    subst (λ (stays : List History). KeptAt place (ended ++ stays) history after.seats)
    (if_same (other == place) [] [] refl)
    (subst (λ (h : Option History). KeptAt place (ended ++ (if other == place then [] else [])) h after.seats)
    (if_same (other == place) history history refl)
    (keeps_at told place other ended history table (slice_get table.seats other) (Answer worker) mark refl
    (places other place) kept))

-- a worker takes the front
keeps_taking : (place worker : ℕ) (ended : List History) (history : Option History) (table : TableState)
    (ticket : Ticket) (rest : List Ticket) (found : Option Seat)
    → slice_get table.seats ticket.place ≡ found → Places ticket.place place → KeptAt place ended history table.seats
    → KeptAt place ended history (taking table worker ticket rest found).1.seats
keeps_taking place worker ended history table ticket rest None here which kept = kept
keeps_taking place worker ended history table ticket rest (Some seat) here which kept = taken ticket.place which here
  where
    new : Seat
    new = record seat { station = taken_by worker seat.station }

    taken : (other : ℕ) → Places other place → slice_get table.seats other ≡ Some seat
        → KeptAt place ended history (slice_set table.seats other new)
    taken other (one _) found =
        let was : IsKept ended history seat = rw found at kept in
        subst (KeptSeat ended history) (sym (set_here table.seats place seat new found))
        (kept_taken ended history seat worker was)
    taken other (two _ _ apart) found =
        subst (KeptSeat ended history) (sym (set_there table.seats other place new apart)) kept

keeps_front : (place worker : ℕ) (ended : List History) (history : Option History) (table : TableState)
    (queue : List Ticket) → KeptAt place ended history table.seats
    → KeptAt place ended history (take_front table worker queue).1.seats
keeps_front place worker ended history table [] kept = kept
keeps_front place worker ended history table (ticket ∷ rest) kept =
    keeps_taking place worker ended history table ticket rest (slice_get table.seats ticket.place) refl
    (places ticket.place place) kept

keeps_either : (place : ℕ) (ended : List History) (history : Option History) (b : Bool) (x y : EventAnswer × TableState)
    → KeptAt place ended history x.1.seats
    → KeptAt place ended history y.1.seats → KeptAt place ended history (if b then x else y).1.seats
keeps_either place ended history true x y p q = p
keeps_either place ended history false x y p q = q

keeps_happens : RepliesTellTheirMarks → (place : ℕ) (ended : List History) (history : Option History)
    (table : TableState) (given : MarkedEvent)
    → KeptAt place ended history table.seats
    → let answer = (happens table given).0 in
    KeptAt place (ended ++ ended_with place history given.0 answer) (history_with place history given.0 answer)
    (happens table given).1.seats
keeps_happens told place ended history table (Take worker, mark) kept =
    let same = none_more ended history (slice_get table.seats place) kept in
    keeps_either place (ended ++ []) history (may_take table worker) (take_front table worker table.queue)
    (NotNow, table)
    (keeps_front place worker (ended ++ []) history table table.queue same) same
keeps_happens told place ended history table (Answer worker, mark) kept =
    keeps_answering told place worker ended history table (place_held worker table.seats) mark kept
keeps_happens told place ended history table (Post other command, mark) kept =
    keeps_at told place other ended history table (slice_get table.seats other) (Post other command) mark refl
    (places other place) kept
keeps_happens told place ended history table (Ask other, mark) kept =
    keeps_at told place other ended history table (slice_get table.seats other) (Ask other) mark refl
    (places other place) kept
keeps_happens told place ended history table (Collect other, mark) kept =
    keeps_at told place other ended history table (slice_get table.seats other) (Collect other) mark refl
    (places other place) kept
keeps_happens told place ended history table (Admit other limits, mark) kept =
    keeps_at told place other ended history table (slice_get table.seats other) (Admit other limits) mark refl
    (places other place) kept
keeps_happens told place ended history table (Retire other, mark) kept =
    keeps_at told place other ended history table (slice_get table.seats other) (Retire other) mark refl
    (places other place) kept

keeps_behind : RepliesTellTheirMarks → (place : ℕ) (ended : List History) (history : Option History)
    (table : TableState) (events : List MarkedEvent)
    → KeptAt place ended history table.seats → let answers = event_answers table events in
    KeptAt place (ended ++ ended_behind place history events answers) (history_behind place history events answers)
    (table_after table events).seats
keeps_behind told place ended history table [] kept = none_more ended history (slice_get table.seats place) kept
keeps_behind told place ended history table (given ∷ rest) kept =
    let answer = (happens table given).0 in
    let now : List History = ended_with place history given.0 answer in
    let after : Option History = history_with place history given.0 answer in
    let later : List History = ended_behind place after rest (event_answers (happens table given).1 rest) in
    subst (λ (stays : List History). KeptAt place stays
    (history_behind place after rest (event_answers (happens table given).1 rest))
    (table_after (happens table given).1 rest).seats) (append_assoc ended now later)
    (keeps_behind told place (ended ++ now) after (happens table given).1 rest
    (keeps_happens told place ended history table given kept))

-- before the first event
keeps_unused : (n place : ℕ) → KeptSeat [] None (slice_get (replicate n unused_seat) place)
keeps_unused zero place = (refl, have_none)
keeps_unused (suc n) zero = record { fits = tt; all = have_none; counted = refl }
keeps_unused (suc n) (suc place) = keeps_unused n place

keeps_opening : (roster : List RosterRow) (n place : ℕ)
    → KeptSeat [] (opening_history roster place) (slice_get (map opening_seat roster ++ replicate n unused_seat) place)
keeps_opening [] n place = keeps_unused n place
keeps_opening (row ∷ rest) n zero = record { fits = nothing_past row.1; all = have_none; counted = refl }
keeps_opening (row ∷ rest) n (suc place) = keeps_opening rest n place

keeps_all : RepliesTellTheirMarks → (roster : List RosterRow) (workers place : ℕ) (events : List MarkedEvent)
    → KeptAt place (ended_at roster workers place events) (history_at roster workers place events)
    (table_after (opening_table roster workers) events).seats
keeps_all told roster workers place events =
    keeps_behind told place [] (opening_history roster place) (opening_table roster workers) events
    (keeps_opening roster (most_places - length roster) place)

-- the claim about the stay at a place
abbrev SaidAt : Option History → Option Seat → Type 0
SaidAt here found = (history : History) → here ≡ Some history
    → (first : AreFirstReplies history) × ((seat : Seat) → found ≡ Some seat → is_home seat.station ≡ true
    → first.waiting ≡ [])

said_at : (ended : List History) (here : Option History) (found : Option Seat) → KeptSeat ended here found
    → SaidAt here found
said_at ended here None kept history e = absurd (let none : Some history ≡ None = sym e ∙ kept.0 in cc)
said_at ended here (Some there) kept history e =
    let said = said_of history there.station (subst (λ (h : Option History). Fits h there.station) e kept.fits) in (
      said.0,
      λ seat f home_is. said.1 (let same : there ≡ seat =
          cc in ap (λ (s : Seat). is_home s.station) same ∙ home_is),
    )

have_all : (ended : List History) (here : Option History) (found : Option Seat) → KeptSeat ended here found
    → HaveAll ended
have_all ended here None kept = kept.1
have_all ended here (Some there) kept = kept.all

-- a stay that has ended, or the one that stands
keeps_alone : (ended : List History) (here : Option History) (found : Option Seat) (stay : ℕ) (history : History)
    → HaveAll ended → SaidAt here found
    → slice_get (ended ++ option_to_list here) stay ≡ Some history
    → (first : AreFirstReplies history) × (stay < length ended → first.waiting ≡ [])
    × ((seat : Seat) → found ≡ Some seat → is_home seat.station ≡ true → first.waiting ≡ [])
keeps_alone [] None found stay history all said e = cc
keeps_alone [] (Some here) found zero history all said e =
    let last = said history (let same : here ≡ history = cc in ap (λ (h : History). Some h) same) in
    (last.0, λ none. absurd (omega (arith, none)), last.1)
keeps_alone [] (Some here) found (suc stay) history all said e = cc
keeps_alone (first ∷ ended) here found zero history all said e =
    let whole = all zero history e in
    (whole.0, λ over. whole.1, λ seat there is_home. whole.1)
keeps_alone (first ∷ ended) here found (suc stay) history all said e =
    let behind = keeps_alone ended here found stay history (λ n. all (suc n)) said e in
    (behind.0, λ over. behind.1 (let fewer : suc stay < suc (length ended) = over in omega (arith, fewer)), behind.2)

pub events_keep_alone : RepliesTellTheirMarks → EventsKeepAlone
events_keep_alone told roster workers place stay events history is =
    let ended : List History = ended_at roster workers place events in
    let here : Option History = history_at roster workers place events in
    let found : Option Seat = slice_get (table_after (opening_table roster workers) events).seats place in
    let kept : KeptSeat ended here found = keeps_all told roster workers place events in
    keeps_alone ended here found stay history (have_all ended here found kept) (said_at ended here found kept) is

pub stays_are_counted : RepliesTellTheirMarks → StaysAreCounted
stays_are_counted told roster workers place events seat there =
    let ended : List History = ended_at roster workers place events in
    let here : Option History = history_at roster workers place events in
    let kept : IsKept ended here seat =
    subst (KeptSeat ended here) there (keeps_all told roster workers place events) in
    (length-append ended (option_to_list here) ∙ kept.counted, stands_there here seat.station kept.fits)
