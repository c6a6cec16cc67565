-- The commands and replies of a place's tenants, one stay after the other, and the law that each may rely on.
use Rattle.std.specs.Prelude.{◌≡◌, ℕ, suc, ◌≤◌, ◌<◌, ◌==◌, Bool, true, false, List, [], ◌∷◌, ◌++◌, map, length, Option}
use Rattle.std.specs.Prelude.{Some, None, option_map, option_to_list, slice_get, take, if◌then◌else◌}
use Rattle.std.specs.List.{list_any}
use Rattle.std.specs.Option.{is_none}
use Rattle.firm_rules.specs.Limits.{TenantLimits}
use Rattle.firm_rules.specs.declared.commands.Command.{Command}
use Rattle.firm_rules.specs.declared.commands.Command.TheVariants.{Round}
use Rattle.firm_rules.specs.declared.replies.Reply.{Reply}
use Rattle.firm_tenant.specs.Step.{is_memory}
use Rattle.firm_tenant.specs.Alone.{alone_marked}
use Rattle.firm_text.specs.Rosters.{RosterRow}
use Rattle.firm_table.specs.Fitting.{is_empty}
use Rattle.firm_table.specs.Places.{Given}
use Rattle.firm_table.specs.Interleaving.{is_home, Seat, MarkedEvent, opening_table, named_place, event_answers}
use Rattle.firm_table.specs.Interleaving.{table_after}
use Rattle.firm_table.specs.declared.events.Event.{Event}
use Rattle.firm_table.specs.declared.events.Event.TheVariants.{Post, Ask, Collect, Admit, Retire}
use Rattle.firm_table.specs.declared.events.Answer.{Answer as EventAnswer}
use Rattle.firm_table.specs.declared.events.Answer.TheVariants.{Replied, Queued, Admitted, Retired}

-- a stay of a tenant at a place: the limits that it was admitted with, what it was given since, and what it replied
pub record History : Type 0 where
  pub limits : TenantLimits
  pub commands : List Command
  pub replies : List Reply

abbrev pub new_history : TenantLimits → History
new_history limits = record { limits = limits; commands = []; replies = [] }

abbrev pub commanded_once : Command → History → History
commanded_once command history = record history { commands = history.commands ++ command ∷ [] }

abbrev pub replied_once : Reply → History → History
replied_once reply history = record history { replies = history.replies ++ reply ∷ [] }

-- the history of the tenant at a place after an event there: a command that fits and a reply are added, an admission
-- begins a new history, and a retirement leaves none
abbrev pub history_here : Option History → Event → EventAnswer → Option History
history_here history (Post _ command) (Replied reply) =
    option_map (λ h. replied_once reply (commanded_once command h)) history
history_here history (Ask _) (Replied reply) = option_map (λ h. replied_once reply (commanded_once Round h)) history
history_here history (Ask _) (Queued ticket) = option_map (commanded_once Round) history
history_here history (Collect _) (Replied reply) = option_map (replied_once reply) history
history_here history (Admit _ limits) Admitted = Some (new_history limits)
history_here history (Retire _) Retired = None
history_here history event answer = history

-- the stay that an event at its place ends
abbrev pub ended_here : Option History → Event → EventAnswer → List History
ended_here history (Retire _) Retired = option_to_list history
ended_here history event answer = []

abbrev pub is_at : ℕ → Option ℕ → Bool
is_at place None = false
is_at place (Some other) = other == place

-- the history at a place after an event
abbrev pub history_with : ℕ → Option History → Event → EventAnswer → Option History
history_with place history event answer =
    if is_at place (named_place event) then history_here history event answer else history

-- and after these events
abbrev pub history_behind : ℕ → Option History → List MarkedEvent → List EventAnswer → Option History
history_behind place history [] answers = history
history_behind place history (given ∷ rest) [] = history
history_behind place history (given ∷ rest) (answer ∷ answers) =
    history_behind place (history_with place history given.0 answer) rest answers

-- the stay that an event ends at a place
abbrev pub ended_with : ℕ → Option History → Event → EventAnswer → List History
ended_with place history event answer = if is_at place (named_place event) then ended_here history event answer else []

-- and those that these events end there, in order
abbrev pub ended_behind : ℕ → Option History → List MarkedEvent → List EventAnswer → List History
ended_behind place history [] answers = []
ended_behind place history (given ∷ rest) [] = []
ended_behind place history (given ∷ rest) (answer ∷ answers) =
    ended_with place history given.0 answer
    ++ ended_behind place (history_with place history given.0 answer) rest answers

-- the history that a roster opens at a place: a row is its tenant's admission
abbrev pub opening_history : List RosterRow → ℕ → Option History
opening_history roster place = option_map (λ row. new_history row.1) (slice_get roster place)

-- the current stay at a place of a table opened for this roster, after these events
abbrev pub history_at : List RosterRow → ℕ → ℕ → List MarkedEvent → Option History
history_at roster workers place events =
    history_behind place (opening_history roster place) events (event_answers (opening_table roster workers) events)

-- the stays that have ended there
abbrev pub ended_at : List RosterRow → ℕ → ℕ → List MarkedEvent → List History
ended_at roster workers place events =
    ended_behind place (opening_history roster place) events (event_answers (opening_table roster workers) events)

-- all stays at the place, one after the other
abbrev pub stays_at : List RosterRow → ℕ → ℕ → List MarkedEvent → List History
stays_at roster workers place events =
    ended_at roster workers place events ++ option_to_list (history_at roster workers place events)

-- whether an event admits or retires a tenant
abbrev pub comes_or_goes : Event → Bool
comes_or_goes (Admit place limits) = true
comes_or_goes (Retire place) = true
comes_or_goes _ = false

-- if no tenant comes or goes, no stay has ended, and the current stays are those of the roster's rows, each at its
-- place
abbrev pub RowsStay : Type 0
RowsStay = (roster : List RosterRow) (workers place : ℕ) (events : List MarkedEvent)
    → list_any (λ given. comes_or_goes given.0) events ≡ false
    → (ended_at roster workers place events ≡ [])
    × (option_map (λ stay. stay.limits) (history_at roster workers place events)
    ≡ option_map (λ row. row.1) (slice_get roster place))

-- no stay is left out: a place has had one for each admission, and has a current one unless it is empty
abbrev pub StaysAreCounted : Type 0
StaysAreCounted = (roster : List RosterRow) (workers place : ℕ) (events : List MarkedEvent) (seat : Seat)
    → slice_get (table_after (opening_table roster workers) events).seats place ≡ Some seat
    → (length (stays_at roster workers place events) ≡ seat.admissions)
    × (is_none (history_at roster workers place events) ≡ is_empty seat.station)

-- the replies are the first ones of a tenant alone to the commands, with marks on exactly those that are refused for
-- want of memory; one more command may wait for its reply
pub record AreFirstReplies (history : History) : Type 0 where
  pub given : List Given
  pub waiting : List Command
  pub commands : history.commands ≡ map (λ g. g.0) given ++ waiting
  pub replies : history.replies ≡ alone_marked history.limits given
  pub marks : map (λ g. g.1) given ≡ map is_memory history.replies
  pub few : length waiting ≤ 1

-- for every list of events, and for each stay at every place: the replies are the first of a tenant alone that is
-- admitted with the same limits, and all of them once the stay has ended, or while the tenant is home
abbrev pub EventsKeepAlone : Type 0
EventsKeepAlone = (roster : List RosterRow) (workers place stay : ℕ) (events : List MarkedEvent) (history : History)
    → slice_get (stays_at roster workers place events) stay ≡ Some history
    → (first : AreFirstReplies history)
    × (stay < length (ended_at roster workers place events) → first.waiting ≡ [])
    × ((seat : Seat) → slice_get (table_after (opening_table roster workers) events).seats place ≡ Some seat
    → is_home seat.station ≡ true → first.waiting ≡ [])

-- two stays with the same limits, at any places of any two tables and after any events and any earlier tenants, that
-- agree on the commands up to one and on which of these are refused for want of memory, have the same reply to it, if
-- both have one
abbrev pub EventsAreIsolated : Type 0
EventsAreIsolated =
    (roster other_roster : List RosterRow) (workers other_workers place other_place stay other_stay : ℕ)
    (events other_events : List MarkedEvent) (history other : History)
    → slice_get (stays_at roster workers place events) stay ≡ Some history
    → slice_get (stays_at other_roster other_workers other_place other_events) other_stay ≡ Some other
    → history.limits ≡ other.limits → (k : ℕ) (reply other_reply : Reply)
    → take (suc k) history.commands ≡ take (suc k) other.commands
    → take (suc k) (map is_memory history.replies) ≡ take (suc k) (map is_memory other.replies)
    → slice_get history.replies k ≡ Some reply → slice_get other.replies k ≡ Some other_reply → reply ≡ other_reply
