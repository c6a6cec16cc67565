-- A place keeps its stays: those that have ended, one after the other, and the one that stands.
use Rattle.std.proofs.Common.{◌≡◌, ℕ, zero, suc, ◌+◌, List, [], ◌∷◌, ◌++◌, length, refl, sym, ap, subst, ◌∙◌}
use Rattle.std.proofs.Common.{append-nil, length-append, arith}
use Rattle.std.specs.Prelude.{Bool, true, false, Option, Some, None, option_map, option_to_list, slice_get}
use Rattle.std.specs.Option.{is_none}
use Rattle.firm_rules.specs.Book.{Book}
use Rattle.firm_rules.specs.declared.commands.Command.{Command}
use Rattle.firm_rules.specs.declared.commands.Command.TheVariants.{Round}
use Rattle.firm_tenant.specs.Laws.{RepliesTellTheirMarks}
use Rattle.firm_tenant.specs.Step.{step}
use Rattle.firm_table.specs.Fitting.{is_empty}
use Rattle.firm_table.specs.Interleaving.{Station, empty, is_home, home, queued, held, answered, Seat}
use Rattle.firm_table.specs.Interleaving.{taken_by, admissions_more, local, seat_behind}
use Rattle.firm_table.specs.Histories.{History, commanded_once, replied_once, history_here, ended_here, AreFirstReplies}
use Rattle.firm_table.specs.declared.events.Event.{Event}
use Rattle.firm_table.specs.declared.events.Answer.{Answer as EventAnswer}
use Rattle.firm_table.specs.declared.events.Answer.TheVariants.{NotNow}
use Rattle.firm_table.proofs.Stations.{Waits, Fits, fits_way, fits_taken, here_not_now, ended_not_now}
use Rattle.firm_table.proofs.Ways.{Way, refused, posts, declines, queues, returns, comes, leaves, fits_here, way}

-- what the history of a place is
abbrev pub Said : History → Station → Type 0
Said history station = (first : AreFirstReplies history) × (is_home station ≡ true → first.waiting ≡ [])

waiting_one : (history : History) (book : Book) (station : Station) → is_home station ≡ false → Waits history book
    → Said history station
waiting_one history book station away waits = (
  record {
    given = waits.past.given;
    waiting = Round ∷ [];
    commands = waits.last ∙ ap (λ (cs : List Command). cs ++ Round ∷ []) waits.past.commands_are;
    replies = waits.past.replies_are;
    marks = waits.past.marks;
    few = omega arith;
  },
  λ home_is. cc,
)

pub said_of : (history : History) (station : Station) → Fits (Some history) station → Said history station
said_of history empty fits = absurd fits
said_of history (home book) fits = (
  record {
    given = fits.given;
    waiting = [];
    commands = fits.commands_are ∙ sym (append-nil _);
    replies = fits.replies_are;
    marks = fits.marks;
    few = omega arith;
  },
  λ home_is. refl,
)
said_of history (queued book ticket) fits = waiting_one history book (queued book ticket) refl fits
said_of history (held book ticket worker) fits = waiting_one history book (held book ticket worker) refl fits
said_of history (answered book reply) fits = waiting_one history fits.book (answered book reply) refl fits.waits

-- a stay got all of its replies
abbrev pub HasAll : History → Type 0
HasAll history = (first : AreFirstReplies history) × (first.waiting ≡ [])

abbrev pub HaveAll : List History → Type 0
HaveAll histories = (stay : ℕ) (history : History) → slice_get histories stay ≡ Some history → HasAll history

pub have_none : HaveAll []
have_none stay history e = cc

have_all_append : (first then_these : List History) → HaveAll first → HaveAll then_these → HaveAll (first ++ then_these)
have_all_append [] then_these all more stay found e = more stay found e
have_all_append (history ∷ first) then_these all more zero found e = all zero found e
have_all_append (history ∷ first) then_these all more (suc stay) found e =
    have_all_append first then_these (λ n. all (suc n)) more stay found e

-- a tenant that leaves was home
ends_way : (history : Option History) (place : ℕ) (station : Station) (event : Event) (fit : Bool)
    (answer : EventAnswer) (after : Station) → Way place station event fit answer after → Fits history station
    → HaveAll (ended_here history event answer)
ends_way history place station event fit answer after (refused _ _ _) fits =
    subst HaveAll (sym (ended_not_now history event)) have_none
ends_way (Some past) place station event fit answer after (leaves _ _ book) fits = left
  where
    said : Said past (home book)
    said = said_of past (home book) fits

    left : HaveAll (past ∷ [])
    left zero found e = subst HasAll (let same : past ≡ found = cc in same) (said.0, said.1 refl)
    left (suc stay) found e = cc
ends_way history place station event fit answer after _ fits = have_none

-- how many stand at a place
abbrev standing : Option History → ℕ
standing history = length (option_to_list history)

-- an answer adds to the stays what it adds to the count of admissions
abbrev CountsOn : Option History → Event → EventAnswer → Type 0
CountsOn history event answer =
    length (ended_here history event answer) + standing (history_here history event answer) ≡ standing history
    + admissions_more answer

same : (n : ℕ) → 0 + n ≡ n + 0
same n = omega arith

-- a stay that goes on
goes_on : (change : History → History) (history : Option History) → 0 + standing (option_map change history)
    ≡ standing history + 0
goes_on change None = same 0
goes_on change (Some history) = same 1

counts_way : (history : Option History) (place : ℕ) (station : Station) (event : Event) (fit : Bool)
    (answer : EventAnswer) (after : Station) → Way place station event fit answer after → Fits history station
    → CountsOn history event answer
counts_way history place station event fit answer after (refused _ _ _) fits =
    subst (λ (h : Option History). length (ended_here history event NotNow) + standing h ≡ standing history + 0)
    (sym (here_not_now history event))
    (subst (λ (ended : List History). length ended + standing history ≡ standing history + 0)
    (sym (ended_not_now history event)) (same (standing history)))
counts_way history place station event fit answer after (posts _ _ book command mark) fits =
    goes_on (λ h. replied_once (step book command mark).0 (commanded_once command h)) history
counts_way history place station event fit answer after (declines _ _ book mark) fits =
    goes_on (λ h. replied_once (step book Round mark).0 (commanded_once Round h)) history
counts_way history place station event fit answer after (queues _ _ _ _) fits = goes_on (commanded_once Round) history
counts_way history place station event fit answer after (returns _ _ book reply) fits =
    goes_on (replied_once reply) history
counts_way None place station event fit answer after (comes _ _ _) fits = refl
counts_way (Some history) place station event fit answer after (comes _ _ _) fits = absurd fits
counts_way None place station event fit answer after (leaves _ _ _) fits = absurd fits
counts_way (Some history) place station event fit answer after (leaves _ _ _) fits = refl
counts_way history place station event fit answer after _ fits = same (standing history)

-- the stays that have ended got all of their replies, the one that stands made what stands at the seat, and they are as
-- many as its admissions
pub record IsKept (ended : List History) (history : Option History) (seat : Seat) : Type 0 where
  pub fits : Fits history seat.station
  pub all : HaveAll ended
  pub counted : length ended + length (option_to_list history) ≡ seat.admissions

-- and so they are behind an event there
pub kept_local : RepliesTellTheirMarks → (ended : List History) (history : Option History) (seat : Seat) (place : ℕ)
    (event : Event) (mark : Bool) → IsKept ended history seat
    → let after = local seat place event mark in
    IsKept (ended ++ ended_here history event after.0) (history_here history event after.0) (seat_behind seat after)
kept_local told ended history seat place event mark kept =
    let after : EventAnswer × Station = local seat place event mark in
    let more : List History = ended_here history event after.0 in
    let long = length-append ended more in
    let goes = way place seat event mark in
    let fit = fits_here event seat in
    let on = counts_way history place seat.station event fit after.0 after.1 goes kept.fits in
    record {
      fits = fits_way told history place seat.station event fit after.0 after.1 goes kept.fits;
      all = have_all_append ended more kept.all
          (ends_way history place seat.station event fit after.0 after.1 goes kept.fits);
      counted = omega (arith, long, on, kept.counted);
    }

pub kept_taken : (ended : List History) (history : Option History) (seat : Seat) (worker : ℕ)
    → IsKept ended history seat
    → IsKept ended history (record seat { station = taken_by worker seat.station })
kept_taken ended history seat worker kept = record {
  fits = fits_taken history seat.station worker kept.fits;
  all = kept.all;
  counted = kept.counted;
}

-- a stay stands where somebody is
pub stands_there : (history : Option History) (station : Station) → Fits history station
    → is_none history ≡ is_empty station
stands_there None empty fits = refl
stands_there (Some history) empty fits = absurd fits
stands_there None _ fits = absurd fits
stands_there (Some history) _ fits = refl
