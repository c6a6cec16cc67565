-- The station at a place, and the history of the tenant there.
use Rattle.std.proofs.Common.{◌≡◌, ℕ, List, [], ◌∷◌, ◌++◌, refl, sym, ap, subst, ◌∙◌}
use Rattle.std.specs.Prelude.{Bool, Option, Some, None, map}
use Rattle.std.proofs.lemmas.List.{map-append}
use Rattle.firm_rules.specs.Book.{Book, opening_book}
use Rattle.firm_rules.specs.Limits.{TenantLimits}
use Rattle.firm_rules.specs.declared.commands.Command.{Command}
use Rattle.firm_rules.specs.declared.commands.Command.TheVariants.{Round}
use Rattle.firm_rules.specs.declared.replies.Reply.{Reply}
use Rattle.firm_tenant.specs.Laws.{RepliesTellTheirMarks}
use Rattle.firm_tenant.specs.Step.{step, is_memory}
use Rattle.firm_tenant.specs.Alone.{alone_marked, book_after}
use Rattle.firm_table.specs.Places.{Given}
use Rattle.firm_table.specs.Interleaving.{Station, empty, home, queued, held, answered, taken_by}
use Rattle.firm_table.specs.Histories.{History, commanded_once, replied_once, history_here, ended_here}
use Rattle.firm_table.specs.declared.events.Event.{Event}
use Rattle.firm_table.specs.declared.events.Event.TheVariants.{Post, Retire}
use Rattle.firm_table.specs.declared.events.Answer.{Answer as EventAnswer}
use Rattle.firm_table.specs.declared.events.Answer.TheVariants.{NotNow}
use Rattle.firm_table.proofs.Ways.{Way, refused, posts, declines, queues, solves, returns, finds_none, comes, leaves}
use Rattle.firm_table.proofs.Alones.{replies_from-last, book_after-last}

-- these commands were replied to, and left the book
pub record Past (limits : TenantLimits) (commands : List Command) (replies : List Reply) (book : Book) : Type 0 where
  pub given : List Given
  pub commands_are : commands ≡ map (λ g. g.0) given
  pub replies_are : replies ≡ alone_marked limits given
  pub marks : map (λ g. g.1) given ≡ map is_memory replies
  pub book_is : book ≡ book_after (opening_book limits) given

past_more : (limits : TenantLimits) (commands : List Command) (replies : List Reply) (book after : Book)
    (command : Command) (reply : Reply)
    → Past limits commands replies book → (reply, after) ≡ step book command (is_memory reply)
    → Past limits (commands ++ command ∷ []) (replies ++ reply ∷ []) after
past_more limits commands replies book after command reply past stepped =
    let given : Given = (command, is_memory reply) in
    let whole : (reply, after) ≡ step (book_after (opening_book limits) past.given) command (is_memory reply) =
    stepped ∙ ap (λ (b : Book). step b command (is_memory reply)) past.book_is in
    record {
      given = past.given ++ given ∷ [];
      commands_are = ap (λ (cs : List Command). cs ++ command ∷ []) past.commands_are
          ∙ sym (map-append (λ (g : Given). g.0) past.given (given ∷ []));
      replies_are =
          ap (λ (rs : List Reply). rs ++ reply ∷ []) past.replies_are
          ∙ ap (λ (p : Reply × Book). alone_marked limits past.given ++ p.0 ∷ []) whole
          ∙ sym (replies_from-last (opening_book limits) past.given given);
      marks =
          map-append (λ (g : Given). g.1) past.given (given ∷ [])
          ∙ ap (λ (ms : List Bool). ms ++ is_memory reply ∷ []) past.marks
          ∙ sym (map-append is_memory replies (reply ∷ []));
      book_is = ap (λ (p : Reply × Book). p.1) whole ∙ sym (book_after-last (opening_book limits) past.given given);
    }

-- the last command waits for its reply
pub record Waits (history : History) (book : Book) : Type 0 where
  pub earlier : List Command
  pub last : history.commands ≡ earlier ++ Round ∷ []
  pub past : Past history.limits earlier history.replies book

pub record HasReply (history : History) (after : Book) (reply : Reply) : Type 0 where
  pub book : Book
  pub waits : Waits history book
  pub stepped : (reply, after) ≡ step book Round (is_memory reply)

-- what stands at a place is what its history made
abbrev pub Fits : Option History → Station → Type 0
Fits None empty = Unit {0}
Fits None _ = ⊥
Fits (Some history) empty = ⊥
Fits (Some history) (home book) = Past history.limits history.commands history.replies book
Fits (Some history) (queued book ticket) = Waits history book
Fits (Some history) (held book ticket worker) = Waits history book
Fits (Some history) (answered book reply) = HasReply history book reply

-- a command with its reply at once
at_once : RepliesTellTheirMarks → (history : History) (book : Book) (command : Command) (mark : Bool)
    → Past history.limits history.commands history.replies book
    → Fits (Some (replied_once (step book command mark).0 (commanded_once command history)))
    (home (step book command mark).1)
at_once told history book command mark past =
    past_more history.limits history.commands history.replies book (step book command mark).1 command
    (step book command mark).0 past (sym (told book command mark))

pub fits_taken : (history : Option History) (station : Station) (worker : ℕ) → Fits history station
    → Fits history (taken_by worker station)
fits_taken None (queued book ticket) worker fits = fits
fits_taken (Some history) (queued book ticket) worker fits = fits
fits_taken history _ worker fits = fits

-- a tenant that comes was given nothing yet
pub nothing_past : (limits : TenantLimits) → Past limits [] [] (opening_book limits)
nothing_past limits = record { given = []; commands_are = refl; replies_are = refl; marks = refl; book_is = refl }

-- an event that does not fit adds nothing, and ends nothing
pub here_not_now : (history : Option History) (event : Event) → history_here history event NotNow ≡ history
here_not_now history (Post place command) = refl
here_not_now history _ = refl

pub ended_not_now : (history : Option History) (event : Event) → ended_here history event NotNow ≡ []
ended_not_now history (Retire place) = refl
ended_not_now history _ = refl

-- the station after an event fits the history after it
pub fits_way : RepliesTellTheirMarks → (history : Option History) (place : ℕ) (station : Station) (event : Event)
    (fit : Bool) (answer : EventAnswer) (after : Station) → Way place station event fit answer after
    → Fits history station → Fits (history_here history event answer) after
fits_way told history place station event fit answer after (refused _ _ _) fits =
    subst (λ (h : Option History). Fits h station) (sym (here_not_now history event)) fits
fits_way told history place station event fit answer after (finds_none _ _ _) fits = fits
fits_way told history place station event fit answer after (comes _ _ limits) fits = nothing_past limits
fits_way told history place station event fit answer after (leaves _ _ _) fits = tt
fits_way told (Some history) place station event fit answer after (posts _ _ book command mark) fits =
    at_once told history book command mark fits
fits_way told (Some history) place station event fit answer after (declines _ _ book mark) fits =
    at_once told history book Round mark fits
fits_way told (Some history) place station event fit answer after (queues _ _ _ book) fits =
    record { earlier = history.commands; last = refl; past = fits }
fits_way told (Some history) place station event fit answer after (solves _ _ _ book ticket mark) fits =
    record { book = book; waits = fits; stepped = sym (told book Round mark) }
fits_way told (Some history) place station event fit answer after (returns _ _ book reply) fits =
    let waits = fits.waits in
    subst (λ (cs : List Command). Past history.limits cs (history.replies ++ reply ∷ []) book) (sym waits.last)
    (past_more history.limits waits.earlier history.replies fits.book book Round reply waits.past fits.stepped)
fits_way told None place station event fit answer after _ fits = absurd fits
