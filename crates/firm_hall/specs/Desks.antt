-- The values of desks in contracts, and the effect of a command on a desk.
use Rattle.std.specs.Prelude.{◌≡◌, ℕ, Bool, ◌+◌, ◌*◌, ◌<◌, ◌≤◌, ◌^◌, ◌⊎◌}
use Rattle.firm_rules.specs.Book.{Book}
use Rattle.firm_rules.specs.declared.commands.Command.{Command}
use Rattle.firm_rules.specs.declared.commands.Command.TheVariants.{Round}
use Rattle.firm_rules.specs.declared.replies.Reply.{Reply}
use Rattle.firm_rules.specs.declared.replies.Outcome.TheVariants.{Refused}
use Rattle.firm_rules.specs.declared.replies.Refusal.TheVariants.{Worn, Memory}
use Rattle.firm_tenant.specs.Step.{step, is_memory}
use Rattle.firm_text.specs.Registers.{most_admissions}
use Rattle.firm_rounds.specs.Passes.{QueueId, no_queue}

-- a place of a hall: the hall's queue, the number of the place, its numbers of rounds requested and of times it was
-- given
pub record PlaceIs : Type 0 where
  pub queue : QueueId
  pub place : ℕ
  pub put : ℕ
  pub admissions : ℕ

abbrev pub place_is : QueueId → ℕ → ℕ → ℕ → PlaceIs
place_is queue place put admissions = record { queue = queue; place = place; put = put; admissions = admissions }

-- a place whose hall has ended
abbrev pub spent_place : PlaceIs → PlaceIs
spent_place place = place_is (no_queue place.queue) place.place place.put place.admissions

-- who asks for rounds: its hall's queue, and whether it has still to ring
pub record AskerIs : Type 0 where
  pub queue : QueueId
  pub owes : Bool

-- a place with its tenant's book; if its round is away, the book that was handed over
pub record DeskIs : Type 0 where
  pub queue : QueueId
  pub place : ℕ
  pub put : ℕ
  pub admissions : ℕ
  pub book : Book

abbrev pub desk_is : QueueId → ℕ → ℕ → ℕ → Book → DeskIs
desk_is queue place put admissions book =
    record { queue = queue; place = place; put = put; admissions = admissions; book = book }

-- a desk whose hall has ended
abbrev pub spent_desk : DeskIs → DeskIs
spent_desk desk = desk_is (no_queue desk.queue) desk.place desk.put desk.admissions desk.book

-- reply and book are the step of the earlier book, with memory refused exactly if the reply says so; nothing else
-- changes
pub record IsStep (before : DeskIs) (command : Command) (reply : Reply) (after : DeskIs) : Type 0 where
  pub stepped : (reply, after.book) ≡ step before.book command (is_memory reply)
  pub same_desk : after ≡ desk_is before.queue before.place before.put before.admissions after.book

-- a round that was not asked: no life is left, or memory was refused, and the desk is as that step leaves it
pub record IsRefused (before : DeskIs) (reply : Reply) (after : DeskIs) : Type 0 where
  pub stepped : IsStep before Round reply after
  pub why : (reply.outcome ≡ Refused Worn) ⊎ (reply.outcome ≡ Refused Memory)

-- the most rounds of this many tenants, each of which answers at most 2^40 commands
abbrev pub rounds_of : ℕ → ℕ
rounds_of tenants = tenants * 2 ^ 40

-- a place was given at most as often as it may be, and no more rounds were requested there than its tenants may request
pub record PlaceCountsFit (put admissions : ℕ) : Type 0 where
  pub few : admissions ≤ most_admissions
  pub asked : put ≤ rounds_of admissions

-- a tenant was given no more commands than its life allows, and no more rounds were requested than it was given
-- commands, apart from those that the tenants before it may have requested
pub record IsLive (put admissions : ℕ) (book : Book) : Type 0 where
  pub asked : put + rounds_of 1 ≤ rounds_of admissions + book.given
  pub given : book.given ≤ book.rows.limits.life
  pub life : book.rows.limits.life ≤ 2 ^ 40

-- the same while a round is away, which is one more command
pub record IsLiveAway (put admissions : ℕ) (book : Book) : Type 0 where
  pub asked : put + rounds_of 1 ≤ rounds_of admissions + book.given + 1
  pub given : book.given < book.rows.limits.life
  pub life : book.rows.limits.life ≤ 2 ^ 40
