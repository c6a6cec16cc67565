-- The states of the places of a serving hall.
use Rattle.std.specs.Prelude.{◌≡◌, ◌+◌, ◌<◌, ◌⊎◌, Bool, true, false, Option, Some, None}
use Rattle.firm_rules.specs.Limits.{TenantLimits}
use Rattle.firm_rules.specs.Book.{opening_book}
use Rattle.firm_rules.specs.declared.commands.Command.{Command}
use Rattle.firm_rules.specs.declared.commands.Command.TheVariants.{Round}
use Rattle.firm_rules.specs.declared.replies.Reply.{Reply}
use Rattle.firm_rules.specs.declared.replies.Outcome.TheVariants.{Refused}
use Rattle.firm_rules.specs.declared.replies.Refusal.TheVariants.{Worn, Memory}
use Rattle.firm_text.specs.Registers.{most_admissions}
use Rattle.firm_rounds.specs.Passes.{QueueId}
use Rattle.firm_hall.specs.Desks.{DeskIs, desk_is, place_is, IsStep}
use Rattle.firm_hall.specs.declared.desk_states.DeskState.{DeskState}
use Rattle.firm_hall.specs.declared.desk_states.DeskState.TheVariants.{Home, Away, Empty, Gone}

-- no round is away from the place
abbrev pub NoneIsAway : DeskState → Type 0
NoneIsAway (Home desk waits) = Unit {0}
NoneIsAway (Away asked) = ⊥
NoneIsAway (Empty place) = Unit {0}
NoneIsAway Gone = ⊥

-- the place is empty, or its tenant is at home with no command waiting
abbrev pub IsBack : DeskState → Type 0
IsBack (Home desk waits) = waits ≡ false
IsBack (Away asked) = ⊥
IsBack (Empty place) = Unit {0}
IsBack Gone = ⊥

-- a round is away from the place
abbrev pub IsAway : DeskState → Type 0
IsAway (Home desk waits) = ⊥
IsAway (Away asked) = Unit {0}
IsAway (Empty place) = ⊥
IsAway Gone = ⊥

-- a desk at home
abbrev pub IsHome : DeskState → Type 0
IsHome (Home desk waits) = Unit {0}
IsHome (Away asked) = ⊥
IsHome (Empty place) = ⊥
IsHome Gone = ⊥

-- a desk at home, of this hall
abbrev pub IsHomeOf : QueueId → DeskState → Type 0
IsHomeOf queue (Home desk waits) = desk.queue ≡ queue
IsHomeOf queue (Away asked) = ⊥
IsHomeOf queue (Empty place) = ⊥
IsHomeOf queue Gone = ⊥

-- the place is empty and has an admission left
abbrev pub IsFree : DeskState → Type 0
IsFree (Home desk waits) = ⊥
IsFree (Away asked) = ⊥
IsFree (Empty place) = place.admissions < most_admissions
IsFree Gone = ⊥

-- what stands at a place later: the same, or the desk that came back with the round's reply, for which commands may
-- wait
abbrev pub IsTurned : DeskState → DeskState → Option Reply → Type 0
IsTurned before after None = after ≡ before
IsTurned (Away asked) (Home desk waits) (Some reply) = IsStep asked Round reply desk × (waits ≡ true)
IsTurned (Away asked) (Away other) (Some reply) = ⊥
IsTurned (Away asked) (Empty place) (Some reply) = ⊥
IsTurned (Away asked) Gone (Some reply) = ⊥
IsTurned (Home desk waits) after (Some reply) = ⊥
IsTurned (Empty place) after (Some reply) = ⊥
IsTurned Gone after (Some reply) = ⊥

-- if a tenant was admitted, its desk replaces the empty one, with the opening book; otherwise nothing changes
abbrev pub IsAdmitted : DeskState → TenantLimits → Bool → DeskState → Type 0
IsAdmitted (Home desk waits) limits came after = ⊥
IsAdmitted (Away asked) limits came after = ⊥
IsAdmitted (Empty place) limits true after =
    after ≡ Home (desk_is place.queue place.place place.put (place.admissions + 1) (opening_book limits)) false
IsAdmitted (Empty place) limits false after = after ≡ Empty place
IsAdmitted Gone limits came after = ⊥

-- the empty desk replaces the tenant's
abbrev pub IsRetired : DeskState → DeskState → Type 0
IsRetired (Home desk waits) after = after ≡ Empty (place_is desk.queue desk.place desk.put desk.admissions)
IsRetired (Away asked) after = ⊥
IsRetired (Empty place) after = ⊥
IsRetired Gone after = ⊥

-- the desk answered the command; it answers a round itself only if its life is worn or memory was refused
pub record Answered (before : DeskIs) (command : Command) (after : DeskIs) (reply : Reply) : Type 0 where
  pub stepped : IsStep before command reply after
  pub why : command ≡ Round → (reply.outcome ≡ Refused Worn) ⊎ (reply.outcome ≡ Refused Memory)

-- the desk asked for the round, for which it had life
pub record Went (before : DeskIs) (command : Command) (asked : DeskIs) : Type 0 where
  pub round : command ≡ Round
  pub asked_is : asked ≡ desk_is before.queue before.place (before.put + 1) before.admissions before.book
  pub left : before.book.given < before.book.rows.limits.life

-- what a command made of a desk, for which commands wait or none do, and the reply, unless the round is away
abbrev pub IsTaken : DeskIs → Bool → Command → DeskState → Option Reply → Type 0
IsTaken before waits command (Home after still) (Some reply) = Answered before command after reply × (still ≡ waits)
IsTaken before waits command (Away asked) None = Went before command asked
IsTaken before waits command (Home after still) None = ⊥
IsTaken before waits command (Away asked) (Some reply) = ⊥
IsTaken before waits command (Empty after) reply = ⊥
IsTaken before waits command Gone reply = ⊥

-- the same for the place where the desk was home
abbrev pub IsTakenAt : DeskState → Command → DeskState → Option Reply → Type 0
IsTakenAt (Home before waits) command after reply = IsTaken before waits command after reply
IsTakenAt (Away asked) command after reply = ⊥
IsTakenAt (Empty before) command after reply = ⊥
IsTakenAt Gone command after reply = ⊥

-- the place, if its tenant is home, with commands waiting for it or none
abbrev pub with_waiting : Bool → DeskState → DeskState
with_waiting waits (Home desk before) = Home desk waits
with_waiting waits (Away asked) = Away asked
with_waiting waits (Empty place) = Empty place
with_waiting waits Gone = Gone
