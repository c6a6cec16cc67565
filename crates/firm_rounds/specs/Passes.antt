-- The values of a queue, its passes and its jobs in contracts.
use Rattle.std.specs.Prelude.{◌≡◌, ℕ, zero, suc, ◌+◌, Bool, false, true, List, [], ◌∷◌, ◌++◌, Option}
use Rattle.atomic_table.specs.Seated.{TableId}
use Rattle.atomic_table.specs.declared.shared.Seat.{Seat}
use Rattle.crossbeam_queue.specs.declared.array_queue.Doing.{Doing}
use Rattle.crossbeam_queue.specs.Passes.{view}
use Rattle.firm_rounds.specs.declared.protocol.JobParts.{JobParts}
use Rattle.firm_rounds.specs.declared.protocol.Sight.{Sight}
use Rattle.firm_rounds.specs.declared.protocol.Share.{Share}
use Rattle.firm_tray.specs.Sides.{Side}
use Rattle.firm_rules.specs.declared.tickets.Ticket.{Ticket}

-- which queue it is, how many passes it has, and which bell
pub record QueueId : Type 0 where
  pub table : TableId
  pub all : ℕ
  pub bell : TableId

pub record QueueIs : Type 0 where
  pub id : QueueId
  pub puts : ℕ
  pub pops : ℕ

-- a queue whose passes are being handed in, and the shares it has so far
pub record ClosingIs : Type 0 where
  pub id : QueueId
  pub shares : List Share

abbrev pub closing_is : QueueId → List Share → ClosingIs
closing_is id shares = record { id = id; shares = shares }

-- a pass of a place, and how many tickets it put
pub record PutIs : Type 0 where
  pub queue : QueueId
  pub place : ℕ
  pub put : ℕ

-- a pass, and the tickets that it got; whether its worker knows that the queue is shut; whether it was woken and has
-- still to wake another; and whether it found the queue empty when it last looked
pub record PopIs : Type 0 where
  pub queue : QueueId
  pub got : List Ticket
  pub knows_shut : Bool
  pub owes_call : Bool
  pub found_none : Bool

pub record JobIs : Type 0 where
  pub ticket : Ticket
  pub side : Side

abbrev pub put_is : QueueId → ℕ → ℕ → PutIs
put_is queue place put = record { queue = queue; place = place; put = put }

abbrev pub pop_at : QueueId → List Ticket → Bool → Bool → Bool → PopIs
pop_at queue got knows_shut owes_call found_none =
    record {
      queue = queue;
      got = got;
      knows_shut = knows_shut;
      owes_call = owes_call;
      found_none = found_none;
    }

-- a pass that has not looked yet
abbrev pub pop_is : QueueId → List Ticket → PopIs
pop_is queue got = pop_at queue got false false false

-- a pass that got one ticket more; and one that found nothing
abbrev pub got_one : Ticket → PopIs → PopIs
got_one t p = pop_at p.queue (p.got ++ t ∷ []) p.knows_shut false false

abbrev pub got_none : PopIs → PopIs
got_none p = pop_at p.queue p.got p.knows_shut p.owes_call true

-- passes of the first places, which have put nothing yet
abbrev pub new_puts : QueueId → ℕ → List PutIs
new_puts queue zero = []
new_puts queue (suc n) = new_puts queue n ++ put_is queue n 0 ∷ []

abbrev pub new_pops : QueueId → ℕ → List PopIs
new_pops queue zero = []
new_pops queue (suc n) = new_pops queue n ++ pop_is queue [] ∷ []

-- the queue of a seat, with this bell
abbrev pub queue_of : TableId → Seat (Option JobParts) (Doing JobParts Sight) → QueueId
queue_of bell s = record { table = s.table_id; all = (view s).all; bell = bell }

-- a pass whose queue has ended
abbrev pub no_queue : QueueId → QueueId
no_queue q = record { table = q.table; all = 0; bell = q.bell }

abbrev pub spent_put : PutIs → PutIs
spent_put p = put_is (no_queue p.queue) p.place p.put

abbrev pub spent_pop : PopIs → PopIs
spent_pop p = pop_at (no_queue p.queue) p.got p.knows_shut p.owes_call p.found_none

-- the pass may get what it may, from this queue, having got these tickets
abbrev pub GoesOn : PopIs → PopIs → Type 0
GoesOn old new = (new.queue ≡ old.queue) × (new.got ≡ old.got)
