-- Facts about a closed hall.
use Rattle.std.specs.Prelude.{◌≡◌, ℕ, ◌+◌, ◌<◌, ◌≤◌, ◌^◌, ◌&&◌, ◌==◌, cond, List, length}
use Rattle.firm_rules.specs.declared.tickets.Ticket.{Ticket}
use Rattle.firm_rounds.specs.Rounds.{weigh, numbered}
use Rattle.firm_rounds.specs.Passes.{PopIs, JobIs}
use Rattle.firm_rounds.specs.Closed.{got_weight, job_weight}
use Rattle.firm_hall.specs.Desks.{DeskIs, PlaceIs}

-- the weights of the tickets that these desks asked, added up
abbrev pub asked_weight : (Ticket → ℕ) → List DeskIs → ℕ
asked_weight h desks = weigh (λ d. weigh h (numbered d.place d.put)) desks

-- the same for the tickets asked at these places, which have no tenant now
abbrev pub left_weight : (Ticket → ℕ) → List PlaceIs → ℕ
left_weight h places = weigh (λ p. weigh h (numbered p.place p.put)) places

-- 1 for this ticket, and 0 for every other
abbrev pub is_ticket : Ticket → Ticket → ℕ
is_ticket one other = cond ((one.place == other.place) && (one.number == other.number)) 1 0

-- how many tickets these reports list
abbrev pub taken_count : List PopIs → ℕ
taken_count reports = weigh (λ r. length r.got) reports

-- Each ticket requested at the desks and at the places without a tenant stands in the reports and the jobs left, as
-- often as it was requested: however tickets are weighed, both weigh the same. Each was requested at most once, so it
-- stands there exactly once.
pub record IsClosed (desks : List DeskIs) (empty : List PlaceIs) (reports : List PopIs)
    (jobs : List JobIs) : Type 0 where
  pub as_often : (h : Ticket → ℕ)
      → asked_weight h desks + left_weight h empty ≡ got_weight h reports + job_weight h jobs
  pub once : (t : Ticket) → t.place < 2 ^ 32 → asked_weight (is_ticket t) desks + left_weight (is_ticket t) empty ≤ 1
