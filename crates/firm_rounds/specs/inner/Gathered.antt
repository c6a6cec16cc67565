-- The shares of a seat that takes in those of passes.
use Rattle.std.specs.Prelude.{◌≡◌, ℕ, ◌+◌, ◌≤◌, List, length}
use Rattle.firm_rules.specs.declared.tickets.Ticket.{Ticket}
use Rattle.firm_rounds.specs.Rounds.{weigh, put_by, got_by, is_at}
use Rattle.firm_rounds.specs.Passes.{PutIs, PopIs}
use Rattle.firm_rounds.specs.Closed.{put_weight, got_weight, of_place}
use Rattle.firm_rounds.specs.declared.protocol.Sight.{Sight}

-- the shares of w are those of v, and those of these passes to get jobs
pub record AddsPops (v w : Sight) (pops : List PopIs) : Type 0 where
  pub puts : (h : Ticket → ℕ) → weigh (put_by h) w.shares ≡ weigh (put_by h) v.shares
  pub gots : (h : Ticket → ℕ) → weigh (got_by h) w.shares ≡ weigh (got_by h) v.shares + got_weight h pops
  pub count : weigh (λ x. 1) w.shares ≡ weigh (λ x. 1) v.shares + length pops
  pub places : (place : ℕ) → weigh (is_at place) v.shares ≤ weigh (is_at place) w.shares

-- a seat has the shares of these passes
pub record HasAll (v : Sight) (puts : List PutIs) (pops : List PopIs) : Type 0 where
  pub put : (h : Ticket → ℕ) → weigh (put_by h) v.shares ≡ put_weight h puts
  pub got : (h : Ticket → ℕ) → weigh (got_by h) v.shares ≡ got_weight h pops
  pub count : length v.shares ≡ length puts + length pops
  pub places : (place : ℕ) → of_place place puts ≤ weigh (is_at place) v.shares
