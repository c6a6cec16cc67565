-- The tickets that the passes handed in have put and got.
use Rattle.std.specs.Prelude.{◌≡◌, ℕ, ◌+◌, ◌<◌, ◌≤◌, ◌^◌, List, []}
use Rattle.firm_rules.specs.declared.tickets.Ticket.{Ticket}
use Rattle.firm_rounds.specs.declared.protocol.Share.{Share}
use Rattle.firm_rounds.specs.Rounds.{weigh, share, numbered, put_by, got_by, is_at, beyond}
use Rattle.firm_rounds.specs.Passes.{PutIs, PopIs, JobIs}

-- the weight of what these passes put
abbrev pub put_weight : (Ticket → ℕ) → List PutIs → ℕ
put_weight h puts = weigh (λ p. weigh h (numbered p.place p.put)) puts

-- the weight of what these passes got
abbrev pub got_weight : (Ticket → ℕ) → List PopIs → ℕ
got_weight h pops = weigh (λ p. weigh h p.got) pops

abbrev pub job_weight : (Ticket → ℕ) → List JobIs → ℕ
job_weight h jobs = weigh (λ j. h j.ticket) jobs

-- how many of these passes are of the place
abbrev pub of_place : ℕ → List PutIs → ℕ
of_place place puts = weigh (λ p. is_at place (share p.place p.put [])) puts

-- each ticket that these shares put was got by them or is left, as often as it was put; each place has at most one
-- share
pub record Settled (shares : List Share) (jobs : List JobIs) : Type 0 where
  pub balanced : (h : Ticket → ℕ) → weigh (put_by h) shares ≡ weigh (got_by h) shares + job_weight h jobs
  pub placed : (place : ℕ) → place < beyond → weigh (is_at place) shares ≤ 1
  pub few : weigh (got_by (λ t. 1)) shares ≤ 2 ^ 61

-- each ticket put was got or is left, as often as it was put; each place has at most one pass
pub record AsOften (puts : List PutIs) (pops : List PopIs) (jobs : List JobIs) : Type 0 where
  pub balanced : (h : Ticket → ℕ) → put_weight h puts ≡ got_weight h pops + job_weight h jobs
  pub placed : (place : ℕ) → place < beyond → of_place place puts ≤ 1
