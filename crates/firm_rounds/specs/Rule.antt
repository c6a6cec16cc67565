-- The rule of the round queue: each ticket put was got or is in the queue, as often as it was put.
use Rattle.std.specs.Prelude.{◌≡◌, ℕ, ◌+◌, ◌-◌, ◌^◌, ◌<◌, ◌≤◌, nat_lt, cond, List, [], map, length}
use mathlib.Core.Option.{some}
use lib.ListN.{get_elem?}
use Rattle.firm_rules.specs.declared.tickets.Ticket.{Ticket}
use Rattle.firm_rounds.specs.Rounds.{weigh, put_by, got_by, is_at, beyond, share_of}
use Rattle.firm_rounds.specs.declared.protocol.JobParts.{JobParts}
use Rattle.firm_rounds.specs.declared.protocol.Share.{Share}
use Rattle.firm_rounds.specs.declared.protocol.Sight.{Sight}

-- how many tickets a share may put: the places are below 64
abbrev pub cap : Share → ℕ
cap x = cond (nat_lt x.place 64) (2 ^ 55) 0

-- how many tickets a share put beyond that
abbrev pub excess : Share → ℕ
excess x = x.put - cap x

abbrev pub weigh_shares : (Share → ℕ) → List Sight → ℕ
weigh_shares f views = weigh (λ v. weigh f v.shares) views

abbrev pub count : List Sight → ℕ
count views = weigh (λ v. length v.shares) views

abbrev pub tickets : List JobParts → List Ticket
tickets items = map (λ x. x.ticket) items

-- However tickets are weighed, those put weigh as much as those got and those in the queue. Each seat with a share
-- knows how many shares there are.
pub record Fair (items : List JobParts) (views : List Sight) : Type 0 where
  pub all : ℕ
  pub agree : (id : ℕ) (v : Sight) → get_elem? views id ≡ some v → 0 < length v.shares → v.all ≡ all
  pub counted : count views ≡ all
  pub balanced : (h : Ticket → ℕ) → weigh_shares (put_by h) views
      ≡ weigh_shares (got_by h) views + weigh h (tickets items)
  pub placed : (place : ℕ) → place < beyond → weigh_shares (is_at place) views ≤ 1
  pub within : weigh_shares excess views ≡ 0
  pub capped : weigh_shares cap views ≤ 2 ^ 61
  pub few : length items ≤ 8

-- a seat got at most 2 ^ 61 tickets
abbrev pub FewGot : Sight → Type 0
FewGot v = weigh (got_by (λ t. 1)) v.shares ≤ 2 ^ 61

-- what a seat with every share knows of the queue
abbrev pub Holds : Sight → List JobParts → Type 0
Holds v items =
    ((h : Ticket → ℕ) → weigh (put_by h) v.shares ≡ weigh (got_by h) v.shares + weigh h (tickets items))
    × ((place : ℕ) → place < beyond → weigh (is_at place) v.shares ≤ 1)
    × (length items ≤ 8)
    × FewGot v

-- at one step of a call the rule held of these items and of what the seats knew, this one among them
abbrev pub Shows : Sight → List JobParts → Type 0
Shows v items = (views : List Sight) × (id : ℕ) × (get_elem? views id ≡ some v) × Fair items views

-- At one step of a call the queue was empty, under its rule, and the pass had got these tickets: all that was put by
-- then had been got.
abbrev pub WasEmpty : List Ticket → Type 0
WasEmpty got = (v : Sight) × Shows v [] × ((share_of v).got ≡ got)
