-- The tickets that shares put and got, for any weights of the tickets.
use Rattle.std.specs.Prelude.{ℕ, zero, suc, ◌+◌, ◌==◌, cond, List, [], ◌∷◌, ◌++◌}
use Rattle.firm_rules.specs.declared.tickets.Ticket.{Ticket}
use Rattle.firm_rounds.specs.declared.protocol.Share.{Share}
use Rattle.firm_rounds.specs.declared.protocol.Sight.{Sight}

-- the weights of the elements, added up
abbrev pub weigh : {A : Type 0} → (A → ℕ) → List A → ℕ
weigh f [] = 0
weigh f (x ∷ xs) = f x + weigh f xs

abbrev pub ticket : ℕ → ℕ → Ticket
ticket place number = record { place = place; number = number }

abbrev pub share : ℕ → ℕ → List Ticket → Share
share place put got = record { place = place; put = put; got = got }

-- the first tickets of a place, without a gap
abbrev pub numbered : ℕ → ℕ → List Ticket
numbered place zero = []
numbered place (suc n) = numbered place n ++ ticket place (suc n) ∷ []

abbrev pub put_by : (Ticket → ℕ) → Share → ℕ
put_by h x = weigh h (numbered x.place x.put)

abbrev pub got_by : (Ticket → ℕ) → Share → ℕ
got_by h x = weigh h x.got

abbrev pub is_at : ℕ → Share → ℕ
is_at place x = cond (place == x.place) 1 0

-- the keeping seat's share has a place beyond those of tenants
abbrev pub beyond : ℕ
beyond = 4294967296

abbrev pub first_share : List Share → Share
first_share [] = share 0 0 []
first_share (x ∷ xs) = x

abbrev pub share_of : Sight → Share
share_of v = first_share (v.shares ++ v.memo)
