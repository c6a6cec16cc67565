-- A seat's knowledge, and the effect of each step on it.
use Rattle.std.specs.Prelude.{◌≡◌, ℕ, zero, suc, ◌+◌, ◌-◌, ◌<◌, List, [], ◌∷◌, ◌++◌, length}
use Rattle.firm_rules.specs.declared.tickets.Ticket.{Ticket}
use Rattle.firm_rounds.specs.Rounds.{share, beyond}
use Rattle.firm_rounds.specs.declared.protocol.Share.{Share}
use Rattle.firm_rounds.specs.declared.protocol.Sight.{Sight}

abbrev pub sight : ℕ → List Share → Sight
sight all shares = record { all = all; shares = shares; memo = [] }

abbrev pub opening : Sight
opening = sight 1 (share beyond 0 [] ∷ [])

-- the shares of n places, from `from` on
abbrev pub fresh : ℕ → ℕ → List Share
fresh from zero = []
fresh from (suc n) = fresh from n ++ share (from + n) 0 [] ∷ []

abbrev pub grown_to : ℕ → Sight
grown_to n = sight (n + 1) (share beyond 0 [] ∷ fresh 0 n)

abbrev pub nothing : Sight
nothing = sight 0 []

abbrev pub with_new_share : Sight → Sight
with_new_share v = sight (v.all + 1) (v.shares ++ share (length v.shares - 1) 0 [] ∷ [])

abbrev pub without_second : List Share → List Share
without_second [] = []
without_second (x ∷ []) = x ∷ []
without_second (x ∷ (y ∷ zs)) = x ∷ zs

abbrev pub second : List Share → List Share
second [] = []
second (x ∷ []) = []
second (x ∷ (y ∷ zs)) = y ∷ []

abbrev pub left_over : Sight → Sight
left_over v = sight v.all (without_second v.shares)

abbrev pub cut_off : Sight → Sight
cut_off v = sight v.all (second v.shares)

abbrev pub joined : Sight → Sight → Sight
joined v w = sight v.all (v.shares ++ w.shares)

abbrev pub one_more : List Share → List Share
one_more [] = []
one_more (x ∷ xs) = share x.place (x.put + 1) x.got ∷ xs

abbrev pub after_put : Sight → Sight
after_put v = sight v.all (one_more v.shares)

abbrev pub got_more : Ticket → List Share → List Share
got_more t [] = []
got_more t (x ∷ xs) = share x.place x.put (x.got ++ t ∷ []) ∷ xs

abbrev pub after_pop : Ticket → Sight → Sight
after_pop t v = sight v.all (got_more t v.shares)

-- the shares of the first k places have separate seats
abbrev pub held_from : ℕ → ℕ → Sight
held_from k n = sight (n + 1) (share beyond 0 [] ∷ fresh k (n - k))

abbrev pub given_away : Sight → Sight
given_away v = record { all = 0; shares = []; memo = v.shares }

-- the seat has this share, or had it
abbrev pub IsShareOf : Share → Sight → Type 0
IsShareOf x v = (v.shares ++ v.memo ≡ x ∷ []) × (0 < v.all → v ≡ sight v.all (x ∷ []))
