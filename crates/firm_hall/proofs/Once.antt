-- Each ticket was requested once at most.
use Rattle.std.proofs.Common.{◌≡◌, ℕ, zero, suc, ◌+◌, ◌<◌, ◌≤◌, ◌==◌, Bool, true, false, cond, List, [], ◌∷◌}
use Rattle.std.proofs.Common.{refl, ap, arith}
use Rattle.std.specs.Prelude.{◌&&◌}
use Rattle.std.proofs.lemmas.Bool.{eqb-true, and_right, ne_eqb}
use Rattle.firm_rules.specs.declared.tickets.Ticket.{Ticket}
use Rattle.firm_rounds.specs.Rounds.{weigh, ticket, share, numbered, is_at}
use Rattle.firm_rounds.specs.Turning.{weigh-append}
use Rattle.firm_hall.specs.Desks.{DeskIs, PlaceIs}
use Rattle.firm_hall.specs.Closed.{asked_weight, left_weight, is_ticket}
use Rattle.firm_hall.specs.inner.Gathered.{desks_at, places_at}

-- one ticket more of a place
one_more : (t : Ticket) (p n : ℕ)
    → weigh (is_ticket t) (numbered p (suc n)) ≡ weigh (is_ticket t) (numbered p n) + is_ticket t (ticket p (suc n))
one_more t p n = omega (arith, weigh-append (is_ticket t) (numbered p n) (ticket p (suc n) ∷ []))

other_number : (t : Ticket) (p n : ℕ) → (t.number == n) ≡ false → is_ticket t (ticket p n) ≡ 0
other_number t p n e = ap (λ (b : Bool). cond b 1 0) (and_right (t.place == p) (t.number == n) e)

at_most : (t : Ticket) (p n : ℕ) → is_ticket t (ticket p n) ≤ cond (t.place == p) 1 0
at_most t p n = both (t.place == p) (t.number == n)
  where
    both : (a b : Bool) → cond (a && b) 1 0 ≤ cond a 1 0
    both true true = omega arith
    both true false = omega arith
    both false b = omega arith

-- the first tickets of a place are not a later one
none_later : (t : Ticket) (p n : ℕ) → n < t.number → weigh (is_ticket t) (numbered p n) ≡ 0
none_later t p zero later = refl
none_later t p (suc n) later =
    let other = other_number t p (suc n) (ne_eqb t.number (suc n) (λ e. omega arith)) in
    omega (arith, one_more t p n, none_later t p n (omega arith))

numbered_once : (t : Ticket) (p n : ℕ) → weigh (is_ticket t) (numbered p n) ≤ cond (t.place == p) 1 0
numbered_once t p zero = omega arith
numbered_once t p (suc n) = by (t.number == suc n) refl (numbered_once t p n)
  where
    by : (b : Bool) → (t.number == suc n) ≡ b → weigh (is_ticket t) (numbered p n) ≤ cond (t.place == p) 1 0
        → weigh (is_ticket t) (numbered p (suc n)) ≤ cond (t.place == p) 1 0
    by true e before =
        let same : t.number ≡ suc n = eqb-true t.number (suc n) e in
        let none : weigh (is_ticket t) (numbered p n) ≡ 0 = none_later t p n (omega arith) in
        omega (arith, one_more t p n, at_most t p (suc n))
    by false e before = omega (arith, one_more t p n, other_number t p (suc n) e)

-- the desks asked a ticket no more often than there are desks of its place
pub asked_once : (t : Ticket) (desks : List DeskIs) → asked_weight (is_ticket t) desks ≤ desks_at t.place desks
asked_once t [] = omega arith
asked_once t (d ∷ ds) =
    let one : weigh (is_ticket t) (numbered d.place d.put) ≤ is_at t.place (share d.place d.put []) =
    numbered_once t d.place d.put in
    omega (arith, asked_once t ds)

-- and at the places that no tenant has no more often than there are places of it
pub left_once : (t : Ticket) (places : List PlaceIs) → left_weight (is_ticket t) places ≤ places_at t.place places
left_once t [] = omega arith
left_once t (p ∷ ps) =
    let one : weigh (is_ticket t) (numbered p.place p.put) ≤ is_at t.place (share p.place p.put []) =
    numbered_once t p.place p.put in
    omega (arith, left_once t ps)
