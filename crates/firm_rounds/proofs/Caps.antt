-- The number of tickets that there can be in all.
use Rattle.std.proofs.Common.{◌≡◌, ℕ, zero, suc, ◌+◌, ◌-◌, ◌*◌, ◌^◌, ◌<◌, ◌≤◌, cond, nat_lt, true, false, List, [], ◌∷◌}
use Rattle.std.proofs.Common.{◌++◌, sym, refl, ap, ◌∙◌, arith, ⊎_elim}
use Rattle.std.proofs.lemmas.Bool.{lt-ltb, le-ltb, cases_lt}
use mathlib.Core.Logic.{dite}
use native.Mathlib.Decide.{ℕ_discrete}
use Rattle.firm_rules.specs.declared.tickets.Ticket.{Ticket}
use Rattle.firm_rounds.specs.declared.protocol.Share.{Share}
use Rattle.firm_rounds.specs.declared.protocol.Sight.{Sight}
use Rattle.firm_rounds.specs.Rounds.{weigh, share, numbered, put_by}
use Rattle.firm_rounds.specs.Rule.{weigh_shares, cap, excess}
use Rattle.firm_rounds.specs.inner.Seats.{fresh}
use Rattle.firm_rounds.specs.Turning.{weigh-append}

-- the cap of a place is 2 ^ 55
pub cap_here : (place n : ℕ) (got : List Ticket) → place < 64 → cap (share place n got) ≡ 2 ^ 55
cap_here place n got low = ap (λ b. cond b (2 ^ 55) 0) (lt-ltb place 64 low)

pub cap_out : (place n : ℕ) (got : List Ticket) → 64 ≤ place → cap (share place n got) ≡ 0
cap_out place n got high = ap (λ b. cond b (2 ^ 55) 0) (le-ltb place 64 high)

pub within_here : (place k : ℕ) → place < 64 → k < 2 ^ 55
    → weigh excess (share place (k + 1) [] ∷ []) ≡ weigh excess (share place k [] ∷ [])
within_here place k low less = let a = cap_here place (k + 1) [] low in let b = cap_here place k [] low in omega arith

-- each further place has room, up to 64 of them
fresh_cap : (n : ℕ) → weigh cap (fresh 0 n) + 2 ^ 55 * (64 - n) ≤ 2 ^ 61
fresh_cap zero = omega arith
fresh_cap (suc n) =
    let e = fresh_cap n in let s = weigh-append cap (fresh 0 n) (share (0 + n) 0 [] ∷ []) in
    ⊎_elim (λ (low : n < 64). let c = cap_here (0 + n) 0 [] (omega arith) in omega arith)
    (λ (high : 64 ≤ n). let c = cap_out (0 + n) 0 [] (omega arith) in omega arith) (cases_lt n 64)

pub cap_after : (n : ℕ) → weigh cap (fresh 0 n) + cap (share (0 + n) 0 []) ≤ 2 ^ 61
cap_after n = let e = fresh_cap (suc n) in let s = weigh-append cap (fresh 0 n) (share (0 + n) 0 [] ∷ []) in omega arith

numbered_ones : (place n : ℕ) → weigh (λ (t : Ticket). 1) (numbered place n) ≡ n
numbered_ones place zero = refl
numbered_ones place (suc n) =
    omega (
      arith,
      numbered_ones place n,
      weigh-append (λ (t : Ticket). 1) (numbered place n) (record { place = place; number = suc n } ∷ []),
    )

shares_cover : (xs : List Share) → weigh (put_by (λ t. 1)) xs ≤ weigh cap xs + weigh excess xs
shares_cover [] = omega arith
shares_cover (x ∷ xs) = omega (arith, shares_cover xs, numbered_ones x.place x.put)

pub caps_cover : (views : List Sight) → weigh_shares (put_by (λ t. 1)) views
    ≤ weigh_shares cap views + weigh_shares excess views
caps_cover [] = omega arith
caps_cover (v ∷ vs) = omega (arith, caps_cover vs, shares_cover v.shares)
