-- Weights over lists, and over lists of seats.
use Rattle.std.proofs.Common.{◌≡◌, ◌≢◌, ℕ, zero, suc, ◌+◌, ◌-◌, ◌<◌, ◌≤◌, ◌==◌, cond, List, [], ◌∷◌, ◌++◌, map, length}
use Rattle.std.proofs.Common.{set, sym, refl, ap, ◌∙◌, subst, arith, length-append}
use mathlib.Core.Option.{some, some-injective, some-ne-none}
use lib.ListN.{get_elem?}
use Rattle.firm_rules.specs.declared.tickets.Ticket.{Ticket}
use Rattle.firm_rounds.specs.declared.protocol.JobParts.{JobParts}
use Rattle.firm_rounds.specs.declared.protocol.Share.{Share}
use Rattle.firm_rounds.specs.declared.protocol.Sight.{Sight}
use Rattle.firm_rounds.specs.Rounds.{weigh, ticket, share, is_at, beyond}
use Rattle.firm_rounds.specs.Rule.{weigh_shares, count, tickets}
use Rattle.firm_rounds.specs.inner.Seats.{fresh}

module _ {A : Type 0} (f : A → ℕ) where
  pub weigh-set : (xs : List A) (i : ℕ) (v w : A) → get_elem? xs i ≡ some v
      → weigh f (set xs i w) + f v ≡ weigh f xs + f w
  weigh-set [] i v w e = absurd (some-ne-none v (sym e))
  weigh-set (x ∷ xs) zero v w e = let same : f x ≡ f v = ap f (some-injective x v e) in omega arith
  weigh-set (x ∷ xs) (suc i) v w e = omega (arith, weigh-set xs i v w e)

  pub weigh-at : (xs : List A) (i : ℕ) (v : A) → get_elem? xs i ≡ some v → f v ≤ weigh f xs
  weigh-at [] i v e = absurd (some-ne-none v (sym e))
  weigh-at (x ∷ xs) zero v e = let same : f x ≡ f v = ap f (some-injective x v e) in omega arith
  weigh-at (x ∷ xs) (suc i) v e = omega (arith, weigh-at xs i v e)

  pub weigh_none : (xs : List A) → length xs ≡ 0 → weigh f xs ≡ 0
  weigh_none [] e = refl
  weigh_none (x ∷ xs) e = absurd (omega arith)

-- where the seats have no share in all, none has a weight
total_none : (f : Share → ℕ) (views : List Sight) → count views ≡ 0 → weigh_shares f views ≡ 0
total_none f [] e = refl
total_none f (v ∷ vs) e =
    let here = weigh_none f v.shares (omega arith) in let rest = total_none f vs (omega arith) in omega arith

-- where one seat has every share, the others have no weight
pub total_one : (f : Share → ℕ) (views : List Sight) (id : ℕ) (v : Sight) → get_elem? views id ≡ some v
    → length v.shares ≡ count views → weigh_shares f views ≡ weigh f v.shares
total_one f [] id v e all = absurd (some-ne-none v (sym e))
total_one f (u ∷ us) zero v e all =
    let same : length u.shares ≡ length v.shares = ap (λ (x : Sight). length x.shares) (some-injective u v e) in
    let here : weigh f u.shares ≡ weigh f v.shares = ap (λ (x : Sight). weigh f x.shares) (some-injective u v e) in
    let rest = total_none f us (omega arith) in omega arith
total_one f (u ∷ us) (suc id) v e all =
    let less : length v.shares ≤ count us = weigh-at (λ (x : Sight). length x.shares) us id v e in
    let here = weigh_none f u.shares (omega arith) in
    let rest = total_one f us id v e (omega arith) in omega arith

-- the others have no share either
pub other_none : (views : List Sight) (id other : ℕ) (v u : Sight) → get_elem? views id ≡ some v
    → length v.shares ≡ count views → other ≢ id → get_elem? views other ≡ some u → length u.shares ≡ 0
other_none [] id other v u e all ne at = absurd (some-ne-none v (sym e))
other_none (x ∷ xs) zero zero v u e all ne at = absurd (ne refl)
other_none (x ∷ xs) zero (suc other) v u e all ne at =
    let same : length x.shares ≡ length v.shares = ap (λ (y : Sight). length y.shares) (some-injective x v e) in
    let less : length u.shares ≤ count xs = weigh-at (λ (y : Sight). length y.shares) xs other u at in omega arith
other_none (x ∷ xs) (suc id) zero v u e all ne at =
    let same : length x.shares ≡ length u.shares = ap (λ (y : Sight). length y.shares) (some-injective x u at) in
    let less : length v.shares ≤ count xs = weigh-at (λ (y : Sight). length y.shares) xs id v e in omega arith
other_none (x ∷ xs) (suc id) (suc other) v u e all ne at =
    let less : length v.shares ≤ count xs = weigh-at (λ (y : Sight). length y.shares) xs id v e in
    other_none xs id other v u e (omega arith) (λ h. ne (ap suc h)) at
