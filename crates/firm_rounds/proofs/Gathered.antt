-- The lists of the keeping seat after a share was added.
use Rattle.std.proofs.Common.{◌≡◌, ℕ, ◌+◌, ◌<◌, ◌≤◌, List, [], ◌∷◌, ◌++◌, length, get_or, sym, refl, ap, ◌∙◌, arith}
use Rattle.std.proofs.Common.{length-append}
use Rattle.firm_rounds.specs.declared.protocol.Share.{Share}
use Rattle.firm_rounds.specs.declared.protocol.Sight.{Sight}
use Rattle.firm_rounds.specs.Rounds.{weigh, share, put_by, got_by, is_at, beyond}
use Rattle.firm_rounds.specs.inner.Seats.{sight, joined}
use Rattle.firm_rules.specs.declared.tickets.Ticket.{Ticket}
use Rattle.firm_rounds.specs.Passes.{PutIs, PopIs, JobIs}
use Rattle.firm_rounds.specs.Closed.{AsOften, job_weight}
use Rattle.firm_rounds.specs.inner.Gathered.{AddsPops, HasAll}
use Rattle.firm_rounds.specs.Turning.{weigh-append}

pub joined_weigh : (f : Share → ℕ) (v w n : Sight) (all : ℕ) (x : Share) → n ≡ joined v w → w ≡ sight all (x ∷ [])
    → weigh f n.shares ≡ weigh f v.shares + f x
joined_weigh f v w n all x e s =
    let one : weigh f w.shares ≡ f x + 0 = ap (λ (u : Sight). weigh f u.shares) s in
    let both : weigh f n.shares ≡ weigh f (v.shares ++ w.shares) = ap (λ (u : Sight). weigh f u.shares) e in
    omega (arith, weigh-append f v.shares w.shares)

pub joined_some : (v w n : Sight) → n ≡ joined v w → 0 < length v.shares → 0 < length n.shares
joined_some v w n e s =
    let both : length n.shares ≡ length (v.shares ++ w.shares) =
    ap (λ (u : Sight). length u.shares) e in omega (arith, length-append v.shares w.shares)

pub weigh_one : {A : Type 0} (xs : List A) → weigh (λ (x : A). 1) xs ≡ length xs
weigh_one [] = refl
weigh_one (x ∷ xs) = omega (arith, weigh_one xs)

single : (g : PopIs → ℕ) (head : List PopIs) (d : PopIs) → length head ≡ 1 → weigh g head ≡ g (get_or head 0 d)
single g [] d e = absurd (omega arith)
single g (x ∷ []) d e = omega arith
single g (x ∷ (y ∷ ys)) d e = absurd (omega arith)

none_got : (h : Ticket → ℕ) (puts : List PutIs) → weigh (λ (q : PutIs). got_by h (share q.place q.put [])) puts ≡ 0
none_got h [] = refl
none_got h (x ∷ xs) = omega (arith, none_got h xs)

pub gathered : (v0 v1 v2 : Sight) (all p : ℕ) (head rest pops : List PopIs) (puts : List PutIs) (d : PopIs)
    → pops ≡ head ++ rest → length head ≡ 1 → v0 ≡ sight all (share p 0 (get_or head 0 d).got ∷ [])
    → ((f : Share → ℕ) → weigh f v1.shares ≡ weigh f v0.shares + weigh (λ q. f (share q.place q.put [])) puts)
    → AddsPops v1 v2 rest → HasAll v2 puts pops
gathered v0 v1 v2 all p head rest pops puts d cut one first more adds =
    let x = share p 0 (get_or head 0 d).got in
    let alone : (f : Share → ℕ) → weigh f v0.shares ≡ f x + 0 = λ f. ap (λ (u : Sight). weigh f u.shares) first in
    let whole : (g : PopIs → ℕ) → weigh g pops ≡ weigh g (head ++ rest) = λ g. ap (weigh g) cut in
    let wide : length pops ≡ length (head ++ rest) = ap (λ (ps : List PopIs). length ps) cut in
    record {
      put = λ h. omega (arith, alone (put_by h), more (put_by h), adds.puts h);
      got = λ h. let g : PopIs → ℕ =
          λ (q : PopIs). weigh h q.got in
          omega (
            arith,
            alone (got_by h),
            more (got_by h),
            adds.gots h,
            whole g,
            weigh-append g head rest,
            single g head d one,
            none_got h puts,
          );
      count = omega (
        arith,
        alone (λ (s : Share). 1),
        more (λ (s : Share). 1),
        adds.count,
        weigh_one v2.shares,
        weigh_one puts,
        wide,
        length-append head rest,
      );
      places = λ q. omega (arith, more (is_at q), adds.places q);
    }

-- a seat that has all shares, and settles them with these jobs
pub as_often : (v : Sight) (puts : List PutIs) (pops : List PopIs) (jobs : List JobIs) → HasAll v puts pops
    → ((h : Ticket → ℕ) → weigh (put_by h) v.shares ≡ weigh (got_by h) v.shares + job_weight h jobs)
    → ((place : ℕ) → place < beyond → weigh (is_at place) v.shares ≤ 1) → AsOften puts pops jobs
as_often v puts pops jobs has balanced placed = record {
  balanced = λ h. omega (arith, balanced h, has.put h, has.got h);
  placed = λ place low. omega (arith, has.places place, placed place low);
}
