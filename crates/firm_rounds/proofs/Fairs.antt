-- Each step keeps the rule of the round queue.
use Rattle.std.proofs.Common.{◌≡◌, ◌≢◌, ℕ, zero, suc, ◌+◌, ◌-◌, ◌<◌, ◌≤◌, cond, ◌^◌}
use Rattle.std.proofs.Common.{List, [], ◌∷◌, ◌++◌, length, set, sym, refl, ap, ◌∙◌, subst, arith, length-append}
use Rattle.std.proofs.Common.{⊎_elim, add-one, ne_eqb}
use Rattle.std.proofs.lemmas.List.{map-append}
use Rattle.std.proofs.lemmas.Bool.Decides.{nat_tests}
use Rattle.firm_rounds.proofs.Caps.{cap_after, within_here, caps_cover}
use mathlib.Core.Logic.{dite}
use native.Mathlib.Decide.{ℕ_discrete}
use mathlib.Core.Option.{some}
use lib.ListN.{get_elem?}
use Rattle.crossbeam_queue.specs.Fifo.{Pushes, Pops, Forks, Merges, Learns}
use Rattle.crossbeam_queue.proofs.Lists.{at_set, at_snoc}
use Rattle.firm_rules.specs.declared.tickets.Ticket.{Ticket}
use Rattle.firm_rounds.specs.declared.protocol.JobParts.{JobParts}
use Rattle.firm_rounds.specs.declared.protocol.Share.{Share}
use Rattle.firm_rounds.specs.declared.protocol.Sight.{Sight}
use Rattle.firm_rounds.specs.Rounds.{weigh, ticket, share, numbered, put_by}
use Rattle.firm_rounds.specs.Rule.{weigh_shares, count, tickets, cap, excess, FewGot, Fair, Holds}
use Rattle.firm_rounds.specs.inner.Seats.{sight, fresh, grown_to, nothing, with_new_share}
use Rattle.firm_rounds.specs.Rounds.{got_by}
use Rattle.firm_rounds.specs.Rounds.{is_at, beyond}
use Rattle.firm_rounds.specs.inner.Seats.{left_over, cut_off, given_away, joined, without_second, second, after_put}
use Rattle.firm_rounds.specs.Rounds.{share_of}
use Rattle.firm_rounds.specs.inner.Seats.{got_more, after_pop, IsShareOf}
use Rattle.firm_rounds.specs.Turning.{weigh-append}
use Rattle.firm_rounds.proofs.Weighs.{weigh-set, weigh-at, total_one, other_none}

-- every seat with a share knows how many there are
abbrev Agree : ℕ → List Sight → Type 0
Agree all views = (id : ℕ) (v : Sight) → get_elem? views id ≡ some v → 0 < length v.shares → v.all ≡ all

agree_set : (all : ℕ) (views : List Sight) (id : ℕ) (w : Sight) → (0 < length w.shares → w.all ≡ all)
    → ((j : ℕ) (u : Sight) → j ≢ id → get_elem? views j ≡ some u → 0 < length u.shares → u.all ≡ all)
    → Agree all (set views id w)
agree_set all views id w mine others j u at some_share =
    ⊎_elim (λ (x : (j ≡ id) × (w ≡ u)). let same : w.all
    ≡ u.all = ap (λ (y : Sight). y.all) x.1 in let wide : length w.shares ≡ length u.shares =
    ap (λ (y : Sight). length y.shares) x.1 in sym same ∙ mine (omega arith))
    (λ (x : (j ≢ id) × (get_elem? views j ≡ some u)). others j u x.0 x.1 some_share) (at_set views id j w u at)

-- one seat's view changes, and the queue
changes : (items items' : List JobParts) (views : List Sight) (id : ℕ) (v w : Sight) → Fair items views
    → get_elem? views id ≡ some v → w.all ≡ v.all → length w.shares ≡ length v.shares → length items' ≤ 8
    → ((place : ℕ) → weigh (is_at place) w.shares ≡ weigh (is_at place) v.shares)
    → (weigh excess w.shares ≡ weigh excess v.shares) → (weigh cap w.shares ≡ weigh cap v.shares)
    → ((h : Ticket
    → ℕ) → (weigh (put_by h) w.shares + weigh (got_by h) v.shares) + weigh h (tickets items)
    ≡ (weigh (put_by h) v.shares + weigh (got_by h) w.shares) + weigh
    h (tickets items'))
    → Fair items' (set views id w)
changes items items' views id v w fair at same wide few there more caps balance = record {
  all = fair.all;
  agree = agree_set fair.all views id w (λ s. same ∙ fair.agree id v at (omega arith)) (λ j u ne. fair.agree j u);
  counted = omega (arith, fair.counted, weigh-set (λ (x : Sight). length x.shares) views id v w at);
  balanced =
      λ h. omega (
        arith,
        fair.balanced h,
        balance h,
        weigh-set (λ (x : Sight). weigh (put_by h) x.shares) views id v w at,
        weigh-set (λ (x : Sight). weigh (got_by h) x.shares) views id v w at,
      );
  placed =
      λ place low. omega (
        arith,
        fair.placed place low,
        there place,
        weigh-set (λ (x : Sight). weigh (is_at place) x.shares) views id v w at,
      );
  within = omega (arith, fair.within, more, weigh-set (λ (x : Sight). weigh excess x.shares) views id v w at);
  capped = omega (arith, fair.capped, caps, weigh-set (λ (x : Sight). weigh cap x.shares) views id v w at);
  few = few;
}

tickets-append : (items : List JobParts) (x : JobParts) (h : Ticket → ℕ)
    → weigh h (tickets (items ++ x ∷ [])) ≡ weigh h (tickets items) + h x.ticket
tickets-append items x h =
    ap (weigh h) (map-append (λ (y : JobParts). y.ticket) items (x ∷ []))
    ∙ (weigh-append h (tickets items) (x.ticket ∷ []) ∙ omega arith)

numbered_more : (place k : ℕ) → numbered place (k + 1) ≡ numbered place k ++ ticket place (k + 1) ∷ []
numbered_more place k =
    ap (numbered place) (add-one k) ∙ ap (λ (n : ℕ). numbered place k ++ ticket place n ∷ []) (sym (add-one k))

pub puts : (n id : ℕ) (all place k : ℕ) (x : JobParts) → place < 64 → k < 2 ^ 55 → n ≡ 8
    → x.ticket ≡ ticket place (k + 1)
    → Pushes Fair n id (sight all (share place k [] ∷ [])) x (λ w. w ≡ after_put (sight all (share place k [] ∷ [])))
puts n id all place k x low less eight next items views room fair at =
    let v = sight all (share place k [] ∷ []) in let w = after_put v in (
      w,
      changes items (items ++ x ∷ []) views id v w fair at refl refl (omega (arith, length-append items (x ∷ [])))
          (λ p. refl) (within_here place k low less) refl
          (λ h. let same : h x.ticket ≡ h (ticket place (k + 1)) = ap h next in
          omega (
            arith,
            tickets-append items x h,
            weigh-append h (numbered place k) (ticket place (k + 1) ∷ []),
            ap (weigh h) (numbered_more place k),
          )),
      refl,
    )

got_more_wide : (t : Ticket) (xs : List Share) → length (got_more t xs) ≡ length xs
got_more_wide t [] = refl
got_more_wide t (x ∷ xs) = refl

got_more_at : (t : Ticket) (xs : List Share) (p : ℕ) → weigh (is_at p) (got_more t xs) ≡ weigh (is_at p) xs
got_more_at t [] p = refl
got_more_at t (x ∷ xs) p = refl

got_more_put : (t : Ticket) (xs : List Share) (h : Ticket → ℕ) → weigh (put_by h) (got_more t xs) ≡ weigh (put_by h) xs
got_more_put t [] h = refl
got_more_put t (x ∷ xs) h = refl

got_more_got : (t : Ticket) (xs : List Share) (h : Ticket → ℕ) → 0 < length xs
    → weigh (got_by h) (got_more t xs) ≡ weigh (got_by h) xs + h t
got_more_got t [] h s = absurd (omega arith)
got_more_got t (x ∷ xs) h s = omega (arith, weigh-append h x.got (t ∷ []))

got_more_excess : (t : Ticket) (xs : List Share) → weigh excess (got_more t xs) ≡ weigh excess xs
got_more_excess t [] = refl
got_more_excess t (x ∷ xs) = refl

got_more_cap : (t : Ticket) (xs : List Share) → weigh cap (got_more t xs) ≡ weigh cap xs
got_more_cap t [] = refl
got_more_cap t (x ∷ xs) = refl

pub pops : (id : ℕ) (v : Sight) → 0 < length v.shares → Pops Fair id v (λ x w. w ≡ after_pop x.ticket v)
pops id v some_share x items views fair at =
    let w = after_pop x.ticket v in let few = fair.few in (
      w,
      changes (x ∷ items) items views id v w fair at refl (got_more_wide x.ticket v.shares) (omega arith)
          (got_more_at x.ticket v.shares) (got_more_excess x.ticket v.shares) (got_more_cap x.ticket v.shares)
          (λ h. omega (arith, got_more_put x.ticket v.shares h, got_more_got x.ticket v.shares h some_share)),
      refl,
    )

-- and it got no more than the places could put
pub pops_few : (id : ℕ) (v : Sight) → 0 < length v.shares
    → Pops Fair id v (λ x w. (w ≡ after_pop x.ticket v) × FewGot w)
unfolding pops
pops_few id v some_share x items views fair at =
    let p = pops id v some_share x items views fair at in
    let one : Ticket → ℕ = λ (t : Ticket). 1 in
    let mine = weigh-at (λ (y : Sight). weigh (got_by one) y.shares) views id v at in
    let more = got_more_got x.ticket v.shares one some_share in
    let few : FewGot (after_pop x.ticket v) =
    omega (arith, fair.balanced one, fair.within, fair.capped, caps_cover views) in
    (after_pop x.ticket v, p.1, (refl, few))

-- the seat with every share knows what the queue holds
pub ends : (id : ℕ) (v : Sight) → v.all ≤ length v.shares → 0 < v.all → Learns Fair id v (Holds v)
ends id v whole some_share items views fair at =
    let all_is = fair.agree id v at (omega arith) in
    let within : length v.shares ≤ count views = weigh-at (λ (x : Sight). length x.shares) views id v at in
    let every : length v.shares ≡ count views = omega (arith, fair.counted) in (
      (λ h. omega
          (arith, fair.balanced h, total_one (put_by h) views id v at every, total_one (got_by h) views id v at every)),
      (λ p low. omega (arith, fair.placed p low, total_one (is_at p) views id v at every)),
      fair.few,
      (let one : Ticket → ℕ = λ (t : Ticket). 1 in omega (
        arith,
        fair.balanced one,
        fair.within,
        fair.capped,
        caps_cover views,
        weigh-at (λ (y : Sight). weigh (got_by one) y.shares) views id v at,
      )),
    )

beyond_all : (p : ℕ) → p < beyond → is_at p (share beyond 0 []) ≡ 0
beyond_all p low = let ne : p ≢ beyond = λ e. omega arith in ap (λ b. cond b 1 0) (ne_eqb p beyond ne)

-- places
fresh_wide : (from n : ℕ) → length (fresh from n) ≡ n
fresh_wide from zero = refl
fresh_wide from (suc n) = omega (arith, length-append (fresh from n) (share (from + n) 0 [] ∷ []), fresh_wide from n)

-- a place outside is in no share
fresh_out : (from n p : ℕ) → from + n ≤ p → weigh (is_at p) (fresh from n) ≡ 0
fresh_out from zero p h = refl
fresh_out from (suc n) p h =
    let ne : p ≢ from + n = λ e. omega arith in
    let out : is_at p (share (from + n) 0 []) ≡ 0 = ap (λ b. cond b 1 0) (ne_eqb p (from + n) ne) in
    omega (arith, weigh-append (is_at p) (fresh from n) (share (from + n) 0 [] ∷ []), fresh_out from n p (omega arith))

is_at_most : (p : ℕ) (x : Share) → is_at p x ≤ 1
is_at_most p x = grind (arith, nat_tests)

next_at : (n p : ℕ) → weigh (is_at p) (fresh 0 n) ≤ 1 → weigh (is_at p) (fresh 0 n) + is_at p (share (0 + n) 0 []) ≤ 1
next_at n p few = dite (ℕ_discrete p (0 + n))
    (λ here. let out = fresh_out 0 n p (omega arith) in let one = is_at_most p (share (0 + n) 0 []) in omega arith)
    (λ ne. let none : is_at p (share (0 + n) 0 []) ≡ 0 = ap (λ b. cond b 1 0) (ne_eqb p (0 + n) ne) in omega arith)

fresh_most : (n p : ℕ) → weigh (is_at p) (fresh 0 n) ≤ 1
fresh_most zero p = omega arith
fresh_most (suc n) p =
    let e = next_at n p (fresh_most n p) in omega (arith, weigh-append (is_at p) (fresh 0 n) (share (0 + n) 0 [] ∷ []))

pub grown_to_more : (n : ℕ) → with_new_share (grown_to n) ≡ grown_to (n + 1)
grown_to_more n =
    let k : suc (length (fresh 0 n)) - 1 ≡ 0 + n = omega (arith, fresh_wide 0 n) in
    ap (λ (j : ℕ). sight (n + 1 + 1) (share beyond 0 [] ∷ (fresh 0 n ++ share j 0 [] ∷ []))) k
    ∙ ap (λ (j : ℕ). sight (n + 1 + 1) (share beyond 0 [] ∷ fresh 0 j)) (sym (add-one n))

-- one seat is cut in two
forks : (items : List JobParts) (views : List Sight) (id all' : ℕ) (v l r : Sight) → (fair : Fair items views)
    → get_elem? views id ≡ some v
    → (0 < length l.shares → l.all ≡ all') → (0 < length r.shares → r.all ≡ all')
    → ((j : ℕ) (u : Sight) → j ≢ id → get_elem? views j ≡ some u → 0 < length u.shares → u.all ≡ all')
    → (length l.shares + length r.shares) + fair.all ≡ all' + length v.shares
    → ((h : Ticket → ℕ) → weigh (put_by h) l.shares + weigh (put_by h) r.shares ≡ weigh (put_by h) v.shares)
    → ((h : Ticket → ℕ) → weigh (got_by h) l.shares + weigh (got_by h) r.shares ≡ weigh (got_by h) v.shares)
    → ((p : ℕ) → p < beyond
    → weigh_shares (is_at p) views + (weigh (is_at p) l.shares + weigh (is_at p) r.shares)
    ≤ 1 + weigh (is_at p) v.shares)
    → (weigh excess l.shares + weigh excess r.shares ≡ weigh excess v.shares)
    → (weigh_shares cap views + (weigh cap l.shares + weigh cap r.shares) ≤ 2 ^ 61 + weigh cap v.shares)
    → Fair items (set views id l ++ r ∷ [])
forks items views id all' v l r fair at la ra others wide put got placed more caps = record {
  all = all';
  agree = λ j u e s. ⊎_elim (λ x. agree_set all' views id l la others j u x s)
      (λ (x : r ≡ u). let same : r.all ≡ u.all = ap (λ (y : Sight). y.all) x in let w : length r.shares
      ≡ length u.shares = ap (λ (y : Sight). length y.shares) x in sym same ∙ ra (omega arith))
      (at_snoc (set views id l) r u j e);
  counted =
      omega (
        arith,
        wide,
        fair.counted,
        weigh-set (λ (x : Sight). length x.shares) views id v l at,
        weigh-append (λ (x : Sight). length x.shares) (set views id l) (r ∷ []),
      );
  balanced = λ h. omega (
    arith,
    put h,
    got h,
    fair.balanced h,
    weigh-set (λ (x : Sight). weigh (put_by h) x.shares) views id v l at,
    weigh-append (λ (x : Sight). weigh (put_by h) x.shares) (set views id l) (r ∷ []),
    weigh-set (λ (x : Sight). weigh (got_by h) x.shares) views id v l at,
    weigh-append (λ (x : Sight). weigh (got_by h) x.shares) (set views id l) (r ∷ []),
  );
  placed =
      λ p low. omega (
        arith,
        placed p low,
        weigh-set (λ (x : Sight). weigh (is_at p) x.shares) views id v l at,
        weigh-append (λ (x : Sight). weigh (is_at p) x.shares) (set views id l) (r ∷ []),
      );
  within =
      omega (
        arith,
        fair.within,
        more,
        weigh-set (λ (x : Sight). weigh excess x.shares) views id v l at,
        weigh-append (λ (x : Sight). weigh excess x.shares) (set views id l) (r ∷ []),
      );
  capped =
      omega (
        arith,
        caps,
        weigh-set (λ (x : Sight). weigh cap x.shares) views id v l at,
        weigh-append (λ (x : Sight). weigh cap x.shares) (set views id l) (r ∷ []),
      );
  few = fair.few;
}

grows_here : (id n : ℕ) → Forks Fair id (grown_to n) (with_new_share (grown_to n)) nothing
grows_here id n items views fair at =
    let v = grown_to n in let l = with_new_share v in
    let long : length v.shares ≡ n + 1 = omega (arith, fresh_wide 0 n) in
    let all_is : v.all ≡ fair.all = fair.agree id v at (omega arith) in
    let every : length v.shares ≡ count views = omega (arith, fair.counted) in
    let new = share (length v.shares - 1) 0 [] in
    forks items views id (n + 1 + 1) v l nothing fair at (λ s. refl) (λ s. absurd (omega arith))
    (λ j u ne e s. absurd (let none = other_none views id j v u at every ne e in omega arith))
    (omega (arith, length-append v.shares (new ∷ [])))
    (λ h. omega (arith, weigh-append (put_by h) v.shares (new ∷ [])))
    (λ h. omega (arith, weigh-append (got_by h) v.shares (new ∷ [])))
    (λ p low. let out = beyond_all p low in let one = total_one (is_at p) views id v at every in
    let k : length v.shares - 1 ≡ 0 + n = omega arith in
    let moved : is_at p new ≡ is_at p (share (0 + n) 0 []) = ap (λ (j : ℕ). is_at p (share j 0 [])) k in
    let new_at = next_at n p (fresh_most n p) in
    omega (arith, weigh-append (is_at p) v.shares (new ∷ [])))
    (omega (arith, weigh-append excess v.shares (new ∷ [])))
    (let k : length v.shares - 1 ≡ 0 + n = omega arith in
    let moved : cap new ≡ cap (share (0 + n) 0 []) = ap (λ (j : ℕ). cap (share j 0 [])) k in
    omega (arith, total_one cap views id v at every, weigh-append cap v.shares (new ∷ []), cap_after n))

pub grows : (id n : ℕ) (v : Sight) → v ≡ grown_to n → Forks Fair id v (with_new_share v) nothing
grows id n v e = rw e (grows_here id n)

cut_weight : (f : Share → ℕ) (xs : List Share) → weigh f (without_second xs) + weigh f (second xs) ≡ weigh f xs
cut_weight f [] = refl
cut_weight f (x ∷ []) = omega arith
cut_weight f (x ∷ (y ∷ zs)) = omega arith

cut_wide : (xs : List Share) → length (without_second xs) + length (second xs) ≡ length xs
cut_wide [] = refl
cut_wide (x ∷ []) = omega arith
cut_wide (x ∷ (y ∷ zs)) = omega arith

pub cuts : (id : ℕ) (v : Sight) → 0 < length v.shares → Forks Fair id v (left_over v) (cut_off v)
cuts id v some_share items views fair at =
    let all_is : v.all ≡ fair.all = fair.agree id v at some_share in
    forks items views id fair.all v (left_over v) (cut_off v) fair at (λ s. all_is) (λ s. all_is)
    (λ j u ne. fair.agree j u)
    (omega (arith, cut_wide v.shares)) (λ h. cut_weight (put_by h) v.shares) (λ h. cut_weight (got_by h) v.shares)
    (λ p low. omega (arith, fair.placed p low, cut_weight (is_at p) v.shares)) (cut_weight excess v.shares)
    (omega (arith, fair.capped, cut_weight cap v.shares))

-- one seat takes another's shares
pub merges : (id other : ℕ) (v w : Sight) → 0 < length v.shares → Merges Fair id v other w (joined v w) nothing
merges id other v w some_share items views fair at ne at' =
    let both = joined v w in let vs = set views id both in
    let all_is : v.all ≡ fair.all = fair.agree id v at some_share in
    let inner : Agree fair.all vs = agree_set fair.all views id both (λ s. all_is) (λ j u n. fair.agree j u) in
    let one = λ (f : Sight → ℕ). weigh-set f views id v both at in
    let two = λ (f : Sight → ℕ). weigh-set f vs other w nothing at' in
    record {
      all = fair.all;
      agree = agree_set fair.all vs other nothing (λ s. absurd (omega arith)) (λ j u n. inner j u);
      counted =
          omega (
            arith,
            fair.counted,
            one (λ (x : Sight). length x.shares),
            two (λ (x : Sight). length x.shares),
            length-append v.shares w.shares,
          );
      balanced = λ h. omega (
        arith,
        fair.balanced h,
        one (λ (x : Sight). weigh (put_by h) x.shares),
        two (λ (x : Sight). weigh (put_by h) x.shares),
        weigh-append (put_by h) v.shares w.shares,
        one (λ (x : Sight). weigh (got_by h) x.shares),
        two (λ (x : Sight). weigh (got_by h) x.shares),
        weigh-append (got_by h) v.shares w.shares,
      );
      placed =
          λ p low. omega (
            arith,
            fair.placed p low,
            one (λ (x : Sight). weigh (is_at p) x.shares),
            two (λ (x : Sight). weigh (is_at p) x.shares),
            weigh-append (is_at p) v.shares w.shares,
          );
      within =
          omega (
            arith,
            fair.within,
            one (λ (x : Sight). weigh excess x.shares),
            two (λ (x : Sight). weigh excess x.shares),
            weigh-append excess v.shares w.shares,
          );
      capped =
          omega (
            arith,
            fair.capped,
            one (λ (x : Sight). weigh cap x.shares),
            two (λ (x : Sight). weigh cap x.shares),
            weigh-append cap v.shares w.shares,
          );
      few = fair.few;
    }

pub puts_as : (n id all place k : ℕ) (v : Sight) (x : JobParts) → place < 64 → k < 2 ^ 55 → n ≡ 8
    → x.ticket ≡ ticket place (k + 1) → v ≡ sight all (share place k [] ∷ [])
    → Pushes Fair n id v x (λ w. w ≡ after_put v)
puts_as n id all place k v x low less eight next e = rw e (puts n id all place k x low less eight next)

pub gives : (id : ℕ) (v : Sight) → 0 < length v.shares → Forks Fair id v (given_away v) v
gives id v some_share items views fair at =
    let all_is : v.all ≡ fair.all = fair.agree id v at some_share in
    forks items views id fair.all v (given_away v) v fair at (λ s. absurd (omega arith)) (λ s. all_is)
    (λ j u ne. fair.agree j u)
    (omega arith) (λ h. omega arith) (λ h. omega arith) (λ p low. omega (arith, fair.placed p low)) (omega arith)
    (omega (arith, fair.capped))

pub some_of : (x : Share) (v : Sight) → IsShareOf x v → 0 < v.all → 0 < length v.shares
some_of x v is live = let wide = ap (λ (u : Sight). length u.shares) (is.1 live) in omega arith

ones : (xs : List Ticket) → weigh (λ (t : Ticket). 1) xs ≡ length xs
ones [] = refl
ones (x ∷ xs) = omega (arith, ones xs)

-- what a pass with one share is after a pop
abbrev pub Counts : ℕ → Sight → Type 0
Counts n w = (n ≡ length (share_of w).got) × (n ≤ 2 ^ 61) × IsShareOf (share (share_of w).place 0 (share_of w).got) w

counts_here : (t : Ticket) (all p n : ℕ) (got : List Ticket) → FewGot (after_pop t (sight all (share p 0 got ∷ [])))
    → n ≡ length got → Counts (n + 1) (after_pop t (sight all (share p 0 got ∷ [])))
counts_here t all p n got few e =
    let long = length-append got (t ∷ []) in let same =
    ones (got ++ t ∷ []) in (omega arith, omega arith, (refl, λ live. refl))

pub counts : (t : Ticket) (all p n : ℕ) (got : List Ticket) (v w : Sight) → v ≡ sight all (share p 0 got ∷ [])
    → w ≡ after_pop t v → FewGot w → n ≡ length got → Counts (n + 1) w
counts t all p n got v w e s few same =
    let whole : w ≡ after_pop t (sight all (share p 0 got ∷ [])) = s ∙ ap (after_pop t) e in
    let few' : FewGot (after_pop t (sight all (share p 0 got ∷ []))) = subst FewGot whole few in
    subst (λ (u : Sight). Counts (n + 1) u) (sym whole) (counts_here t all p n got few' same)

-- what a pop by the seat with every share changes
pub pop_changes : (t : Ticket) (v w : Sight) → 0 < length v.shares → w ≡ after_pop t v
    → (w.all ≡ v.all) × (length w.shares ≡ length v.shares)
    × ((p : ℕ) → weigh (is_at p) w.shares ≡ weigh (is_at p) v.shares)
    × ((h : Ticket
    → ℕ) → (weigh (put_by h) w.shares ≡ weigh (put_by h) v.shares)
    × (weigh (got_by h) w.shares ≡ weigh (got_by h) v.shares + h t))
pop_changes t v w s e = (
  ap (λ (u : Sight). u.all) e,
  ap (λ (u : Sight). length u.shares) e ∙ got_more_wide t v.shares,
  (λ p. ap (λ (u : Sight). weigh (is_at p) u.shares) e ∙ got_more_at t v.shares p),
  λ h. (
    ap (λ (u : Sight). weigh (put_by h) u.shares) e
        ∙ got_more_put t v.shares h,
    ap (λ (u : Sight). weigh (got_by h) u.shares) e ∙ got_more_got t v.shares h s,
  ),
)

tickets_wide : (items : List JobParts) → weigh (λ (t : Ticket). 1) (tickets items) ≡ length items
tickets_wide [] = refl
tickets_wide (x ∷ xs) = omega (arith, tickets_wide xs)

tickets_none : (items : List JobParts) (h : Ticket → ℕ) → length items ≡ 0 → weigh h (tickets items) ≡ 0
tickets_none [] h e = refl
tickets_none (x ∷ xs) h e = absurd (omega arith)

-- at most eight jobs are left
pub at_most_eight : (v : Sight) → ((items : List JobParts) × Holds v items)
    → weigh (put_by (λ t. 1)) v.shares ≤ weigh (got_by (λ t. 1)) v.shares + 8
at_most_eight v k = let items = k.0 in let few = k.1.2 in let all = k.1.0 (λ t. 1) in omega (arith, tickets_wide items)

-- where the queue is empty, or as many were got as were put, all that was put was got
pub settled : (v : Sight) (items : List JobParts) → length items ≡ 0 → Holds v items → (h : Ticket → ℕ)
    → weigh (put_by h) v.shares ≡ weigh (got_by h) v.shares
settled v items e k h = omega (arith, k.0 h, tickets_none items h e)

pub settled_by_count : (v : Sight) → ((items : List JobParts) × Holds v items)
    → weigh (put_by (λ t. 1)) v.shares ≤ weigh (got_by (λ t. 1)) v.shares → (h : Ticket → ℕ)
    → weigh (put_by h) v.shares ≡ weigh (got_by h) v.shares
settled_by_count v k le =
    let items = k.0 in let all = k.1.0 (λ t. 1) in settled v items (omega (arith, tickets_wide items)) k.1
