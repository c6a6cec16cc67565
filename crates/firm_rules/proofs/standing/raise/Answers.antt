use Rattle.std.proofs.Common.{◌≡◌, ℕ, ◌+◌, ◌<◌, Bool, true, false, ◌||◌, cond, eqb, max, List, length, get_or, set}
use Rattle.std.proofs.Common.{take, sym, ap, ◌∙◌, arith, ⊎_elim, get_or-set_other, get_or-set_same}
use Rattle.std.specs.List.{list_any}
use Rattle.std.proofs.lemmas.Bool.{cases_eq, cond-true, cond-false, eq-eqb, ne_eqb}
use Rattle.std.proofs.lemmas.List.{length-set, take_all}
use Rattle.std.proofs.lemmas.List.Folds.{list_any_more}
use Rattle.firm_rules.proofs.standing.raise.Goals as goal

least : (n : ℕ) → n ≡ max n 0
least n = omega arith

-- what stands at a place j once the bid was made at another, or there
written : (now : List ℕ) (at j most bid : ℕ) → at < length now → most ≡ max (get_or now at 0) bid
    → get_or (set now at most) j 0 ≡ cond (eqb at j) (max (get_or now j 0) bid) (get_or now j 0)
written now at j most bid there is =
    ⊎_elim
    (λ (e : at ≡ j). ap (λ k. get_or (set now at most) k 0) (sym e) ∙ get_or-set_same now at most 0 there ∙ is
    ∙ ap (λ k. max (get_or now k 0) bid) e
    ∙ sym (cond-true (eqb at j) (max (get_or now j 0) bid) (get_or now j 0) (eq-eqb at j e)))
    (λ (ne : at ≡ j → ⊥). get_or-set_other now at j most 0 (λ (e : j ≡ at). ne (sym e))
    ∙ sym (cond-false (eqb at j) (max (get_or now j 0) bid) (get_or now j 0) (ne_eqb at j ne)))
    (cases_eq at j)

-- the highest of what stood there and the bids made there, with one more
higher : (old bid : ℕ) (before here : Bool) (now new : ℕ) → now ≡ max old (cond before bid 0)
    → new ≡ cond here (max now bid) now → new ≡ max old (cond (before || here) bid 0)
higher old bid true true now new is made = omega (arith, is, made)
higher old bid true false now new is made = omega (arith, is, made)
higher old bid false true now new is made = omega (arith, is, made)
higher old bid false false now new is made = omega (arith, is, made)

next : (old now places : List ℕ) (i bid most : ℕ) → i < length places → get_or places i 0 < length now
    → most ≡ max (get_or now (get_or places i 0) 0) bid → (j : ℕ)
    → get_or now j 0 ≡ max (get_or old j 0) (cond (list_any (λ place. eqb place j) (take i places)) bid 0)
    → get_or (set now (get_or places i 0) most) j 0
    ≡ max (get_or old j 0) (cond (list_any (λ place. eqb place j) (take (i + 1) places)) bid 0)
next old now places i bid most below there is j before =
    let at : ℕ = get_or places i 0 in
    higher (get_or old j 0) bid (list_any (λ (place : ℕ). eqb place j) (take i places)) (eqb at j) (get_or now j 0)
    (get_or (set now at most) j 0) before (written now at j most bid there is)
    ∙ ap (λ (b : Bool). max (get_or old j 0) (cond b bid 0))
    (sym (list_any_more (λ (place : ℕ). eqb place j) places i 0 below))

inside : (at : ℕ) (now : List ℕ) → at < 4096 → length now ≡ 4096 → at < length now
inside at now below long = omega (arith, below, long)

pub bounds-bids-at : goal.bounds-bids-at
bounds-bids-at c = c.requires c.loop-place.place-index 0 c.loop-place-test.true

pub bounds-bids-at-in-loop-place : goal.bounds-bids-at-in-loop-place
bounds-bids-at-in-loop-place c = c.requires c.loop-place.place-index 0 c.loop-place-test.true

pub loop-place-init : goal.loop-place-init
loop-place-init c = (omega arith, λ j l. least (get_or c.args.bids.now j 0))

pub loop-place-preserved : goal.loop-place-preserved
loop-place-preserved c =
    let at = get_or c.args.places.now c.loop-place.place-index 0 in (
      length-set c.loop-place.bids at c.max.result ∙ c.loop-place.invariant.0,
      λ j l. next c.args.bids.now c.loop-place.bids c.args.places.now c.loop-place.place-index c.args.bid c.max.result
          c.loop-place-test.true
          (inside at c.loop-place.bids (c.requires c.loop-place.place-index 0 c.loop-place-test.true)
          c.loop-place.invariant.0)
          c.max.ensures j (c.loop-place.invariant.1 j l),
    )

pub returns : goal.returns
returns c = λ j l.
    c.loop-place.invariant.1 j l
    ∙ ap (λ (xs : List ℕ). max (get_or c.args.bids.now j 0)
    (cond (list_any (λ (place : ℕ). eqb place j) xs) c.args.bid 0))
    (take_all c.loop-place.place-index c.args.places.now c.loop-place-test.false)
