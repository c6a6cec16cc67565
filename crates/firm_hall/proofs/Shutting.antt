-- Facts once all desks and reports are handed in.
use Rattle.std.proofs.Common.{◌≡◌, ℕ, zero, suc, ◌+◌, ◌<◌, ◌≤◌, ◌^◌, List, [], ◌∷◌, ◌++◌, map, length, get_or, take}
use Rattle.std.proofs.Common.{set, refl, ap, ◌∙◌, subst, arith, length-append}
use Rattle.std.proofs.lemmas.List.{length-map}
use Rattle.firm_rules.specs.declared.tickets.Ticket.{Ticket}
use Rattle.firm_rounds.specs.declared.protocol.Share.{Share}
use Rattle.firm_rounds.specs.Rounds.{weigh, share, put_by, got_by, is_at}
use Rattle.firm_rounds.specs.Passes.{PopIs, JobIs, ClosingIs, closing_is, spent_pop}
use Rattle.firm_rounds.specs.Closed.{got_weight, Settled}
use Rattle.firm_rounds.specs.Turning.{turned, turned_at, turned_set, weigh-append, weigh_more}
use Rattle.firm_hall.specs.Desks.{DeskIs, PlaceIs}
use Rattle.firm_hall.specs.Closed.{taken_count, IsClosed}
use Rattle.firm_hall.specs.inner.Gathered.{Gave, IsGathered}
use Rattle.firm_hall.proofs.Once.{asked_once, left_once}

pub one_given : (f : Share → ℕ) (v n : ClosingIs) (x : Share) → n ≡ closing_is v.id (v.shares ++ x ∷ [])
    → weigh f n.shares ≡ weigh f v.shares + f x
one_given f v n x e = let both : weigh f n.shares ≡ weigh f (v.shares ++ x ∷ []) =
    ap (λ (u : ClosingIs). weigh f u.shares) e in omega (arith, weigh-append f v.shares (x ∷ []))

pub ones : {A : Type 0} (xs : List A) → weigh (λ (x : A). 1) xs ≡ length xs
ones [] = refl
ones (x ∷ xs) = omega (arith, ones xs)

-- one report more
pub gave_more : (old : List Share) (v n : ClosingIs) (reports : List PopIs) (i p : ℕ) (y d : PopIs) → i < length reports
    → y ≡ get_or reports i d → n ≡ closing_is v.id (v.shares ++ share p 0 y.got ∷ [])
    → Gave old v.shares (take i reports)
    → Gave old n.shares (take (i + 1) reports)
gave_more old v n reports i p y d low same e gave =
    let x = share p 0 y.got in
    let added : (f : Share → ℕ) → weigh f n.shares ≡ weigh f v.shares + f x = λ f. one_given f v n x e in
    record {
      puts = λ h. omega (arith, gave.puts h, added (put_by h));
      gots = λ h. let at : weigh h y.got ≡ weigh h (get_or reports i d).got = ap (λ (q : PopIs). weigh h q.got) same in
          omega (arith, gave.gots h, added (got_by h), at, weigh_more (λ (q : PopIs). weigh h q.got) i reports d low);
      count = let one = added (λ (s : Share). 1) in let more = weigh_more (λ (q : PopIs). 1) i reports d low in
          omega (
            arith,
            gave.count,
            one,
            more,
            ones n.shares,
            ones v.shares,
            ones (take (i + 1) reports),
            ones (take i reports),
          );
      places = λ q. omega (arith, gave.places q, added (is_at q));
    }

-- one place more, of which the pass is handed in and which is spent
module _ {A : Type 0} (part : A → Share) (spent : A → A) (i : ℕ) (all now : List A) (x : A) (old next : ClosingIs)
    (low : i < length all) (turn : now ≡ turned spent i all)
    (given : next ≡ closing_is old.id (old.shares ++ part (get_or now i x) ∷ [])) where
  same : get_or now i x ≡ get_or all i x
  same = ap (λ (xs : List A). get_or xs i x) turn ∙ turned_at spent i all x low

  pub weight_next : (f : Share → ℕ) (before : ℕ)
      → weigh f old.shares ≡ before + weigh (λ (y : A). f (part y)) (take i all)
      → weigh f next.shares ≡ before + weigh (λ (y : A). f (part y)) (take (i + 1) all)
  weight_next f before e =
      let g : A → ℕ = λ (y : A). f (part y) in
      let at : g (get_or now i x) ≡ g (get_or all i x) = ap g same in
      omega (arith, e, one_given f old next (part (get_or now i x)) given, at, weigh_more g i all x low)

  pub turned_next : (last : A) → last ≡ spent (get_or now i x) → set now i last ≡ turned spent (i + 1) all
  turned_next last e =
      ap (λ (xs : List A). set xs i last) turn
      ∙ (ap (λ (z : A). set (turned spent i all) i z) (e ∙ ap spent same) ∙ turned_set spent i all x low)

single : (g : PopIs → ℕ) (head : List PopIs) (d : PopIs) → length head ≡ 1 → weigh g head ≡ g (get_or head 0 d)
single g [] d e = absurd (omega arith)
single g (x ∷ []) d e = omega arith
single g (x ∷ (y ∷ ys)) d e = absurd (omega arith)

-- who only puts gets nothing
none_got : {A : Type 0} (place put : A → ℕ) (h : Ticket → ℕ) (all : List A)
    → weigh (λ (x : A). got_by h (share (place x) (put x) [])) all ≡ 0
none_got place put h [] = refl
none_got place put h (x ∷ xs) = omega (arith, none_got place put h xs)

pub gathered : (v0 v1 v2 v3 : List Share) (p : ℕ) (head rest reports : List PopIs) (desks : List DeskIs)
    (empty : List PlaceIs) (d first : PopIs)
    → reports ≡ head ++ rest → length head ≡ 1 → first ≡ get_or head 0 d → v0 ≡ share p 0 first.got ∷ []
    → ((f : Share → ℕ) → weigh f v1 ≡ weigh f v0 + weigh (λ q. f (share q.place q.put [])) desks)
    → ((f : Share → ℕ) → weigh f v2 ≡ weigh f v1 + weigh (λ q. f (share q.place q.put [])) empty)
    → Gave v2 v3 rest → IsGathered v3 desks empty reports
gathered v0 v1 v2 v3 p head rest reports desks empty d first cut one same begun more left gave =
    let x = share p 0 first.got in
    let alone : (f : Share → ℕ) → weigh f v0 ≡ f x + 0 = λ f. ap (weigh f) begun in
    let whole : (g : PopIs → ℕ) → weigh g reports ≡ weigh g (head ++ rest) = λ g. ap (weigh g) cut in
    let wide : length reports ≡ length (head ++ rest) = ap (λ (ps : List PopIs). length ps) cut in
    record {
      put = λ h. omega (arith, alone (put_by h), more (put_by h), left (put_by h), gave.puts h);
      got = λ h. let g : PopIs → ℕ = λ (q : PopIs). weigh h q.got in let at : g first ≡ g (get_or head 0 d) =
          ap g same in
          omega (
            arith,
            alone (got_by h),
            more (got_by h),
            left (got_by h),
            gave.gots h,
            whole g,
            weigh-append g head rest,
            single g head d one,
            none_got (λ (q : DeskIs). q.place) (λ (q : DeskIs). q.put) h desks,
            none_got (λ (q : PlaceIs). q.place) (λ (q : PlaceIs). q.put) h empty,
            at,
          );
      count = omega (
        arith,
        alone (λ (s : Share). 1),
        more (λ (s : Share). 1),
        left (λ (s : Share). 1),
        gave.count,
        ones v2,
        ones desks,
        ones empty,
        wide,
        length-append head rest,
      );
      places = λ q. omega (arith, more (is_at q), left (is_at q), gave.places q);
    }

pub shut : (shares : List Share) (desks : List DeskIs) (empty : List PlaceIs) (reports : List PopIs) (jobs : List JobIs)
    → IsGathered shares desks empty reports → Settled shares jobs → IsClosed desks empty reports jobs
shut shares desks empty reports jobs g s = record {
  as_often = λ h. omega (arith, g.put h, g.got h, s.balanced h);
  once = λ t low. omega (arith, asked_once t desks, left_once t empty, g.places t.place, s.placed t.place low);
}

few : (shares : List Share) (desks : List DeskIs) (empty : List PlaceIs) (reports : List PopIs) (jobs : List JobIs)
    → IsGathered shares desks empty reports → Settled shares jobs → got_weight (λ t. 1) reports ≤ 2 ^ 61
few shares desks empty reports jobs g s = omega (arith, g.got (λ t. 1), s.few)

pub spent_weight : (g : PopIs → ℕ) → ((r : PopIs) → g (spent_pop r) ≡ g r) → (reports : List PopIs)
    → weigh g (map spent_pop reports) ≡ weigh g reports
spent_weight g same [] = refl
spent_weight g same (r ∷ rs) = let one = same r in omega (arith, spent_weight g same rs)

pub lengths : (reports : List PopIs) → taken_count reports ≡ got_weight (λ t. 1) reports
lengths [] = refl
lengths (r ∷ rs) = omega (arith, lengths rs, ones r.got)

nothing : (g : PopIs → ℕ) (i : ℕ) → weigh g (take i []) ≡ 0
nothing g zero = refl
nothing g (suc i) = refl

pub weigh_part : (g : PopIs → ℕ) (i : ℕ) (xs : List PopIs) → weigh g (take i xs) ≤ weigh g xs
weigh_part g i [] = let e = nothing g i in omega arith
weigh_part g zero (x ∷ xs) = omega arith
weigh_part g (suc i) (x ∷ xs) = omega (arith, weigh_part g i xs)

take_front : {A : Type 0} (n : ℕ) (xs ys : List A) → n ≡ length xs → take n (xs ++ ys) ≡ xs
take_front {A = A} zero [] [] e = refl
take_front {A = A} zero [] (y ∷ ys) e = refl
take_front {A = A} (suc n) [] ys e = absurd (omega arith)
take_front {A = A} zero (x ∷ xs) ys e = absurd (omega arith)
take_front {A = A} (suc n) (x ∷ xs) ys e = ap (λ (zs : List A). x ∷ zs) (take_front n xs ys (omega arith))

-- what stands in a list of which a slice of its whole length was turned
pub whole_back : {A : Type 0} (f : A → A) (n : ℕ) (items slice new ys : List A) → new ≡ map f slice → slice ≡ items
    → n ≡ length items → take n (new ++ ys) ≡ map f items
whole_back {A = A} f n items slice new ys e same long =
    let now : new ≡ map f items = e ∙ ap (map f) same in
    take_front n new ys (let l : length new ≡ length (map f items) = ap length now in omega (arith, length-map items f))
    ∙ now

-- the same, of lists that a body knows to be these
gathered_in : (shares : List Share) (desks desks' : List DeskIs) (empty empty' : List PlaceIs)
    (reports reports' : List PopIs)
    → desks' ≡ desks → empty' ≡ empty → reports' ≡ reports → IsGathered shares desks' empty' reports'
    → IsGathered shares desks empty reports
gathered_in shares desks desks' empty empty' reports reports' d e r g =
    subst (λ (xs : List PopIs). IsGathered shares desks empty xs) r
    (subst (λ (xs : List PlaceIs). IsGathered shares desks xs reports') e
    (subst (λ (xs : List DeskIs). IsGathered shares xs empty' reports') d g))

pub shut_in : (shares : List Share) (desks desks' : List DeskIs) (empty empty' : List PlaceIs)
    (reports reports' : List PopIs)
    (jobs : List JobIs)
    → desks' ≡ desks → empty' ≡ empty → reports' ≡ reports → IsGathered shares desks' empty' reports'
    → Settled shares jobs
    → IsClosed desks empty reports jobs
shut_in shares desks desks' empty empty' reports reports' jobs d e r g s =
    shut shares desks empty reports jobs (gathered_in shares desks desks' empty empty' reports reports' d e r g) s

pub few_in : (shares : List Share) (desks desks' : List DeskIs) (empty empty' : List PlaceIs)
    (reports reports' : List PopIs)
    (jobs : List JobIs)
    → desks' ≡ desks → empty' ≡ empty → reports' ≡ reports → IsGathered shares desks' empty' reports'
    → Settled shares jobs
    → got_weight (λ t. 1) reports ≤ 2 ^ 61
few_in shares desks desks' empty empty' reports reports' jobs d e r g s =
    few shares desks empty reports jobs (gathered_in shares desks desks' empty empty' reports reports' d e r g) s

pub nil_of : {A : Type 0} (xs : List A) → length xs ≡ 0 → xs ≡ []
nil_of [] e = refl
nil_of (x ∷ xs) e = absurd (omega arith)
