-- Each step keeps the rule of the bell.
use Rattle.std.proofs.Common.{◌≡◌, ◌≢◌, ◌⊎◌, ℕ, zero, suc, ◌+◌, ◌-◌, ◌%◌, ◌^◌, ◌<◌, ◌≤◌, Bool, true, false}
use Rattle.std.proofs.Common.{List, [], ◌∷◌, ◌++◌, length, get_or, set, sym, refl, ap, ◌∙◌, subst, arith, inl, inr}
use Rattle.std.proofs.Common.{⊎_elim, eqb, eq-eqb, ne_eqb, max}
use mathlib.Core.Logic.{dite}
use mathlib.Core.Option.{none, some, some-injective, some-ne-none}
use native.Mathlib.Decide.{ℕ_discrete}
use lib.ListN.{get_elem?}
use prog.Atomic.{either}
use Rattle.atomic_table.specs.Table.{step, keeps, Allows, Enters, Arrives}
use Rattle.atomic_table.proofs.Lists.{at_set, at_snoc, at_last, at_longer, set_again, set_else}
use Rattle.firm_bell.specs.declared.rule.Stage.{Stage}
use Rattle.firm_bell.specs.declared.rule.Stage.TheVariants.{Awake, Putting, Announced, Resting, Ended}
use Rattle.firm_bell.specs.declared.rule.BellSight.{BellSight}
use Rattle.firm_bell.specs.Bell.{BellWords, laid, everyone, IsShut, newcomer, seen, puts, in_rest, rests, seats}
use Rattle.firm_bell.specs.Bell.{Each, Any, total}
use Rattle.firm_bell.specs.Bell.{IsHeard, none_rests, wake_comes, wake_is_owed, call_is_owed, IsKept, BellState}
use Rattle.firm_bell.specs.Bell.{KeepsRule}
use Rattle.firm_bell.specs.Steps.{Hand, Found, at_stage, free, owing, knowing, ringing, tallied, one_taken}
use Rattle.firm_bell.specs.Steps.{comes, expects, looks_for_rest, owes}
use Rattle.firm_bell.specs.Steps.{looks_for_round, discharges, rings, shuts, learns_shut, announces, lies_down}
use Rattle.firm_bell.specs.Steps.{wakes_up, ends_rest, takes, ends}

module _ (kind : Stage → ℕ) where
  seats_set : (xs : List BellSight) (i : ℕ) (v x : BellSight) → get_elem? xs i ≡ some v
      → seats kind (set xs i x) + kind v.stage ≡ seats kind xs + kind x.stage
  seats_set [] i v x e = absurd (some-ne-none v (sym e))
  seats_set (y ∷ ys) zero v x e =
      let same : kind y.stage ≡ kind v.stage = ap (λ (u : BellSight). kind u.stage) (some-injective y v e) in
      omega arith
  seats_set (y ∷ ys) (suc i) v x e = omega (arith, seats_set ys i v x e)

  seats_at : (xs : List BellSight) (i : ℕ) (v : BellSight) → get_elem? xs i ≡ some v → kind v.stage ≤ seats kind xs
  seats_at [] i v e = absurd (some-ne-none v (sym e))
  seats_at (y ∷ ys) zero v e =
      let same : kind y.stage ≡ kind v.stage = ap (λ (u : BellSight). kind u.stage) (some-injective y v e) in
      omega arith
  seats_at (y ∷ ys) (suc i) v e = omega (arith, seats_at ys i v e)

  seats_less : (fewer : Stage → ℕ) → ((stage : Stage) → fewer stage ≤ kind stage) → (xs : List BellSight)
      → seats fewer xs ≤ seats kind xs
  seats_less fewer less [] = omega arith
  seats_less fewer less (y ∷ ys) = omega (arith, less y.stage, seats_less fewer less ys)

  seats_more : (xs : List BellSight) (x : BellSight) → seats kind (xs ++ x ∷ []) ≡ seats kind xs + kind x.stage
  seats_more [] x = omega arith
  seats_more (y ∷ ys) x = omega (arith, seats_more ys x)

module _ (of : BellSight → ℕ) where
  total_set : (xs : List BellSight) (i : ℕ) (v x : BellSight) → get_elem? xs i ≡ some v
      → total of (set xs i x) + of v ≡ total of xs + of x
  total_set [] i v x e = absurd (some-ne-none v (sym e))
  total_set (y ∷ ys) zero v x e =
      let same : of y ≡ of v = ap of (some-injective y v e) in
      omega arith
  total_set (y ∷ ys) (suc i) v x e = omega (arith, total_set ys i v x e)

  total_more : (xs : List BellSight) (x : BellSight) → total of (xs ++ x ∷ []) ≡ total of xs + of x
  total_more [] x = omega arith
  total_more (y ∷ ys) x = omega (arith, total_more ys x)

abbrev Rings : BellSight → Type 0
Rings v = v.owes_ring ≡ true

took_of : BellSight → ℕ
took_of v = v.took

counted_of : BellSight → ℕ
counted_of v = v.counted

-- what waits is what was counted and not taken, before a step and after it
exact_after : (waiting waiting' took took' counted counted' t t' c c' : ℕ)
    → (waiting + took) % 2 ^ 64 ≡ counted % 2 ^ 64
    → took' + t ≡ took + t' → counted' + c ≡ counted + c'
    → (waiting' + t' + c) % 2 ^ 64 ≡ (waiting + t + c') % 2 ^ 64
    → (waiting' + took') % 2 ^ 64 ≡ counted' % 2 ^ 64
exact_after waiting waiting' took took' counted counted' t t' c c' before tooks counts step = omega arith

resting_less : (stage : Stage) → rests stage ≤ in_rest stage
resting_less Awake = omega arith
resting_less Putting = omega arith
resting_less Announced = omega arith
resting_less Resting = omega arith
resting_less Ended = omega arith

here : (views : List BellSight) (id : ℕ) (v x : BellSight) → get_elem? views id ≡ some v
    → get_elem? (set views id x) id ≡ some x
here [] id v x e = absurd (some-ne-none v (sym e))
here (y ∷ ys) zero v x e = refl
here (y ∷ ys) (suc id) v x e = here ys id v x e

-- the views after a step of the seat id, whose view v becomes x
module _ (views : List BellSight) (id : ℕ) (v x : BellSight) (at : get_elem? views id ≡ some v) where
  any_here : (Is : BellSight → Type 0) → Is x → Any Is (set views id x)
  any_here Is p = (id, x, here views id v x at, p)

  any_moved : (Is : BellSight → Type 0) → Any Is views → Is v ⊎ Any Is (set views id x)
  any_moved Is (j, u, e, p) =
      dite (ℕ_discrete j id)
      (λ same. inl (subst Is (some-injective u v (sym e ∙ (ap (λ (i : ℕ). get_elem? views i) same ∙ at))) p))
      (λ other. inr (j, u, set_else views id j x other ∙ e, p))

  any_set : (Is : BellSight → Type 0) → (Is v → Is x) → Any Is views → Any Is (set views id x)
  any_set Is keep some_is = ⊎_elim (λ p. any_here Is (keep p)) (λ h. h) (any_moved Is some_is)

  each_set : (Is : BellSight → Type 0) → Is x → Each Is views → Each Is (set views id x)
  each_set Is p all j u e = ⊎_elim (λ t. subst Is t.1 p) (λ t. all j u t.1) (at_set views id j x u e)

  heard_set : (owes wakes : ℕ) → rests x.stage ≤ rests v.stage → (v.owes_call ≡ true → x.owes_call ≡ true)
      → IsHeard owes wakes views → IsHeard owes wakes (set views id x)
  heard_set owes wakes fewer keep (none_rests zero_is) =
      let turn = seats_set rests views id v x at in none_rests (omega arith)
  heard_set owes wakes fewer keep (wake_comes is) = wake_comes is
  heard_set owes wakes fewer keep (wake_is_owed is) = wake_is_owed is
  heard_set owes wakes fewer keep (call_is_owed any) =
      call_is_owed (any_set (λ (u : BellSight). u.owes_call ≡ true) keep any)

  -- what a step owes, of the words w and u before and after it
  pub record Turns (w u : BellWords) : Type 0 where
    pub counted : w.resting + in_rest x.stage ≡ u.resting + in_rest v.stage
    pub heard : seats puts (set views id x) < u.waiting → IsHeard u.owes u.wakes (set views id x)
    pub few : u.wakes ≤ everyone
    pub enough : w.wakes ≡ everyone → u.wakes ≡ everyone
    pub only : u.wakes ≡ everyone → w.wakes ≡ everyone
    pub knows : v.knows_shut ≡ true → x.knows_shut ≡ true
    pub knew : x.knows_shut ≡ true → IsShut w
    pub ended : x.stage ≡ Ended → IsShut w × (u.waiting ≡ 0)
    pub late : v.is_late ≡ true → x.is_late ≡ true
    pub came : x.is_late ≡ true → IsShut w
    pub first : IsShut w → w.waiting ≡ 0 → (u.waiting ≡ 0) ⊎ (x.is_late ≡ true)
    pub rung : u.owes ≢ 0 → Any Rings (set views id x)
    pub exact : (u.waiting + x.took + v.counted) % 2 ^ 64 ≡ (w.waiting + v.took + x.counted) % 2 ^ 64

  -- a seat that has still to ring has so after the step
  rung_set : (owes : ℕ) → (v.owes_ring ≡ true → x.owes_ring ≡ true) → (owes ≢ 0 → Any Rings views) → owes ≢ 0
      → Any Rings (set views id x)
  rung_set owes keep rung e = any_set Rings keep (rung e)

  kept : (w u : BellWords) → IsKept w views → Turns w u → IsKept u (set views id x)
  kept w u k t =
      let Late : BellSight → Type 0 = λ (y : BellSight). y.is_late ≡ true in
      let Knows : BellSight → Type 0 = λ (y : BellSight). y.knows_shut ≡ true in
      record {
        heard = t.heard;
        shut = λ e. any_set Knows t.knows (k.shut (t.only e));
        ended = each_set
            (λ (y : BellSight). y.stage ≡ Ended → IsShut u × ((u.waiting ≡ 0) ⊎ Any Late (set views id x)))
            (λ e. (t.enough (t.ended e).0, inl (t.ended e).1))
            (λ j y is e.
            let old = k.ended j y is e in (
              t.enough old.0,
              ⊎_elim (λ zero_is. ⊎_elim (λ e. inl e) (λ l. inr (any_here Late l)) (t.first old.0 zero_is))
                  (λ any. inr (any_set Late t.late any)) old.1,
            ));
        knew = each_set (λ (y : BellSight). y.knows_shut ≡ true → IsShut u) (λ e. t.enough (t.knew e))
            (λ j y is e. t.enough (k.knew j y is e));
        late = each_set (λ (y : BellSight). y.is_late ≡ true → IsShut u) (λ e. t.enough (t.came e))
            (λ j y is e. t.enough (k.late j y is e));
        counted = (let turn = seats_set in_rest views id v x at in
            let before = k.counted in let now = t.counted in omega arith);
        few = t.few;
        rung = t.rung;
        exact =
            exact_after w.waiting u.waiting (total (λ y. y.took) views) (total (λ y. y.took) (set views id x))
            (total (λ y. y.counted) views) (total (λ y. y.counted) (set views id x)) v.took x.took v.counted
            x.counted k.exact (total_set (λ y. y.took) views id v x at) (total_set (λ y. y.counted) views id v x at)
            t.exact;
      }

  -- the same where the rounds do not change and no worker ends
  plain : (w u : BellWords) → IsKept w views → u.waiting ≡ w.waiting
      → w.resting + in_rest x.stage ≡ u.resting + in_rest v.stage
      → (seats puts (set views id x) < u.waiting → IsHeard u.owes u.wakes (set views id x))
      → u.wakes ≤ everyone → (w.wakes ≡ everyone → u.wakes ≡ everyone) → (u.wakes ≡ everyone → w.wakes ≡ everyone)
      → (v.knows_shut ≡ true → x.knows_shut ≡ true) → (x.knows_shut ≡ true → IsShut w) → x.stage ≢ Ended
      → x.is_late ≡ v.is_late → (u.owes ≢ 0 → Any Rings (set views id x)) → x.took ≡ v.took → x.counted ≡ v.counted
      → IsKept u (set views id x)
  plain w u k waiting counted heard few enough only knows knew lives late rung took counts =
      kept w u k (record {
        counted = counted;
        heard = heard;
        few = few;
        enough = enough;
        only = only;
        knows = knows;
        knew = knew;
        ended = λ e. absurd (lives e);
        late = λ e. late ∙ e;
        came = λ e. k.late id v at (sym late ∙ e);
        first = λ n zero_is. inl (waiting ∙ zero_is);
        rung = rung;
        exact = omega (arith, waiting, took, counts);
      })

-- the views with a new one after them
module _ (views : List BellSight) (x : BellSight) where
  each_snoc : (Is : BellSight → Type 0) → Is x → Each Is views → Each Is (views ++ x ∷ [])
  each_snoc Is p all j u e = ⊎_elim (λ t. all j u t) (λ t. subst Is t p) (at_snoc views x u j e)

  any_snoc : (Is : BellSight → Type 0) → Any Is views → Any Is (views ++ x ∷ [])
  any_snoc Is (j, u, e, p) = (j, u, at_longer views (x ∷ []) j u e, p)

  any_last : (Is : BellSight → Type 0) → Is x → Any Is (views ++ x ∷ [])
  any_last Is p = (length views, x, at_last views x (length views) refl, p)

  seats_snoc : (kind : Stage → ℕ) → kind x.stage ≡ 0 → seats kind (views ++ x ∷ []) ≡ seats kind views
  seats_snoc kind zero_is =
      let sum = seats_more kind views x in omega (arith, sum, zero_is)

  heard_snoc : (owes wakes : ℕ) → rests x.stage ≡ 0 → IsHeard owes wakes views → IsHeard owes wakes (views ++ x ∷ [])
  heard_snoc owes wakes awake (none_rests zero_is) = none_rests (seats_snoc rests awake ∙ zero_is)
  heard_snoc owes wakes awake (wake_comes is) = wake_comes is
  heard_snoc owes wakes awake (wake_is_owed is) = wake_is_owed is
  heard_snoc owes wakes awake (call_is_owed any) = call_is_owed (any_snoc (λ (u : BellSight). u.owes_call ≡ true) any)

  -- a seat comes that neither puts nor rests nor is late; how many wakes are left may change
  joined : (w : BellWords) (wakes : ℕ) → IsKept w views → puts x.stage ≡ 0 → in_rest x.stage ≡ 0
      → (IsHeard w.owes w.wakes views → IsHeard w.owes wakes (views ++ x ∷ []))
      → wakes ≤ everyone → (IsShut w → wakes ≡ everyone) → (wakes ≡ everyone → IsShut w ⊎ (x.knows_shut ≡ true))
      → (x.knows_shut ≡ true → wakes ≡ everyone) → (x.stage ≢ Ended) → x.is_late ≡ false → x.took ≡ 0
      → x.counted ≡ 0
      → IsKept
      (record { waiting = w.waiting; owes = w.owes; resting = w.resting; wakes = wakes }) (views ++ x ∷ [])
  joined w wakes k zero_is up heard few stays only knows lives early took counts =
      let Late : BellSight → Type 0 = λ (y : BellSight). y.is_late ≡ true in
      let Knows : BellSight → Type 0 = λ (y : BellSight). y.knows_shut ≡ true in
      record {
        heard = λ more. heard (k.heard (subst (λ (n : ℕ). n < w.waiting) (seats_snoc puts zero_is) more));
        shut = λ e. ⊎_elim (λ before. any_snoc Knows (k.shut before)) (λ now. any_last Knows now) (only e);
        ended = each_snoc
            (λ (y : BellSight). y.stage ≡ Ended → (wakes ≡ everyone) × ((w.waiting ≡ 0) ⊎ Any Late (views ++ x ∷ [])))
            (λ e. absurd (lives e))
            (λ j y is e.
            let old = k.ended j y is e in
            (stays old.0, ⊎_elim (λ zero_is. inl zero_is) (λ any. inr (any_snoc Late any)) old.1));
        knew = each_snoc (λ (y : BellSight). y.knows_shut ≡ true → wakes ≡ everyone) knows
            (λ j y is e. stays (k.knew j y is e));
        late = each_snoc (λ (y : BellSight). y.is_late ≡ true → wakes ≡ everyone)
            (λ e. let no : false ≡ true = sym early ∙ e in cc) (λ j y is e. stays (k.late j y is e));
        counted = seats_snoc in_rest up ∙ k.counted;
        few = few;
        rung = λ e. any_snoc Rings (k.rung e);
        exact =
            exact_after w.waiting w.waiting (total (λ y. y.took) views) (total (λ y. y.took) (views ++ x ∷ []))
            (total (λ y. y.counted) views) (total (λ y. y.counted) (views ++ x ∷ [])) 0 x.took 0 x.counted k.exact
            (omega (arith, total_more (λ y. y.took) views x)) (omega (arith, total_more (λ y. y.counted) views x))
            (omega (arith, took, counts));
      }

-- A step at a word: what it owes is a step of the words that the rule names.
module _
    (word : ℕ)
    (read : BellWords → ℕ)
    (write : ℕ → BellWords → BellWords)
    (reads : (w : BellWords) → get_or (laid w) word 0 ≡ read w)
    (writes : (n : ℕ) (w : BellWords) → set (laid w) word n ≡ laid (write n w)) where
  read_in : (s : BellState) (w : BellWords) → s.words ≡ laid w → get_or s.words word 0 ≡ read w
  read_in s w is = ap (λ (ws : List ℕ). get_or ws word 0) is ∙ reads w

  written : (s : BellState) (w : BellWords) (f : ℕ → ℕ) → s.words ≡ laid w
      → set s.words word (f (get_or s.words word 0)) ≡ laid (write (f (read w)) w)
  written s w f is =
      ap (λ (ws : List ℕ). set ws word (f (get_or s.words word 0))) is
      ∙ (ap (λ (n : ℕ). set (laid w) word (f n)) (read_in s w is) ∙ writes (f (read w)) w)

  stepping : (slots id : ℕ) (me : Hand) (f : ℕ → ℕ) (then : ℕ → Hand → Type 0)
      → ((w : BellWords) (views : List BellSight) → IsKept w views → get_elem? views id ≡ some me.0
      → read w < 18446744073709551616
      → (x : BellSight) × IsKept (write (f (read w)) w) (set views id x) × then (read w) (x, me.1))
      → Allows KeepsRule slots id me word f then
  stepping slots id me f then go s k _ at small =
      let w = k.0 in
      let is = read_in s w k.1 in
      let t = go w s.views k.2 at (subst (λ (n : ℕ). n < 18446744073709551616) is small) in (
        t.0,
        keeps,
        tt,
        (write (f (read w)) w, written s w f k.1, t.1),
        subst (λ (n : ℕ). then n (t.0, me.1)) (sym is) t.2,
      )

  entering : (slots new : ℕ) (then : ℕ → Hand → Type 0)
      → ((w : BellWords) (views : List BellSight) → IsKept w views
      → (x : BellSight) × IsKept (write new w) (views ++ x ∷ []) × then (read w) (x, []))
      → Arrives KeepsRule slots word (λ _. new) then
  entering slots new then go s k _ _ =
      let w = k.0 in
      let is = read_in s w k.1 in
      let t = go w s.views k.2 in (
        t.0,
        keeps,
        tt,
        (write new w, written s w (λ _. new) k.1, t.1),
        subst (λ (n : ℕ). then n (t.0, [])) (sym is) t.2,
      )

abbrev with_waiting : ℕ → BellWords → BellWords
with_waiting n w = record { waiting = n; owes = w.owes; resting = w.resting; wakes = w.wakes }

abbrev with_owes : ℕ → BellWords → BellWords
with_owes n w = record { waiting = w.waiting; owes = n; resting = w.resting; wakes = w.wakes }

abbrev with_resting : ℕ → BellWords → BellWords
with_resting n w = record { waiting = w.waiting; owes = w.owes; resting = n; wakes = w.wakes }

abbrev with_wakes : ℕ → BellWords → BellWords
with_wakes n w = record { waiting = w.waiting; owes = w.owes; resting = w.resting; wakes = n }

same : (w : BellWords) (views : List BellSight) (id : ℕ) (v : BellSight) → IsKept w views → get_elem? views id ≡ some v
    → IsKept w (set views id v)
same w views id v k at = subst (IsKept w) (sym (set_again views id v at)) k

alone : (Is : BellSight → Type 0) (x : BellSight) → Is x → Each Is (x ∷ [])
alone Is x p zero v e = subst Is (some-injective x v e) p
alone Is x p (suc j) v e = absurd (some-ne-none v (sym e))

-- a bell that is new, with the seat of the thread that made it
pub opens : KeepsRule (record {
  words = laid (record { waiting = 0; owes = 0; resting = 0; wakes = 0 });
  homes = [];
  views = newcomer ∷ [];
})
opens = (
  record { waiting = 0; owes = 0; resting = 0; wakes = 0 },
  refl,
  record {
    heard = λ more. absurd (omega arith);
    shut = λ e. absurd (omega (arith, e));
    ended = alone
        (λ (y : BellSight). y.stage ≡ Ended
        → (0 ≡ everyone) × ((0 ≡ 0) ⊎ Any (λ (u : BellSight). u.is_late ≡ true) (newcomer ∷ [])))
        newcomer (λ (e : Awake ≡ Ended). cc);
    knew = alone (λ (y : BellSight). y.knows_shut ≡ true → 0 ≡ everyone) newcomer (λ (e : false ≡ true). cc);
    late = alone (λ (y : BellSight). y.is_late ≡ true → 0 ≡ everyone) newcomer (λ (e : false ≡ true). cc);
    counted = refl;
    few = omega arith;
    rung = λ e. absurd (e refl);
    exact = refl;
  },
)

pub comes_in : (slots : ℕ)
    → Enters KeepsRule slots 0 (λ n x. comes (step slots 0 0 0 none) (newcomer, []) n (x, []))
comes_in slots s k _ _ =
    let w = k.0 in (
      newcomer,
      (
        w,
        k.1,
        joined s.views newcomer w w.wakes k.2 refl refl
            (λ h. heard_snoc s.views newcomer w.owes w.wakes refl h)
            k.2.few (λ e. e) (λ e. inl e) (λ (e : false ≡ true). cc) (λ (e : Awake ≡ Ended). cc) refl refl refl,
      ),
      refl,
    )

pub shuts_in : (slots : ℕ)
    → Arrives KeepsRule slots 24 (λ _. 65536) (shuts (step slots 24 65536 0 none) (newcomer, []))
shuts_in slots =
    let x = knowing newcomer in
    entering 24 (λ w. w.wakes) with_wakes (λ w. refl) (λ n w. refl) slots 65536
    (shuts (step slots 24 65536 0 none) (newcomer, []))
    (λ w views k. (
      x,
      joined views x w 65536 k refl refl (λ _. wake_comes (λ e. absurd (omega (arith, e))))
          (omega arith) (λ _. refl) (λ _. inr refl) (λ _. refl) (λ (e : Awake ≡ Ended). cc) refl refl refl,
      refl,
    ))

-- a seat that stands at a stage
module _ (w : BellWords) (views : List BellSight) (id : ℕ) (v : BellSight) (k : IsKept w views)
    (at : get_elem? views id ≡ some v) where
  -- where no round waits, any view keeps the rule that has announced a rest or not as before, and knows no more
  quiet : (x : BellSight) → w.waiting ≡ 0 → in_rest x.stage ≡ in_rest v.stage → x.knows_shut ≡ v.knows_shut
      → (x.stage ≡ Ended → v.knows_shut ≡ true) → x.is_late ≡ v.is_late → x.owes_ring ≡ v.owes_ring
      → x.took ≡ v.took → x.counted ≡ v.counted → IsKept w (set views id x)
  quiet x zero_is up knows ends_so late ring took counts =
      kept views id v x at w w k (record {
        counted = omega arith;
        heard = λ more. absurd (omega (arith, more, zero_is));
        few = k.few;
        enough = λ e. e;
        only = λ e. e;
        knows = λ e. knows ∙ e;
        knew = λ e. k.knew id v at (sym knows ∙ e);
        ended = λ e. (k.knew id v at (ends_so e), zero_is);
        late = λ e. late ∙ e;
        came = λ e. k.late id v at (sym late ∙ e);
        first = λ n e. inl e;
        rung = rung_set views id v x at w.owes (λ e. ring ∙ e) k.rung;
        exact = omega (arith, took, counts);
      })

  -- a call is no longer owed, or is owed from now on, by a seat that does not rest
  turns : (x : BellSight) (u : BellWords) → u.waiting ≡ w.waiting → u.resting ≡ w.resting
      → in_rest v.stage ≡ 0 → in_rest x.stage ≡ 0 → x.stage ≢ Ended → x.knows_shut ≡ v.knows_shut
      → x.is_late ≡ v.is_late → u.wakes ≤ everyone → (w.wakes ≡ everyone → u.wakes ≡ everyone)
      → (u.wakes ≡ everyone → w.wakes ≡ everyone)
      → IsHeard u.owes u.wakes (set views id x) → (u.owes ≢ 0 → Any Rings (set views id x)) → x.took ≡ v.took
      → x.counted ≡ v.counted → IsKept u (set views id x)
  turns x u waiting resting up down lives knew late few enough only heard rung took counts =
      plain views id v x at w u k waiting (omega arith) (λ _. heard) few enough only (λ e. knew ∙ e)
      (λ e. k.knew id v at (sym knew ∙ e)) lives late rung took counts

  -- a caller rings, and no wake was owed
  rung_quietly : w.owes ≡ 0 → v.stage ≢ Ended → IsKept (with_owes 0 w) (set views id (ringing false v))
  rung_quietly zero_is lives =
      let x = ringing false v in
      let turn = seats_set puts views id v x at in
      plain views id v x at w (with_owes 0 w) k refl (omega arith)
      (λ more. subst (λ (o : ℕ). IsHeard o w.wakes (set views id x)) zero_is
      (heard_set views id v x at w.owes w.wakes (omega arith) (λ o. o) (k.heard (omega (arith, more)))))
      k.few (λ e. e) (λ e. e) (λ e. e) (λ e. k.knew id v at e) lives refl (λ e. absurd (e refl)) refl refl

  none_left : (x : BellSight) → w.resting ≡ 0 → rests x.stage ≡ 0 → seats rests (set views id x) ≡ 0
  none_left x zero_is awake =
      let turn = seats_set rests views id v x at in
      let less = seats_less in_rest rests resting_less views in
      let all = k.counted in omega arith

  rest_seen : in_rest v.stage ≡ 0
      → (x : BellSight) × IsKept w (set views id x)
      × Found w.resting 0 (x ≡ free Awake v) (x ≡ owing Awake v)
  rest_seen up =
      dite (ℕ_discrete w.resting 0)
      (λ zero_is. (
        free Awake v,
        turns (free Awake v) w refl refl up refl (λ (e : Awake ≡ Ended). cc) refl refl k.few (λ e. e) (λ e. e)
            (none_rests (none_left (free Awake v) zero_is refl))
            (rung_set views id v (free Awake v) at w.owes (λ e. e) k.rung) refl refl,
        ((λ _. refl), λ n. absurd (n zero_is)),
      ))
      (λ more. (
        owing Awake v,
        turns (owing Awake v) w refl refl up refl (λ (e : Awake ≡ Ended). cc) refl refl k.few (λ e. e) (λ e. e)
            (call_is_owed (any_here views id v (owing Awake v) at (λ (u : BellSight). u.owes_call ≡ true) refl))
            (rung_set views id v (owing Awake v) at w.owes (λ e. e) k.rung) refl refl,
        ((λ e. absurd (more e)), λ _. refl),
      ))

  abbrev counting : BellSight → Bool → BellSight
  counting v late = tallied (v.counted + 1) v.took v.left (seen v Putting v.owes_call v.knows_shut late)

  counted_late : (late : Bool) → v.stage ≡ Awake → (v.is_late ≡ true → late ≡ true) → (IsShut w → late ≡ true)
      → (late ≡ true → IsShut w) → IsKept (with_waiting ((w.waiting + 1) % 2 ^ 64) w)
      (set views id (counting v late))
  counted_late late is keep closed came =
      let x = counting v late in
      let u = with_waiting ((w.waiting + 1) % 2 ^ 64) w in
      let up : in_rest v.stage ≡ 0 = ap in_rest is in
      let off : puts v.stage ≡ 0 = ap puts is in
      let turn = seats_set puts views id v x at in
      kept views id v x at w u k (record {
        counted = omega arith;
        heard = λ more. heard_set views id v x at w.owes w.wakes (omega arith) (λ o. o) (k.heard (omega (arith, more)));
        few = k.few;
        enough = λ e. e;
        only = λ e. e;
        knows = λ e. e;
        knew = λ e. k.knew id v at e;
        ended = λ (e : Putting ≡ Ended). cc;
        late = keep;
        came = came;
        first = λ n e. inr (closed n);
        rung = rung_set views id v x at w.owes (λ e. e) k.rung;
        exact = omega arith;
      })

  counts : v.stage ≡ Awake
      → (x : BellSight) × IsKept (with_waiting ((w.waiting + 1) % 2 ^ 64) w) (set views id x)
      × (x ≡ counting v x.is_late)
  counts is =
      dite (ℕ_discrete w.wakes everyone)
      (λ closed. (
        counting v true,
        counted_late true is (λ _. refl) (λ _. refl) (λ _. closed),
        refl,
      ))
      (λ open_is. (
        counting v v.is_late,
        counted_late v.is_late is (λ e. e) (λ e. absurd (open_is e)) (λ e. k.late id v at e),
        refl,
      ))

  none_was_counted : (late : Bool) → v.stage ≡ Awake → (v.is_late ≡ true → late ≡ true)
      → (IsShut w → late ≡ true) → (late ≡ true → IsShut w)
      → IsKept (with_waiting ((w.waiting + (2 ^ 64 - 1)) % 2 ^ 64) w)
      (set views id (one_taken (seen v Awake true v.knows_shut late)))
  none_was_counted late is keep closed came =
      let x = one_taken (seen v Awake true v.knows_shut late) in
      let up : in_rest v.stage ≡ 0 = ap in_rest is in
      kept views id v x at w (with_waiting ((w.waiting + (2 ^ 64 - 1)) % 2 ^ 64) w) k (record {
        counted = omega arith;
        heard = λ _. call_is_owed (any_here views id v x at (λ (y : BellSight). y.owes_call ≡ true) refl);
        few = k.few;
        enough = λ e. e;
        only = λ e. e;
        knows = λ e. e;
        knew = λ e. k.knew id v at e;
        ended = λ (e : Awake ≡ Ended). cc;
        late = keep;
        came = came;
        first = λ n e. inr (closed n);
        rung = rung_set views id v x at w.owes (λ e. e) k.rung;
        exact = omega arith;
      })

  one_was_counted : v.stage ≡ Awake → w.waiting < 18446744073709551616 → w.waiting ≢ 0
      → IsKept (with_waiting ((w.waiting + (2 ^ 64 - 1)) % 2 ^ 64) w) (set views id (one_taken v))
  one_was_counted is small more =
      let n : ℕ = w.waiting in
      let x = one_taken v in
      kept views id v x at w (with_waiting ((w.waiting + (2 ^ 64 - 1)) % 2 ^ 64) w) k (record {
        counted = refl;
        heard = λ less.
            let turn = seats_set puts views id v x at in
            let fewer : (n + 18446744073709551615) % 18446744073709551616 ≡ n - 1 = omega (arith, more, small) in
            heard_set views id v x at w.owes w.wakes (omega arith) (λ o. o) (k.heard (omega (arith, less)));
        few = k.few;
        enough = λ e. e;
        only = λ e. e;
        knows = λ e. e;
        knew = λ e. k.knew id v at e;
        ended = λ e. let no : Awake ≡ Ended = sym is ∙ e in cc;
        late = λ e. e;
        came = λ e. k.late id v at e;
        first = λ _ zero_is. absurd (more zero_is);
        rung = rung_set views id v x at w.owes (λ e. e) k.rung;
        exact = omega arith;
      })

  taken : v.stage ≡ Awake → w.waiting < 18446744073709551616
      → (x : BellSight) × IsKept (with_waiting ((w.waiting + (2 ^ 64 - 1)) % 2 ^ 64) w) (set views id x)
      × Found w.waiting 0 (x ≡ one_taken (seen v Awake true v.knows_shut x.is_late)) (x ≡ one_taken v)
  taken is small =
      dite (ℕ_discrete w.waiting 0)
      (λ zero_is.
      dite (ℕ_discrete w.wakes everyone)
      (λ closed. (
        one_taken (seen v Awake true v.knows_shut true),
        none_was_counted true is (λ _. refl) (λ _. refl) (λ _. closed),
        ((λ _. refl), λ m. absurd (m zero_is)),
      ))
      (λ open_is. (
        one_taken (seen v Awake true v.knows_shut v.is_late),
        none_was_counted v.is_late is (λ e. e) (λ e. absurd (open_is e)) (λ e. k.late id v at e),
        ((λ _. refl), λ m. absurd (m zero_is)),
      )))
      (λ more. (one_taken v, one_was_counted is small more, ((λ e. absurd (more e)), λ _. refl)))

  shut_seen : v.stage ≡ Awake
      → (x : BellSight) × IsKept w (set views id x) × Found w.wakes everyone (x ≡ knowing v) (x ≡ v)
  shut_seen is =
      let up : in_rest v.stage ≡ 0 = ap in_rest is in
      let off : puts v.stage ≡ 0 = ap puts is in
      dite (ℕ_discrete w.wakes everyone)
      (λ closed.
      let x = knowing v in
      let turn = seats_set puts views id v x at in (
        x,
        plain views id v x at w w k refl (omega arith)
            (λ more. heard_set views id v x at w.owes w.wakes (omega arith) (λ o. o)
            (k.heard (omega (arith, more))))
            k.few (λ e. e) (λ e. e) (λ _. refl) (λ _. closed) (λ (e : Awake ≡ Ended). cc) refl
            (rung_set views id v x at w.owes (λ e. e) k.rung) refl refl,
        ((λ _. refl), λ n. absurd (n closed)),
      ))
      (λ open_is. (v, same w views id v k at, ((λ e. absurd (open_is e)), λ _. refl)))

  announced_in : (new : ℕ) → v.stage ≡ Awake → new ≡ w.resting + 1
      → IsKept (with_resting new w) (set views id (at_stage Announced v))
  announced_in new is more_by_one =
      let x = at_stage Announced v in
      let up : in_rest v.stage ≡ 0 = ap in_rest is in
      let off : puts v.stage ≡ 0 = ap puts is in
      let turn = seats_set puts views id v x at in
      plain views id v x at w (with_resting new w) k refl (omega arith)
      (λ more. heard_set views id v x at w.owes w.wakes (omega arith) (λ o. o) (k.heard (omega (arith, more))))
      k.few (λ e. e) (λ e. e) (λ e. e) (λ e. k.knew id v at e) (λ (e : Announced ≡ Ended). cc) refl
      (rung_set views id v x at w.owes (λ e. e) k.rung) refl refl

  rest_ended : v.stage ≡ Announced → w.resting < 18446744073709551616
      → IsKept (with_resting ((w.resting + (2 ^ 64 - 1)) % 2 ^ 64) w) (set views id (at_stage Awake v))
  rest_ended is small =
      let x = at_stage Awake v in
      let n : ℕ = w.resting in
      let up : in_rest v.stage ≡ 1 = ap in_rest is in
      let off : puts v.stage ≡ 0 = ap puts is in
      let turn = seats_set puts views id v x at in
      let one = seats_at in_rest views id v at in
      let all = k.counted in
      let some_rest : 1 ≤ n = omega (arith, one, all, up) in
      let fewer : (n + 18446744073709551615) % 18446744073709551616 ≡ n - 1 = omega (arith, some_rest, small) in
      plain views id v x at w (with_resting ((w.resting + (2 ^ 64 - 1)) % 2 ^ 64) w) k refl
      (omega (arith, fewer, some_rest, up))
      (λ more. heard_set views id v x at w.owes w.wakes (omega arith) (λ o. o) (k.heard (omega (arith, more))))
      k.few (λ e. e) (λ e. e) (λ e. e) (λ e. k.knew id v at e) (λ (e : Awake ≡ Ended). cc) refl
      (rung_set views id v x at w.owes (λ e. e) k.rung) refl refl

  woken : (left : ℕ) → v.stage ≡ Resting → left ≤ everyone → (w.wakes ≡ everyone → left ≡ everyone)
      → (left ≡ everyone → w.wakes ≡ everyone) → IsKept (with_wakes left w) (set views id (owing Announced v))
  woken left is few enough only =
      let x = owing Announced v in
      let up : in_rest v.stage ≡ 1 = ap in_rest is in
      plain views id v x at w (with_wakes left w) k refl (omega arith)
      (λ _. call_is_owed (any_here views id v x at (λ (y : BellSight). y.owes_call ≡ true) refl))
      few enough only (λ e. e) (λ e. k.knew id v at e) (λ (e : Announced ≡ Ended). cc) refl
      (rung_set views id v x at w.owes (λ e. e) k.rung) refl refl

-- what a look at whether a round waits makes of a seat
looked : (slots id : ℕ) (me : Hand) (x : BellSight) → in_rest x.stage ≡ in_rest me.0.stage
    → x.knows_shut ≡ me.0.knows_shut → (x.stage ≡ Ended → me.0.knows_shut ≡ true)
    → x.is_late ≡ me.0.is_late → x.owes_ring ≡ me.0.owes_ring → x.took ≡ me.0.took → x.counted ≡ me.0.counted
    → Allows KeepsRule slots id me 0 (λ n. n) (λ n after. Found n 0 (after.0 ≡ x) (after.0 ≡ me.0))
looked slots id me x up knows ends_so late ring took counts =
    stepping 0 (λ w. w.waiting) with_waiting (λ w. refl) (λ n w. refl) slots id me (λ n. n)
    (λ n after. Found n 0 (after.0 ≡ x) (after.0 ≡ me.0))
    (λ w views k at _.
    dite (ℕ_discrete w.waiting 0)
    (λ zero_is. (
      x,
      quiet w views id me.0 k at x zero_is up knows ends_so late ring took counts,
      ((λ _. refl), λ n. absurd (n zero_is)),
    ))
    (λ more. (me.0, same w views id me.0 k at, ((λ e. absurd (more e)), λ _. refl))))

pub looks_for_round_in : (slots id : ℕ) (me : Hand) → me.0.stage ≡ Awake
    → Allows KeepsRule slots id me 0 (λ n. n) (looks_for_round (step slots 0 0 0 none) me)
looks_for_round_in slots id me is =
    looked slots id me (free Awake me.0) (sym (ap in_rest is)) refl (λ (e : Awake ≡ Ended). cc) refl refl refl
    refl

pub lies_down_in : (slots id : ℕ) (me : Hand) → me.0.stage ≡ Announced
    → Allows KeepsRule slots id me 0 (λ n. n) (lies_down (step slots 0 0 0 none) me)
lies_down_in slots id me is =
    looked slots id me (free Resting me.0) (sym (ap in_rest is)) refl (λ (e : Resting ≡ Ended). cc) refl refl refl
    refl

pub ends_in : (slots id : ℕ) (me : Hand) → me.0.stage ≡ Awake → me.0.knows_shut ≡ true
    → Allows KeepsRule slots id me 0 (λ n. n) (ends (step slots 0 0 0 none) me)
ends_in slots id me is knows =
    looked slots id me (free Ended me.0) (sym (ap in_rest is)) refl (λ _. knows) refl refl refl refl

pub expects_in : (slots id : ℕ) (me : Hand) → me.0.stage ≡ Awake
    → Allows KeepsRule slots id me 0 (λ n. (n + 1) % 2 ^ 64) (expects (step slots 0 1 0 none) me)
expects_in slots id me is =
    stepping 0 (λ w. w.waiting) with_waiting (λ w. refl) (λ n w. refl) slots id me (λ n. (n + 1) % 2 ^ 64)
    (expects (step slots 0 1 0 none) me) (λ w views k at _. counts w views id me.0 k at is)

pub takes_in : (slots id : ℕ) (me : Hand) → me.0.stage ≡ Awake
    → Allows KeepsRule slots id me 0 (λ n. (n + (2 ^ 64 - 1)) % 2 ^ 64) (takes (step slots 0 1 0 none) me)
takes_in slots id me is =
    stepping 0 (λ w. w.waiting) with_waiting (λ w. refl) (λ n w. refl) slots id me (λ n. (n + (2 ^ 64 - 1)) % 2 ^ 64)
    (takes (step slots 0 1 0 none) me) (λ w views k at small. taken w views id me.0 k at is small)

pub looks_for_rest_in : (slots id : ℕ) (me : Hand) → (me.0.stage ≡ Awake) ⊎ (me.0.stage ≡ Putting)
    → Allows KeepsRule slots id me 16 (λ n. n) (looks_for_rest (step slots 16 0 0 none) me)
looks_for_rest_in slots id me is =
    stepping 16 (λ w. w.resting) with_resting (λ w. refl) (λ n w. refl) slots id me (λ n. n)
    (looks_for_rest (step slots 16 0 0 none) me)
    (λ w views k at _.
    rest_seen w views id me.0 k at (⊎_elim (ap in_rest) (ap in_rest) is))

pub learns_shut_in : (slots id : ℕ) (me : Hand) → me.0.stage ≡ Awake
    → Allows KeepsRule slots id me 24 (λ n. n) (learns_shut (step slots 24 0 0 none) me)
learns_shut_in slots id me is =
    stepping 24 (λ w. w.wakes) with_wakes (λ w. refl) (λ n w. refl) slots id me (λ n. n)
    (learns_shut (step slots 24 0 0 none) me) (λ w views k at _. shut_seen w views id me.0 k at is)

pub owes_in : (slots id : ℕ) (me : Hand) → me.0.stage ≡ Awake
    → Allows KeepsRule slots id me 8 (λ _. 1) (λ _. owes (step slots 8 1 0 none) me 1)
owes_in slots id me is =
    let x = ringing true (free Awake me.0) in
    stepping 8 (λ w. w.owes) with_owes (λ w. refl) (λ n w. refl) slots id me (λ _. 1)
    (λ _. owes (step slots 8 1 0 none) me 1)
    (λ w views k at _. (
      x,
      turns w views id me.0 k at x (with_owes 1 w) refl refl (ap in_rest is) refl
          (λ (e : Awake ≡ Ended). cc) refl refl k.few (λ e. e) (λ e. e)
          (wake_is_owed (λ e. absurd (omega (arith, e)))) (λ _. any_here views id me.0 x at Rings refl) refl refl,
      refl,
    ))

pub rings_in : (slots id : ℕ) (me : Hand) → me.0.stage ≡ Awake
    → Allows KeepsRule slots id me 8 (λ _. 0) (rings (step slots 8 0 0 none) me)
rings_in slots id me is =
    let y = ringing false (owing Awake me.0) in
    stepping 8 (λ w. w.owes) with_owes (λ w. refl) (λ n w. refl) slots id me (λ _. 0)
    (rings (step slots 8 0 0 none) me)
    (λ w views k at _.
    dite (ℕ_discrete w.owes 0)
    (λ zero_is. (
      ringing false me.0,
      rung_quietly w views id me.0 k at zero_is (λ e. let no : Awake ≡ Ended = sym is ∙ e in cc),
      ((λ _. refl), λ n. absurd (n zero_is)),
    ))
    (λ owed. (
      y,
      turns w views id me.0 k at y (with_owes 0 w) refl refl (ap in_rest is) refl
          (λ (e : Awake ≡ Ended). cc) refl refl k.few (λ e. e) (λ e. e)
          (call_is_owed (any_here views id me.0 y at (λ (u : BellSight). u.owes_call ≡ true) refl))
          (λ e. absurd (e refl)) refl refl,
      ((λ e. absurd (owed e)), λ _. refl),
    )))

pub calls_in : (slots id : ℕ) (me : Hand) (wakes : ℕ) → me.0.stage ≡ Awake → 1 ≤ wakes → wakes < everyone
    → Allows KeepsRule slots id me 24 (λ n. max n wakes) (discharges (step slots 24 wakes 0 none) me)
calls_in slots id me wakes is some_are few =
    stepping 24 (λ w. w.wakes) with_wakes (λ w. refl) (λ n w. refl) slots id me (λ n. max n wakes)
    (discharges (step slots 24 wakes 0 none) me)
    (λ w views k at _.
    let before = k.few in
    let x = tallied me.0.counted me.0.took (me.0.left + (wakes - w.wakes)) (free Awake me.0) in (
      x,
      turns w views id me.0 k at x (with_wakes (max w.wakes wakes) w) refl refl (ap in_rest is)
          refl (λ (e : Awake ≡ Ended). cc) refl refl (omega arith) (λ e. omega (arith, e))
          (λ e. omega (arith, e, few))
          (wake_comes (λ e. absurd (omega (arith, e))))
          (rung_set views id me.0 x at w.owes (λ e. e) k.rung) refl refl,
      refl,
    ))

pub ends_rest_in : (slots id : ℕ) (me : Hand) → me.0.stage ≡ Announced
    → Allows KeepsRule slots id me 16 (λ n. (n + (2 ^ 64 - 1)) % 2 ^ 64) (ends_rest (step slots 16 1 0 none) me)
ends_rest_in slots id me is =
    stepping 16 (λ w. w.resting) with_resting (λ w. refl) (λ n w. refl) slots id me (λ n. (n + (2 ^ 64 - 1)) % 2 ^ 64)
    (ends_rest (step slots 16 1 0 none) me)
    (λ w views k at small. (at_stage Awake me.0, rest_ended w views id me.0 k at is small, refl))

pub announces_in : (slots id : ℕ) (me : Hand) (old new : ℕ) → me.0.stage ≡ Awake → new ≡ old + 1
    → Allows KeepsRule slots id me 16 (λ n. either (eqb n old) new n) (announces (step slots 16 old new none) me)
announces_in slots id me old new is next =
    stepping 16 (λ w. w.resting) with_resting (λ w. refl) (λ n w. refl) slots id me (λ n. either (eqb n old) new n)
    (announces (step slots 16 old new none) me)
    (λ w views k at _.
    dite (ℕ_discrete w.resting old)
    (λ hit. (
      at_stage Announced me.0,
      subst
          (λ (b : Bool). IsKept (with_resting (either b new w.resting) w) (set views id (at_stage Announced me.0)))
          (sym (eq-eqb w.resting old hit)) (announced_in w views id me.0 k at new is (omega (arith, hit, next))),
      ((λ _. refl), λ n. absurd (n hit)),
    ))
    (λ miss. (
      me.0,
      subst (λ (b : Bool). IsKept (with_resting (either b new w.resting) w) (set views id me.0))
          (sym (ne_eqb w.resting old miss)) (same w views id me.0 k at),
      ((λ e. absurd (miss e)), λ _. refl),
    )))

pub wakes_up_in : (slots id : ℕ) (me : Hand) (old left : ℕ) → me.0.stage ≡ Resting
    → (old ≤ everyone → left ≤ everyone) → (old ≡ everyone → left ≡ everyone) → (left ≡ everyone → old ≡ everyone)
    → Allows KeepsRule slots id me 24 (λ n. either (eqb n old) left n) (wakes_up (step slots 24 old left none) me)
wakes_up_in slots id me old left is few enough only =
    stepping 24 (λ w. w.wakes) with_wakes (λ w. refl) (λ n w. refl) slots id me (λ n. either (eqb n old) left n)
    (wakes_up (step slots 24 old left none) me)
    (λ w views k at _.
    dite (ℕ_discrete w.wakes old)
    (λ hit. (
      owing Announced me.0,
      subst (λ (b : Bool). IsKept (with_wakes (either b left w.wakes) w) (set views id (owing Announced me.0)))
          (sym (eq-eqb w.wakes old hit))
          (woken w views id me.0 k at left is (few (subst (λ (n : ℕ). n ≤ everyone) hit k.few))
          (λ e. enough (sym hit ∙ e)) (λ e. hit ∙ only e)),
      ((λ _. refl), λ n. absurd (n hit)),
    ))
    (λ miss. (
      me.0,
      subst (λ (b : Bool). IsKept (with_wakes (either b left w.wakes) w) (set views id me.0))
          (sym (ne_eqb w.wakes old miss)) (same w views id me.0 k at),
      ((λ e. absurd (miss e)), λ _. refl),
    )))
