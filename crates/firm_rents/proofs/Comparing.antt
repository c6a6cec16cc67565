-- Classes of places, and how offers compare.
use Rattle.std.proofs.Common.{◌≡◌, ℕ, zero, suc, ◌^◌, ◌<◌, ◌≤◌, cond, eqb, List, length, refl, sym, ap, subst, arith}
use Rattle.std.proofs.Common.{Bool, true, false, ◌∙◌, ◌⊎◌, inl, inr, ⊎_elim}
use Rattle.std.proofs.lemmas.Bool.{cases_lt, cases_eq, cond-true, cond-false, eq-eqb, ne_eqb}
use Rattle.firm_levels.specs.declared.Class.{Class}
use Rattle.firm_rents.specs.declared.classes.Offer.{Offer}
use Rattle.firm_rents.specs.declared.classes.Differences.{Differences}
use Rattle.firm_rents.specs.declared.classes.Left.{Left}
use Rattle.firm_rents.specs.Levels.{IsAtMost}
use Rattle.firm_rents.specs.inner.Classes.{class_at, number_by, number, AreClasses, offered, Covers, Differ}
use Rattle.firm_rents.specs.inner.Classes.{IsCheaperFrom}

-- THE NUMBER OF A CLASS IS ITS OWN OR ITS PARENT'S
enough : (classes : List Class) → AreClasses classes → (a b k t : ℕ) → k < length classes → k ≤ a → k ≤ b
    → number_by classes a k t ≡ number_by classes b k t
enough classes tree zero zero k t l p q = refl
enough classes tree zero (suc b) k t l p q =
    let e : 0 ≡ k = omega arith in
    subst (λ k. number_by classes 0 k t ≡ number_by classes (suc b) k t) e refl
enough classes tree (suc a) zero k t l p q =
    let e : 0 ≡ k = omega arith in
    subst (λ k. number_by classes (suc a) k t ≡ number_by classes 0 k t) e refl
enough classes tree (suc a) (suc b) k t l p q =
    ⊎_elim (λ (e : 0 ≡ k). subst (λ k. number_by classes (suc a) k t ≡ number_by classes (suc b) k t) e refl)
    (λ (ne : 0 ≡ k → ⊥).
    let below : (class_at classes k).parent < k = tree.parents k (omega arith) l in
    ap (λ rest. cond (eqb k 0) 1 (cond (eqb (class_at classes k).time t) (class_at classes k).number rest))
    (enough classes tree a b (class_at classes k).parent t (omega (arith, below)) (omega (arith, below))
    (omega (arith, below))))
    (cases_eq 0 k)

opened : (classes : List Class) → AreClasses classes → (k t : ℕ) → 0 < k → k < length classes
    → number classes k t
    ≡ cond (eqb (class_at classes k).time t) (class_at classes k).number (number classes (class_at classes k).parent t)
opened classes tree k t some l =
    let below : (class_at classes k).parent < k = tree.parents k some l in
    enough classes tree k (suc k) k t l (omega arith) (omega arith)
    ∙ (cond-false (eqb k 0) 1 (cond (eqb (class_at classes k).time t) (class_at classes k).number
    (number_by classes k (class_at classes k).parent t)) (ne_eqb k 0 (λ (e : k ≡ 0). omega arith))
    ∙ ap (λ rest. cond (eqb (class_at classes k).time t) (class_at classes k).number rest)
    (enough classes tree k (class_at classes k).parent (class_at classes k).parent t (omega (arith, below))
    (omega (arith, below)) (omega arith)))

pub number_own : (classes : List Class) → AreClasses classes → (k t : ℕ) → 0 < k → k < length classes
    → (class_at classes k).time ≡ t → number classes k t ≡ (class_at classes k).number
number_own classes tree k t some l e =
    opened classes tree k t some l
    ∙ cond-true (eqb (class_at classes k).time t) (class_at classes k).number
    (number classes (class_at classes k).parent t) (eq-eqb (class_at classes k).time t e)

pub number_parent : (classes : List Class) → AreClasses classes → (k t : ℕ) → 0 < k → k < length classes
    → ((class_at classes k).time ≡ t → ⊥) → number classes k t ≡ number classes (class_at classes k).parent t
number_parent classes tree k t some l ne =
    opened classes tree k t some l
    ∙ cond-false (eqb (class_at classes k).time t) (class_at classes k).number
    (number classes (class_at classes k).parent t) (ne_eqb (class_at classes k).time t ne)

past : (classes : List Class) → AreClasses classes → (most k t : ℕ) → k ≤ most → k < length classes
    → (0 < k → (class_at classes k).time < t) → number classes k t ≡ 1
past classes tree zero k t below l late =
    let e : 0 ≡ k = omega arith in
    subst (λ k. number classes k t ≡ 1) e refl
past classes tree (suc most) k t below l late =
    ⊎_elim (λ (e : 0 ≡ k). subst (λ k. number classes k t ≡ 1) e refl)
    (λ (ne : 0 ≡ k → ⊥).
    let some : 0 < k = omega arith in
    let parent : (class_at classes k).parent < k = tree.parents k some l in
    let sooner : (class_at classes k).time < t = late some in
    number_parent classes tree k t some l (λ e. omega (arith, e, sooner))
    ∙ past classes tree most (class_at classes k).parent t (omega (arith, parent)) (omega (arith, parent))
    (λ p. omega (arith, tree.times k some l p, sooner)))
    (cases_eq 0 k)

-- at a time later than its own, and so than those of all after it, a class has 1
pub number_past : (classes : List Class) → AreClasses classes → (k t : ℕ) → k < length classes
    → (0 < k → (class_at classes k).time < t) → number classes k t ≡ 1
number_past classes tree k t l late = past classes tree k k t (omega arith) l late

-- on the way from a class to the first, before the time of the class left behind last the one that is reached tells
-- the numbers
pub record IsLeft (classes : List Class) (class here : ℕ) (left : Left) : Type 0 where
  pub inside : here < length classes
  pub most : left.time ≤ 2 ^ 32
  pub told : (t : ℕ) → t < left.time → number classes class t ≡ number classes here t
  pub early : left.time < 2 ^ 32 → 0 < here → (class_at classes here).time < left.time
  pub own : left.time < 2 ^ 32 → number classes class left.time ≡ left.number
  pub fresh : left.time ≡ 2 ^ 32 → here ≡ class

pub left_on : (classes : List Class) → AreClasses classes → (class here : ℕ) (left next : Left)
    → IsLeft classes class here left → 0 < here → next.time ≡ (class_at classes here).time → next.time < 2 ^ 32
    → next.number ≡ (class_at classes here).number
    → IsLeft classes class (class_at classes here).parent next
left_on classes tree class here left next held some time small own =
    let parent : (class_at classes here).parent < here = tree.parents here some held.inside in
    let sooner : next.time < left.time =
    ⊎_elim (λ (h : left.time < 2 ^ 32). omega (arith, held.early h some, time))
    (λ (h : 2 ^ 32 ≤ left.time). omega arith) (cases_lt left.time (2 ^ 32)) in
    record {
      inside = omega (arith, parent, held.inside);
      most = omega arith;
      told = λ t before. held.told t (omega (arith, before, sooner))
          ∙ number_parent classes tree here t some held.inside (λ e. omega (arith, e, time, before));
      early = λ h more. omega (arith, tree.times here some held.inside more, time);
      own = λ h. held.told next.time sooner
          ∙ (number_own classes tree here next.time some held.inside (sym time) ∙ sym own);
      fresh = λ e. absurd (omega (arith, e, small));
    }

-- where two ways meet
pub met : (classes : List Class) (one other here there : ℕ) (first second : Left) → here ≡ there
    → IsLeft classes one here first → IsLeft classes other there second
    → (t : ℕ) → t < first.time → t < second.time → number classes one t ≡ number classes other t
met classes one other here there first second same held kept t a b =
    held.told t a ∙ (ap (λ k. number classes k t) same ∙ sym (kept.told t b))

-- at the earlier of the times left behind last the other class has 1
pub left_number : (classes : List Class) → AreClasses classes → (one other here there : ℕ) (first second : Left)
    → here ≡ there → IsLeft classes one here first → IsLeft classes other there second → first.time < second.time
    → number classes other first.time ≡ 1
left_number classes tree one other here there first second same held kept sooner =
    kept.told first.time sooner
    ∙ (ap (λ k. number classes k first.time) (sym same)
    ∙ number_past classes tree here first.time held.inside (held.early (omega (arith, kept.most, sooner))))

-- A TIME IS LOOKED AT, OR THE CLASSES STILL TO BE LOOKED AT TELL THE NUMBERS
pub record StillTold (classes : List Class) (one other : Offer) (here there t : ℕ) : Type 0 where
  pub one_told : number classes one.class t ≡ number classes here t
  pub other_told : number classes other.class t ≡ number classes there t

abbrev pub IsLooked : List Class → Offer → Offer → Differences → ℕ → ℕ → ℕ → Type 0
IsLooked classes one other found here there t =
    Covers (offered classes one) (offered classes other) found t ⊎ StillTold classes one other here there t

pub looked_here : (classes : List Class) → AreClasses classes → (one other : Offer) (found next : Differences)
    (here there : ℕ) → 0 < here → here < length classes
    → ((t : ℕ) → IsLooked classes one other found here there t)
    → ((t : ℕ) → Covers (offered classes one) (offered classes other) found t
    → Covers (offered classes one) (offered classes other) next t)
    → Covers (offered classes one) (offered classes other) next (class_at classes here).time
    → (t : ℕ) → IsLooked classes one other next (class_at classes here).parent there t
looked_here classes tree one other found next here there some l looked kept covers t =
    ⊎_elim (λ (h : Covers (offered classes one) (offered classes other) found t). inl (kept t h))
    (λ (h : StillTold classes one other here there t).
    ⊎_elim (λ (e : (class_at classes here).time ≡ t).
    inl (subst (Covers (offered classes one) (offered classes other) next) e covers))
    (λ (ne : (class_at classes here).time ≡ t → ⊥).
    inr (record { one_told = h.one_told ∙ number_parent classes tree here t some l ne; other_told = h.other_told }))
    (cases_eq (class_at classes here).time t))
    (looked t)

pub looked_there : (classes : List Class) → AreClasses classes → (one other : Offer) (found next : Differences)
    (here there : ℕ) → 0 < there → there < length classes
    → ((t : ℕ) → IsLooked classes one other found here there t)
    → ((t : ℕ) → Covers (offered classes one) (offered classes other) found t
    → Covers (offered classes one) (offered classes other) next t)
    → Covers (offered classes one) (offered classes other) next (class_at classes there).time
    → (t : ℕ) → IsLooked classes one other next here (class_at classes there).parent t
looked_there classes tree one other found next here there some l looked kept covers t =
    ⊎_elim (λ (h : Covers (offered classes one) (offered classes other) found t). inl (kept t h))
    (λ (h : StillTold classes one other here there t).
    ⊎_elim (λ (e : (class_at classes there).time ≡ t).
    inl (subst (Covers (offered classes one) (offered classes other) next) e covers))
    (λ (ne : (class_at classes there).time ≡ t → ⊥).
    inr (record { one_told = h.one_told; other_told = h.other_told ∙ number_parent classes tree there t some l ne }))
    (cases_eq (class_at classes there).time t))
    (looked t)

-- what a choice of this time costs at a time
abbrev mark : ℕ → ℕ → ℕ
mark t time = cond (eqb t time) 0 1

mark_other : (t u : ℕ) → (t ≡ u → ⊥) → mark t u ≡ 1
mark_other t u ne = cond-false (eqb t u) 0 1 (ne_eqb t u ne)

mark_own : (t : ℕ) → mark t t ≡ 0
mark_own t = cond-true (eqb t t) 0 1 (eq-eqb t t refl)

mark_most : (t u : ℕ) → mark t u ≤ 1
mark_most t u = sides (eqb t u)
  where
    sides : (b : Bool) → cond b 0 1 ≤ 1
    sides true = omega arith
    sides false = omega arith

pub all_looked : (classes : List Class) (one other : Offer) (found : Differences) (here there : ℕ) → here ≡ there
    → Covers (offered classes one) (offered classes other) found one.time
    → Covers (offered classes one) (offered classes other) found other.time
    → ((t : ℕ) → IsLooked classes one other found here there t)
    → (t : ℕ) → Covers (offered classes one) (offered classes other) found t
all_looked classes one other found here there same here_covers there_covers looked t =
    ⊎_elim (λ (h : Covers (offered classes one) (offered classes other) found t). h)
    (λ (h : StillTold classes one other here there t).
    ⊎_elim (λ (e : one.time ≡ t). subst (Covers (offered classes one) (offered classes other) found) e here_covers)
    (λ (n : one.time ≡ t → ⊥).
    ⊎_elim (λ (e : other.time ≡ t). subst (Covers (offered classes one) (offered classes other) found) e there_covers)
    (λ (m : other.time ≡ t → ⊥).
    let equal : offered classes one (suc t) ≡ offered classes other (suc t) =
    omega (
      arith,
      h.one_told,
      h.other_told,
      ap (λ k. number classes k t) same,
      mark_other t one.time (λ e. n (sym e)),
      mark_other t other.time (λ e. m (sym e)),
    ) in
    record {
      less = λ l. absurd (omega (arith, l, equal));
      more = λ l. absurd (omega (arith, l, equal));
    })
    (cases_eq other.time t))
    (cases_eq one.time t))
    (looked t)

-- of two choices of one class the sooner is cheaper
pub sooner_of_class : (classes : List Class) (one other : Offer) → one.amount ≡ other.amount → one.class ≡ other.class
    → one.time ≤ other.time → IsAtMost (offered classes one) (offered classes other)
sooner_of_class classes one other amounts same_class sooner zero same = omega (arith, amounts)
sooner_of_class classes one other amounts same_class sooner (suc t) same =
    let here : number classes one.class t ≡ number classes other.class t = ap (λ k. number classes k t) same_class in
    ⊎_elim (λ (e : t ≡ other.time).
    ⊎_elim (λ (q : one.time ≡ other.time). omega (arith, here, ap (mark t) q))
    (λ (ne : one.time ≡ other.time → ⊥).
    let alike : offered classes one (suc one.time) ≡ offered classes other (suc one.time) =
    same (suc one.time) (omega arith) in
    absurd (omega (
      arith,
      alike,
      mark_own one.time,
      mark_other one.time other.time ne,
      ap (λ k. number classes k one.time) same_class,
    )))
    (cases_eq one.time other.time))
    (λ (ne : t ≡ other.time → ⊥). omega (arith, here, mark_most t one.time, mark_other t other.time ne))
    (cases_eq t other.time)

-- THE FIRST TIMES DECIDE
pub by_amount : (f g : ℕ → ℕ) → f 0 < g 0 → IsAtMost f g
by_amount f g less zero same = omega arith
by_amount f g less (suc t) same = let e : f 0 ≡ g 0 = same 0 (omega arith) in absurd (omega (arith, e, less))

pub by_first : (f g : ℕ → ℕ) (less more : ℕ) → f 0 ≡ g 0
    → ((t : ℕ) → g (suc t) < f (suc t) → (more ≤ t) × (more < 2 ^ 32))
    → (less < 2 ^ 32 → f (suc less) < g (suc less)) → less ≤ more → IsAtMost f g
by_first f g less more e covers differ l zero same = omega (arith, e)
by_first f g less more e covers differ l (suc t) same =
    ⊎_elim (λ (h : g (suc t) < f (suc t)).
    let found : (more ≤ t) × (more < 2 ^ 32) = covers t h in
    let before : more ≤ t = found.0 in
    let some : more < 2 ^ 32 = found.1 in
    let dearer : f (suc less) < g (suc less) = differ (omega (arith, l, some)) in
    ⊎_elim (λ (q : less ≡ t).
    let here : f (suc t) < g (suc t) = subst (λ t. f (suc t) < g (suc t)) q dearer in
    absurd (omega (arith, h, here)))
    (λ (ne : less ≡ t → ⊥).
    let equal : f (suc less) ≡ g (suc less) = same (suc less) (omega arith) in absurd (omega (arith, equal, dearer)))
    (cases_eq less t))
    (λ (h : f (suc t) ≤ g (suc t)). h)
    (cases_lt (g (suc t)) (f (suc t)))

-- the first differences of classes alone
pub cheaper_of : (classes : List Class) (one other : ℕ) (found : Differences)
    → ((t : ℕ) → Covers (offered classes (record { amount = 0; class = one; time = 0 }))
    (offered classes (record { amount = 0; class = other; time = 0 })) found t)
    → Differ (offered classes (record { amount = 0; class = one; time = 0 }))
    (offered classes (record { amount = 0; class = other; time = 0 })) found
    → found.less < found.more → found.less < 2 ^ 32
    → IsCheaperFrom (number classes one) (number classes other) found.less
cheaper_of classes one other found covers differ sooner some =
    record {
      before = λ t h.
          ⊎_elim (λ (l : number classes one t < number classes other t).
          let late : (found.less ≤ t) × (found.less < 2 ^ 32) = (covers t).less (omega (arith, l)) in
          absurd (omega (arith, late.0, h)))
          (λ (m : number classes other t ≤ number classes one t).
          ⊎_elim (λ (l : number classes other t < number classes one t).
          let late : (found.more ≤ t) × (found.more < 2 ^ 32) = (covers t).more (omega (arith, l)) in
          absurd (omega (arith, late.0, h, sooner)))
          (λ (l : number classes one t ≤ number classes other t). omega (arith, l, m))
          (cases_lt (number classes other t) (number classes one t)))
          (cases_lt (number classes one t) (number classes other t));
      cheaper = omega (arith, differ.less some);
    }

-- the first level at which they differ decides
pub by_level : (f g : ℕ → ℕ) (first : ℕ) → f 0 ≡ g 0 → ((t : ℕ) → t < first → f (suc t) ≡ g (suc t))
    → f (suc first) < g (suc first) → IsAtMost f g
by_level f g first amounts before less zero same = omega (arith, amounts)
by_level f g first amounts before less (suc t) same =
    ⊎_elim (λ (h : t < first). omega (arith, before t h))
    (λ (h : first ≤ t).
    ⊎_elim (λ (e : first ≡ t). subst (λ t. f (suc t) ≤ g (suc t)) e (omega (arith, less)))
    (λ (ne : first ≡ t → ⊥).
    let equal : f (suc first) ≡ g (suc first) = same (suc first) (omega arith) in absurd (omega (arith, equal, less)))
    (cases_eq first t))
    (cases_lt t first)

-- the sooner choice is cheaper, if the classes do not differ before it
pub by_choice : (classes : List Class) (one other : Offer) → one.amount ≡ other.amount
    → ((t : ℕ) → t ≤ one.time → number classes one.class t ≡ number classes other.class t) → one.time < other.time
    → IsAtMost (offered classes one) (offered classes other)
by_choice classes one other amounts alike sooner =
    by_level (offered classes one) (offered classes other) one.time amounts
    (λ t h. omega (
      arith,
      alike t (omega (arith, h)),
      mark_other t one.time (λ (e : t ≡ one.time). omega (arith, e, h)),
      mark_other t other.time (λ (e : t ≡ other.time). omega (arith, e, h, sooner)),
    ))
    (omega (
      arith,
      alike one.time (omega arith),
      mark_own one.time,
      mark_other one.time other.time (λ (e : one.time ≡ other.time). omega (arith, e, sooner)),
    ))

-- the classes' first difference decides, if no choice is before it or both are made at one time
pub by_parting : (classes : List Class) (one other : Offer) (first : ℕ) → one.amount ≡ other.amount
    → ((t : ℕ) → t < first → number classes one.class t ≡ number classes other.class t)
    → (one.time ≡ other.time ⊎ ((first ≤ one.time) × (first ≤ other.time)))
    → offered classes one (suc first) < offered classes other (suc first)
    → IsAtMost (offered classes one) (offered classes other)
by_parting classes one other first amounts alike choices less =
    by_level (offered classes one) (offered classes other) first amounts
    (λ t h.
    let marks : mark t one.time ≡ mark t other.time =
    ⊎_elim (λ (e : one.time ≡ other.time). ap (mark t) e)
    (λ (late : (first ≤ one.time) × (first ≤ other.time)).
    omega (
      arith,
      mark_other t one.time (λ (e : t ≡ one.time). omega (arith, e, h, late.0)),
      mark_other t other.time (λ (e : t ≡ other.time). omega (arith, e, h, late.1)),
    ))
    choices in
    omega (arith, alike t h, marks))
    less

-- with choices later than the classes' first difference
pub by_dearer : (classes : List Class) (one other : Offer) (first a b : ℕ) → one.amount ≡ other.amount
    → IsCheaperFrom (number classes one.class) (number classes other.class) first → first < a → first < b
    → IsAtMost (offered classes (record one { time = a })) (offered classes (record other { time = b }))
by_dearer classes one other first a b amounts from la lb =
    by_level (offered classes (record one { time = a })) (offered classes (record other { time = b })) first amounts
    (λ t h. omega (
      arith,
      from.before t h,
      mark_other t a (λ (e : t ≡ a). omega (arith, e, h, la)),
      mark_other t b (λ (e : t ≡ b). omega (arith, e, h, lb)),
    ))
    (omega (
      arith,
      from.cheaper,
      mark_other first a (λ (e : first ≡ a). omega (arith, e, la)),
      mark_other first b (λ (e : first ≡ b). omega (arith, e, lb)),
    ))
