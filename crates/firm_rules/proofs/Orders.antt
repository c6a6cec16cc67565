-- The first task on which two placements differ decides which of them comes before.
use Rattle.std.proofs.Common.{◌≡◌, ℕ, zero, suc, ◌<◌, Bool, true, false, eqb, ltb, ◌&&◌, ◌||◌, List, [], ◌∷◌, length}
use Rattle.std.proofs.Common.{take, drop, get_or, refl, ap, subst, arith, ⊎_elim, inl, inr, ◌⊎◌}
use Rattle.std.specs.List.{All}
use Rattle.std.proofs.lemmas.List.Elements.{All-head, All-tail}
use Rattle.std.proofs.lemmas.Bool.{and_from, and_parts, eq-eqb, eqb-true, ltb-true, lt-ltb}
use Rattle.firm_rules.specs.declared.rounds.Choice.{Choice}
use Rattle.firm_rules.specs.declared.rounds.Choice.TheVariants.{On, Wait}
use Rattle.firm_rules.specs.Placement.{Demand, Case, IsPlace, IsLegal, is_place, rank, comes_before}
use Rattle.firm_rules.specs.Order.{home_at, DiffersFirst, IsOrdered}
use Rattle.firm_rules.proofs.Firsts.{rank_is}

or_either : (x y : Bool) → (x || y) ≡ true → (x ≡ true) ⊎ (y ≡ true)
or_either true y e = inl refl
or_either false y e = inr e

or_left : (x y : Bool) → x ≡ true → (x || y) ≡ true
or_left true y e = refl
or_left false y e = absurd cc

or_right : (x y : Bool) → y ≡ true → (x || y) ≡ true
or_right true y e = refl
or_right false y e = e

is_one : (m : ℕ) (a : Choice) → IsPlace m a → is_place m a ≡ true
is_one m (On j) l = lt-ltb j m l
is_one m Wait l = refl

later : (m : ℕ) (task : Demand) (tasks : List Demand) (a : Choice) (p q : List Choice) → DiffersFirst m tasks p q
    → DiffersFirst m (task ∷ tasks) (a ∷ p) (a ∷ q)
later m task tasks a p q d = record {
  task = suc d.task;
  there = omega (arith, d.there);
  same = ap (λ (xs : List Choice). a ∷ xs) d.same;
  ranks = d.ranks;
}

here : (m : ℕ) (task : Demand) (tasks : List Demand) (a b : Choice) (p q : List Choice)
    → rank m task.home a < rank m task.home b → DiffersFirst m (task ∷ tasks) (a ∷ p) (b ∷ q)
here m task tasks a b p q l = record { task = 0; there = omega arith; same = refl; ranks = l }

differs : (m : ℕ) (tasks : List Demand) (p q : List Choice) → All (IsPlace m) p → All (IsPlace m) q
    → comes_before m tasks p q ≡ true → DiffersFirst m tasks p q
differs m [] p q ip iq e = absurd cc
differs m (task ∷ tasks) [] q ip iq e = absurd cc
differs m (task ∷ tasks) (a ∷ p) [] ip iq e = absurd cc
differs m (task ∷ tasks) (a ∷ p) (b ∷ q) ip iq e =
    ⊎_elim
    (λ (less : ltb (rank m task.home a) (rank m task.home b) ≡ true).
    here m task tasks a b p q (ltb-true (rank m task.home a) (rank m task.home b) less))
    (λ (more : (eqb (rank m task.home a) (rank m task.home b) && comes_before m tasks p q) ≡ true).
    let both = and_parts (eqb (rank m task.home a) (rank m task.home b)) (comes_before m tasks p q) more in
    let same : a ≡ b =
    rank_is m task.home a b (is_one m a (All-head (IsPlace m) a p ip)) (is_one m b (All-head (IsPlace m) b q iq))
    (eqb-true (rank m task.home a) (rank m task.home b) both.0) in
    subst (λ (z : Choice). DiffersFirst m (task ∷ tasks) (a ∷ p) (z ∷ q)) same
    (later m task tasks a p q (differs m tasks p q (All-tail (IsPlace m) a p ip) (All-tail (IsPlace m) b q iq) both.1)))
    (or_either (ltb (rank m task.home a) (rank m task.home b))
    (eqb (rank m task.home a) (rank m task.home b) && comes_before m tasks p q) e)

-- the head and the tail of equal lists
head_same : (a b : Choice) (p q : List Choice) → a ∷ p ≡ b ∷ q → a ≡ b
head_same a b p q e = ap (λ (xs : List Choice). get_or xs 0 Wait) e

tail_same : (a b : Choice) (p q : List Choice) → a ∷ p ≡ b ∷ q → p ≡ q
tail_same a b p q e = ap (λ (xs : List Choice). drop 1 xs) e

pub decided : (m : ℕ) (tasks : List Demand) (p q : List Choice) (at : ℕ) → length p ≡ length tasks
    → length q ≡ length tasks → at < length tasks → take at p ≡ take at q
    → rank m (home_at tasks at) (get_or p at Wait) < rank m (home_at tasks at) (get_or q at Wait)
    → comes_before m tasks p q ≡ true
decided m [] p q at lp lq low same less = absurd (omega (arith, low))
decided m (task ∷ tasks) [] q at lp lq low same less = absurd (omega (arith, lp))
decided m (task ∷ tasks) (a ∷ p) [] at lp lq low same less = absurd (omega (arith, lq))
decided m (task ∷ tasks) (a ∷ p) (b ∷ q) zero lp lq low same less =
    or_left (ltb (rank m task.home a) (rank m task.home b))
    (eqb (rank m task.home a) (rank m task.home b) && comes_before m tasks p q)
    (lt-ltb (rank m task.home a) (rank m task.home b) less)
decided m (task ∷ tasks) (a ∷ p) (b ∷ q) (suc at) lp lq low same less =
    let e : a ≡ b = head_same a b (take at p) (take at q) same in
    or_right (ltb (rank m task.home a) (rank m task.home b))
    (eqb (rank m task.home a) (rank m task.home b) && comes_before m tasks p q)
    (and_from (eqb (rank m task.home a) (rank m task.home b)) (comes_before m tasks p q)
    (eq-eqb (rank m task.home a) (rank m task.home b) (ap (rank m task.home) e))
    (decided m tasks p q at (omega (arith, lp)) (omega (arith, lq)) (omega (arith, low))
    (tail_same a b (take at p) (take at q) same) less))

pub ordered : (c : Case) (p q : List Choice) → IsLegal c p → IsLegal c q → IsOrdered c p q
ordered c p q lp lq = record {
  yes = differs (length c.slots) c.tasks p q lp.places lq.places;
  only = λ (d : DiffersFirst (length c.slots) c.tasks p q).
      decided (length c.slots) c.tasks p q d.task lp.one_each lq.one_each d.there d.same d.ranks;
}
