-- The first of the least placements: what the loop over the tasks keeps.
use Rattle.std.proofs.Common.{◌≡◌, ℕ, zero, suc, ◌+◌, ◌*◌, ◌<◌, ◌≤◌, Bool, true, false, cond, eqb, ltb, ◌&&◌, List, []}
use Rattle.std.proofs.Common.{◌∷◌, ◌++◌, length, get_or, arith, refl, sym, ap, subst, ◌∙◌, inl, inr, ◌⊎◌, ⊎_elim}
use Rattle.std.proofs.Common.{Option, Some, None}
use Rattle.std.specs.List.{All, sum_by}
use Rattle.std.proofs.lemmas.List.Elements.{All-head, All-tail, All-nil, All-cons, All-append}
use Rattle.std.proofs.lemmas.Bool.{cases_Bool, cases_lt, eqb-true, le-ltb, or_parts, or_from, and_left, and_right}
use Rattle.std.proofs.lemmas.Bool.{and_cases}
use Rattle.firm_rules.specs.declared.rounds.Choice.{Choice}
use Rattle.firm_rules.specs.declared.rounds.Choice.TheVariants.{On, Wait}
use Rattle.firm_rules.specs.Placement.{Demand, Case, runs_at, rank, IsLegal, placement_cost as cost, IsPlace}
use Rattle.firm_rules.specs.Placement.{comes_before as before}
use Rattle.firm_paths.specs.Network.{Arc, AreValid}
use Rattle.firm_flow.specs.Flow.{IsWithinBounds, cost_of, carried}
use Rattle.firm_rules.specs.Round.{IsRound}
use Rattle.firm_graph.specs.declared.network.Node.{Node}
use Rattle.firm_graph.specs.declared.network.Node.TheVariants.{Sink}
use Rattle.firm_graph.specs.declared.network.Key.{Key}
use Rattle.firm_graph.specs.declared.network.Key.TheVariants.{Through, Slot, Exit, Wide, Stay, Wait as WaitArc, Prefer}
use Rattle.firm_graph.specs.Network.{demand, network, task_nodes, IsSound}
use Rattle.firm_canon.proofs.Totals.{total-le}
use Rattle.firm_canon.specs.inner.Placed.{pick, wide, stay, waits, prefer, spot, guests, placed}
use Rattle.firm_canon.proofs.Nears.{prefer_none, stay_none}
use Rattle.firm_canon.proofs.Placed.{sum_network, cost_placed, balanced_placed}
use Rattle.firm_canon.proofs.Parts.{parts, whole, within_placed}
use Rattle.firm_canon.proofs.Read.{read}
use Rattle.firm_flow.specs.Balance.{Balanced}
use Rattle.firm_canon.specs.inner.Laws.{ChoiceLaws}
use Rattle.firm_canon.specs.inner.Choosing.{low_of, Stands}

pick_append : (p r : List Choice) (i : ℕ) → (pick p i ≡ None) ⊎ (pick (p ++ r) i ≡ pick p i)
pick_append [] r i = inl refl
pick_append (o ∷ p) r zero = inr refl
pick_append (o ∷ p) r (suc i) = pick_append p r i

pub pick_past : (p : List Choice) → pick p (length p) ≡ None
pick_past [] = refl
pick_past (a ∷ p) = pick_past p

-- a number that is 0 at no choice only grows along a prefix
pub grows : (F : Option Choice → ℕ) (p r : List Choice) (i : ℕ) → F None ≡ 0 → F (pick p i) ≤ F (pick (p ++ r) i)
grows F p r i z =
    ⊎_elim (λ (e : pick p i ≡ None). omega (arith, ap F e, z))
    (λ (e : pick (p ++ r) i ≡ pick p i). omega (arith, ap F e)) (pick_append p r i)

abbrev pub guest_term : Case → ℕ → ℕ → Option Choice → ℕ
guest_term c j i o = cond (eqb (spot o) j) (wide (demand c i) o) 0

pub guest_none : (c : Case) (j i : ℕ) → guest_term c j i None ≡ 0
guest_none c j i = elim (eqb 0 j) as (λ b. ◌≡◌ {A = ℕ} (cond b 0 0) 0) [ true ↦ refl | false ↦ refl ]

pub guests-le : (c : Case) (p r : List Choice) (j : ℕ) → guests c p j ≤ guests c (p ++ r) j
guests-le c p r j =
    total-le (λ (i : ℕ). guest_term c j i (pick p i)) (λ (i : ℕ). guest_term c j i (pick (p ++ r) i)) (length c.tasks)
    (λ i l. grows (guest_term c j i) p r i (guest_none c j i))

pub wide_none : (t : Demand) → wide t None ≡ 0
wide_none t = refl

-- the holds shut out no placement that goes on from the prefix
pub low-le : (c : Case) (p r : List Choice) (k : Key) → low_of c p k ≤ placed c (p ++ r) k
low-le c p r (Through j) = guests-le c p r j
low-le c p r (Slot j k) = omega arith
low-le c p r (Exit k) = omega arith
low-le c p r (Wide i) = grows (wide (demand c i)) p r i (wide_none (demand c i))
low-le c p r (Stay i) = grows (stay (demand c i).home) p r i (stay_none (demand c i).home)
low-le c p r (WaitArc i) = grows waits p r i refl
low-le c p r (Prefer i k) = grows (prefer (demand c i) k) p r i (prefer_none (demand c i) k)

before_none : (m : ℕ) (ts : List Demand) (q : List Choice) → before m ts q [] ≡ false
before_none m [] q = refl
before_none m (t ∷ ts) [] = refl
before_none m (t ∷ ts) (b ∷ q) = refl

ranks_last : (own : Bool) (k m : ℕ) → k < m → suc m ≡ cond own 0 (suc k) → ⊥
ranks_last own k m below e = grind arith

same_place : (own other : Bool) (j k : ℕ) → (own ≡ true → other ≡ true → j ≡ k)
    → cond own 0 (suc j) ≡ cond other 0 (suc k) → j ≡ k
same_place own other j k same e = grind arith

-- two choices of one rank are one
rank_is : (m : ℕ) (home : Option ℕ) (a b : Choice) → IsPlace m a → IsPlace m b → rank m home a ≡ rank m home b → a ≡ b
rank_is m home Wait Wait pa pb e = refl
rank_is m home Wait (On k) pa pb e = absurd (ranks_last (runs_at home k) k m pb e)
rank_is m home (On j) Wait pa pb e = absurd (ranks_last (runs_at home j) j m pa (sym e))
rank_is m home (On j) (On k) pa pb e =
    ap On (same_place (runs_at home j) (runs_at home k) j k (same_home home j k) e)
  where
    same_home : (home : Option ℕ) (j k : ℕ) → runs_at home j ≡ true → runs_at home k ≡ true → j ≡ k
    same_home None j k f g = cc
    same_home (Some h) j k f g = sym (eqb-true h j f) ∙ eqb-true h k g

-- a further choice: no least placement comes before the longer prefix, if none goes on by a choice that ranks first
before_push : (m : ℕ) (d : Demand) (ts : List Demand) (q p : List Choice) (o : Choice)
    → All (IsPlace m) q → All (IsPlace m) p
    → before m ts q p ≡ false
    → ((b : Choice) (r : List Choice) → q ≡ p ++ b ∷ r → IsPlace m b
    → rank m (get_or ts (length p) d).home b < rank m (get_or ts (length p) d).home o → ⊥)
    → before m ts q (p ++ o ∷ []) ≡ false
before_push m d [] q p o aq ap' h bars = refl
before_push m d (t ∷ ts) [] [] o aq ap' h bars = refl
before_push m d (t ∷ ts) [] (a ∷ p) o aq ap' h bars = refl
before_push m d (t ∷ ts) (b ∷ q) [] o aq ap' h bars =
    or_from (ltb (rank m t.home b) (rank m t.home o)) (eqb (rank m t.home b) (rank m t.home o) && before m ts q [])
    (⊎_elim (λ (l : rank m t.home b < rank m t.home o). absurd (bars b q refl (All-head (IsPlace m) b q aq) l))
    (λ (g : rank m t.home o ≤ rank m t.home b). le-ltb (rank m t.home b) (rank m t.home o) g)
    (cases_lt (rank m t.home b) (rank m t.home o)))
    (and_right (eqb (rank m t.home b) (rank m t.home o)) (before m ts q []) (before_none m ts q))
before_push m d (t ∷ ts) (b ∷ q) (a ∷ p) o aq ap' h bars =
    let halves : (ltb (rank m t.home b) (rank m t.home a) ≡ false)
    × ((eqb (rank m t.home b) (rank m t.home a) && before m ts q p) ≡ false) =
    or_parts (ltb (rank m t.home b) (rank m t.home a)) (eqb (rank m t.home b) (rank m t.home a) && before m ts q p) h in
    or_from (ltb (rank m t.home b) (rank m t.home a))
    (eqb (rank m t.home b) (rank m t.home a) && before m ts q (p ++ o ∷ [])) halves.0
    (⊎_elim (λ (f : eqb (rank m t.home b) (rank m t.home a) ≡ true).
    let same : b ≡ a = rank_is m t.home b a (All-head (IsPlace m) b q aq) (All-head (IsPlace m) a p ap')
    (eqb-true (rank m t.home b) (rank m t.home a) f) in
    let rest : before m ts q p ≡ false =
    ⊎_elim (λ (g : eqb (rank m t.home b) (rank m t.home a) ≡ false). cc) (λ (g : before m ts q p ≡ false). g)
    (and_cases (eqb (rank m t.home b) (rank m t.home a)) (before m ts q p) halves.1) in
    and_right (eqb (rank m t.home b) (rank m t.home a)) (before m ts q (p ++ o ∷ []))
    (before_push m d ts q p o (All-tail (IsPlace m) b q aq) (All-tail (IsPlace m) a p ap') rest
    (λ c r e pl l. bars c r (ap (λ z. b ∷ z) e ∙ ap (λ z. z ∷ (p ++ c ∷ r)) same) pl l)))
    (λ (f : eqb (rank m t.home b) (rank m t.home a) ≡ false). and_left (eqb (rank m t.home b) (rank m t.home a))
    (before m ts q (p ++ o ∷ [])) f)
    (cases_Bool (eqb (rank m t.home b) (rank m t.home a))))

-- the start: a least flow with nothing held
pub start : ChoiceLaws → (c : Case) (x : Key → ℕ) (price : Node → ℕ) → IsSound c
    → AreValid (network c (low_of c []) x) price → IsWithinBounds (network c (low_of c []) x) carried
    → Balanced (network c (low_of c []) x) (task_nodes c) Sink carried
    → Stands c [] x price
start laws c x price sound valid within balanced = record {
  valid = valid;
  within = within;
  balanced = balanced;
  places = All-nil (IsPlace (length c.slots));
  least = λ q legal.
      subst (λ (z : ℕ). cost_of (network c (low_of c []) x) carried ≤ z)
      (cost_placed laws.sums c q (low_of c []) x legal)
      (laws.least (network c (low_of c []) x) (task_nodes c) Sink price (λ (a : Arc Node Key). placed c q a.key)
      valid balanced
      (within_placed c q (low_of c []) x sound legal (low-le c [] q))
      (balanced_placed c q (low_of c []) x sound legal));
  first = λ q legal cheap. before_none (length c.slots) c.tasks q;
}

-- sums of what is carried do not read the lower bounds
pub carried_sum : (F : Node → Node → ℕ → ℕ → ℕ) (c : Case) (low low' x : Key → ℕ)
    → sum_by (λ (a : Arc Node Key). F a.tail a.head a.cost a.flow) (network c low x)
    ≡ sum_by (λ (a : Arc Node Key). F a.tail a.head a.cost a.flow) (network c low' x)
carried_sum F c low low' x =
    sum_network (λ (a : Arc Node Key). F a.tail a.head a.cost a.flow) c low x
    ∙ sym (sum_network (λ (a : Arc Node Key). F a.tail a.head a.cost a.flow) c low' x)

-- THE STEP: the prefix takes one more choice, which the flow already has and before which no choice is left
pub extend : (c : Case) (p : List Choice) (o : Choice) (x : Key → ℕ) (price : Node → ℕ)
    → Stands c p x price → IsPlace (length c.slots) o
    → IsWithinBounds (network c (low_of c (p ++ o ∷ [])) x) carried
    → ((b : Choice) (r : List Choice) → IsLegal c (p ++ b ∷ r)
    → cost c (p ++ b ∷ r) ≤ cost_of (network c (low_of c p) x) carried → IsPlace (length c.slots) b
    → rank (length c.slots) (demand c (length p)).home b < rank (length c.slots) (demand c (length p)).home o → ⊥)
    → ((k : Key) → low_of c p k ≤ low_of c (p ++ o ∷ []) k)
    → Stands c (p ++ o ∷ []) x price
extend c p o x price stands place within none higher =
    let old : List (Arc Node Key) = network c (low_of c p) x in
    let new : List (Arc Node Key) = network c (low_of c (p ++ o ∷ [])) x in
    let cost_same : cost_of new carried ≡ cost_of old carried =
    carried_sum (λ tail head cost flow. cost * flow) c (low_of c (p ++ o ∷ [])) (low_of c p) x in
    let old_valid = parts (λ (a : Arc Node Key). (a.flow < a.cap → price a.head ≤ a.cost + price a.tail)
    × (a.low < a.flow → a.cost + price a.tail ≤ price a.head))
    c (low_of c p) x stands.valid in
    record {
      valid = whole (λ (a : Arc Node Key). (a.flow < a.cap → price a.head ≤ a.cost + price a.tail)
          × (a.low < a.flow → a.cost + price a.tail ≤ price a.head))
          c (low_of c (p ++ o ∷ [])) x (record {
            through = λ j l. (
              (old_valid.through j l).0,
              λ h. (old_valid.through j l).1 (omega (arith, h, higher (Through j))),
            );
            slot = λ j k l r. ((old_valid.slot j k l r).0, (old_valid.slot j k l r).1);
            exit = λ k l. ((old_valid.exit k l).0, (old_valid.exit k l).1);
            wides = λ i l. ((old_valid.wides i l).0, λ h. (old_valid.wides i l).1 (omega (arith, h, higher (Wide i))));
            stays = λ i l. ((old_valid.stays i l).0, λ h. (old_valid.stays i l).1 (omega (arith, h, higher (Stay i))));
            delays = λ i l. (
              (old_valid.delays i l).0,
              λ h. (old_valid.delays i l).1 (omega (arith, h, higher (WaitArc i))),
            );
            prefers = λ i k l m. (
              (old_valid.prefers i k l m).0,
              λ h. (old_valid.prefers i k l m).1 (omega (arith, h, higher (Prefer i k))),
            );
          });
      within = within;
      balanced = λ w. omega (
        arith,
        stands.balanced w,
        carried_sum (λ tail head cost flow. w head * flow) c (low_of c (p ++ o ∷ [])) (low_of c p) x,
        carried_sum (λ tail head cost flow. w tail * flow) c (low_of c (p ++ o ∷ [])) (low_of c p) x,
      );
      places = All-append (IsPlace (length c.slots)) p (o ∷ []) stands.places
          (All-cons (IsPlace (length c.slots)) o [] place (All-nil (IsPlace (length c.slots))));
      least = λ q legal. omega (arith, cost_same, stands.least q legal);
      first = λ q legal cheap.
          let cheap_old : cost c q ≤ cost_of old carried = omega (arith, cost_same, cheap) in
          before_push (length c.slots) (record { home = None; preferred = []; delay = 0; job = 0 })
          c.tasks q p o legal.places stands.places (stands.first q legal cheap_old)
          (λ b r e pl l. none b r (subst (λ (z : List Choice). IsLegal c z) e legal)
          (subst (λ (z : List Choice). cost c z ≤ cost_of old carried) e cheap_old) pl l);
    }

-- the end: with every task chosen, the placement of the round
pub finish : ChoiceLaws → (c : Case) (p : List Choice) (x : Key → ℕ) (price : Node → ℕ) → Stands c p x price
    → length p ≡ length c.tasks → IsRound c p
finish laws c p x price stands e =
    let bounds = parts (λ (a : Arc Node Key). (a.low ≤ a.flow) × (a.flow ≤ a.cap)) c (low_of c p) x stands.within in
    let done : IsLegal c p × (cost c p ≤ cost_of (network c (low_of c p) x) carried) =
    read laws.sums laws.rises c p (low_of c p) x e stands.places (record {
      at_through = λ j l. (bounds.through j l).0;
      at_wide = λ i l. (bounds.wides i l).0;
      at_stay = λ i l. (bounds.stays i l).0;
      at_delay = λ i l. (bounds.delays i l).0;
      at_prefer = λ i k l m. (bounds.prefers i k l m).0;
    }) stands.within stands.balanced in
    record {
      legal = done.0;
      least = λ q legal. omega (arith, done.1, stands.least q legal);
      first = λ q legal same. stands.first q legal (omega (arith, done.1, same));
    }
