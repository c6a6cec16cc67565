-- Choices that attempts rule out, and the premises of a choice.
use Rattle.std.proofs.Common.{◌≡◌, ℕ, suc, ◌+◌, ◌<◌, ◌≤◌, true, false, cond, eqb, List, ◌∷◌, ◌++◌, ◌⊎◌, []}
use Rattle.std.proofs.Common.{append_assoc, length, Some, None, Option, refl, sym, ap, subst, arith, ⊎_elim}
use Rattle.std.proofs.lemmas.Bool.{cases_Bool, cases_eq, cond-true, cond-false, eqb-true, eq-eqb, ne_eqb}
use Rattle.firm_paths.specs.Network.{Arc}
use Rattle.firm_rules.specs.declared.rounds.Choice.{Choice}
use Rattle.firm_rules.specs.declared.rounds.Choice.TheVariants.{On, Wait}
use Rattle.firm_rules.specs.Placement.{Case, Demand, rank, runs_at, prefers, IsLegal, IsPlace, placement_cost as cost}
use Rattle.firm_graph.specs.declared.network.Node.{Node}
use Rattle.firm_graph.specs.declared.network.Key.{Key}
use Rattle.firm_graph.specs.declared.network.Key.TheVariants.{Through, Wide, Stay, Wait as WaitArc, Prefer}
use Rattle.firm_graph.specs.Network.{demand, preferred_at, stay_head, runs, IsNodeOf}
use Rattle.firm_canon.specs.inner.Placed.{wide, near, number, prefer, guests, placed, aside}
use Rattle.firm_graph.specs.View.{View, Shows, IsSameCase, flows, spot_of}
use Rattle.firm_canon.specs.inner.Choosing.{low_of, Keeps, Shut, Barred, best, IsChosen, IsSpent, HasRoom, IsBare}
use Rattle.firm_canon.specs.inner.Choosing.{next_number}
use Rattle.firm_canon.proofs.Parts.{parts}
use Rattle.firm_canon.proofs.Read.{task_sends}
use Rattle.firm_canon.proofs.Totals.{cond_zero, total_zero}
use Rattle.firm_canon.proofs.Choose.{no_guest, ranks_before_on}
use Rattle.firm_canon.proofs.Take.{added, adds_far, adds_near, adds_own, lows_one}
use Rattle.firm_canon.proofs.Nears.{own_wide, own_near, own_stay, other_stay, wait_stay, wide_is, far_near, near_wide}
use Rattle.firm_canon.proofs.Nears.{prefer_le_one}
use Rattle.firm_canon.proofs.First.{low-le}
use Rattle.firm_canon.proofs.AsCheap.{flow_placed}

-- WHERE AN ARC IS SPENT no least placement goes on by it
module _ (v : View) (price : ℕ → ℕ) (p : List Choice) (keeps : Keeps v price p)
    (next : length p < length v.case.tasks) where
  abbrev task : Demand
  task = demand v.case (length p)

  -- what a least placement puts on a spent arc
  held : (key : Key) → IsSpent v.case p (best v p) key → (r : List Choice) → IsLegal v.case (p ++ r)
      → cost v.case (p ++ r) ≤ best v p → placed v.case (p ++ r) key ≤ low_of v.case p key
  held key spent r legal cheap =
      spent (placed v.case (p ++ r)) (flow_placed keeps.laws.sums v.case p r (best v p) keeps.shows.sound legal
      cheap)

  -- a machine is shut where the choice of it adds to a spent arc
  shut_by : (key : Key) (j : ℕ) → added v.case p (On j) key ≡ 1 → IsSpent v.case p (best v p) key → Shut v p j
  shut_by key j adds spent = record {
    barred = λ r legal cheap. omega (
      arith,
      held key spent (On j ∷ r) legal cheap,
      low-le v.case (p ++ On j ∷ []) r key,
      ap (λ (q : List Choice). placed v.case q key) (append_assoc p (On j ∷ []) r),
      lows_one v.case p (On j) key next,
    );
  }

  pub shut_own : IsSpent v.case p (best v p) (Stay (length p)) → (j : ℕ) → runs_at task.home j ≡ true → Shut v p j
  shut_own spent j own = shut_by (Stay (length p)) j (adds_own v.case p j own) spent

  pub shut_near : (j k : ℕ) → runs_at task.home j ≡ false → prefers task j ≡ true → k ≡ next_number v.case p j
      → IsSpent v.case p (best v p) (Prefer (length p) k) → Shut v p j
  shut_near j k other close is spent =
      shut_by (Prefer (length p) k) j
      (subst (λ (z : ℕ). added v.case p (On j) (Prefer (length p) z) ≡ 1) (sym is) (adds_near v.case p j other close))
      spent

  -- by the hub, the hub's arc to the machine or the task's to the hub
  pub shut_far : (j : ℕ) → runs_at task.home j ≡ false → prefers task j ≡ false
      → IsSpent v.case p (best v p) (Through j) ⊎ IsSpent v.case p (best v p) (Wide (length p)) → Shut v p j
  shut_far j other far =
      ⊎_elim (shut_by (Through j) j (adds_far v.case p j other far).1)
      (shut_by (Wide (length p)) j (adds_far v.case p j other far).0)

pub shut_same : (old new : View) (p : List Choice) (j : ℕ) → IsSameCase old new → best new p ≡ best old p → Shut old p j
    → Shut new p j
shut_same old new p j same e shut = record {
  barred = subst (λ (c : Case). Barred c p (best new p) (On j)) (sym same.case)
      (λ r legal cheap. shut.barred r legal (omega (arith, cheap, e)));
}

-- bounds and sums of the next task's arcs
pub sends_one : (v : View) (price : ℕ → ℕ) (p : List Choice) (i : ℕ) → Keeps v price p → i < length v.case.tasks
    → flows v (Wide i) + flows v (Stay i) + flows v (WaitArc i) + aside v.case (flows v) i ≡ 1
sends_one v price p i keeps l = task_sends v.case (low_of v.case p) (flows v) i l keeps.stands.balanced

pub no_stay_home : (v : View) (price : ℕ → ℕ) (p : List Choice) (i : ℕ) → Keeps v price p → i < length v.case.tasks
    → (demand v.case i).home ≡ None → flows v (Stay i) ≡ 0
no_stay_home v price p i keeps l none =
    let bounds = parts (λ (a : Arc Node Key). (a.low ≤ a.flow) × (a.flow ≤ a.cap)) v.case (low_of v.case p) (flows v)
    keeps.stands.within in
    let one : ℕ = 1 in
    omega (arith, (bounds.stays i l).1, ap (λ o. cond (runs o) one 0) none)

pub through_held : (v : View) (price : ℕ → ℕ) (p : List Choice) (j : ℕ) → Keeps v price p → j < length v.case.slots
    → guests v.case p j ≤ flows v (Through j)
through_held v price p j keeps l = ((parts (λ (a : Arc Node Key). (a.low ≤ a.flow) × (a.flow ≤ a.cap)) v.case
    (low_of v.case p) (flows v) keeps.stands.within).through j l).0

pub home_in : (v : View) (i h : ℕ) → Shows v → i < length v.case.tasks → (demand v.case i).home ≡ Some h
    → h < length v.case.slots
home_in v i h shows l home = subst (λ (o : Option ℕ). IsNodeOf v.case (stay_head o)) home (shows.homes i l)

pub home_runs : (home : Option ℕ) (h : ℕ) → home ≡ Some h → runs_at home h ≡ true
home_runs home h e = subst (λ (o : Option ℕ). runs_at o h ≡ true) (sym e) (eq-eqb h h refl)

-- what puts nothing on the arcs of preferences puts nothing on one of them
none_to : (t : Demand) (k : ℕ) (o : Choice) → near t (Some o) ≡ 0 → prefer t k (Some o) ≡ 0
none_to t k o e = cond_zero (eqb (number t (Some o)) k) (near t (Some o)) e

pub chose_own : (v : View) (price : ℕ → ℕ) (p : List Choice) (h : ℕ) → Keeps v price p → length p < length v.case.tasks
    → (demand v.case (length p)).home ≡ Some h → 1 ≤ flows v (Stay (length p)) → IsChosen v p (On h)
chose_own v price p h keeps l home one =
    let n : ℕ = length p in
    let own : runs_at (demand v.case n).home h ≡ true = home_runs (demand v.case n).home h home in
    let t : Demand = demand v.case n in
    let no_wide : wide t (Some (On h)) ≡ 0 = own_wide t h own in
    record {
      place = home_in v n h keeps.shows l home;
      room = record {
        at_wide = omega (arith, no_wide);
        at_stay = omega (arith, one, own_stay t.home h own);
        at_delay = omega arith;
        at_prefer = λ k m. omega (arith, none_to t k (On h) (own_near t h own));
        at_through = λ j k. omega (
          arith,
          through_held v price p j keeps k,
          cond_zero (eqb h j) (wide t (Some (On h))) no_wide,
        );
      };
      first = λ b place less. absurd (omega (
        arith,
        cond-true {A = ℕ} (runs_at (demand v.case n).home h) 0 (suc h) own,
      ));
    }

pub chose_wait : (v : View) (price : ℕ → ℕ) (p : List Choice) → Keeps v price p → length p < length v.case.tasks
    → flows v (Wide (length p)) ≡ 0 → flows v (Stay (length p)) ≡ 0 → aside v.case (flows v) (length p) ≡ 0
    → ((j : ℕ) → j < length v.case.slots → Shut v p j) → IsChosen v p Wait
chose_wait v price p keeps l no_wide no_stay no_near all =
    let n : ℕ = length p in
    let m : ℕ = length v.case.slots in
    let t : Demand = demand v.case n in
    let each : (b : Choice) → IsPlace m b → rank m t.home b < suc m → Barred v.case p (best v p) b =
    λ b. elim b as (λ b. IsPlace m b → rank m t.home b < suc m → Barred v.case p (best v p) b) [
      | On j ↦ λ place less. (all j place).barred
      | Wait ↦ λ place less. absurd (omega (arith, less))
    ] in
    record {
      place = tt;
      room = record {
        at_wide = omega arith;
        at_stay = omega (arith, wait_stay t.home);
        at_delay = omega (arith, sends_one v price p n keeps l, no_wide, no_stay, no_near);
        at_prefer = λ k h. omega (arith, none_to t k Wait refl);
        at_through = λ j k. omega (arith, through_held v price p j keeps k, cond_zero (eqb 0 j) 0 refl);
      };
      first = each;
    }

-- the flow has room for a task that comes by the hub
pub room_far : (v : View) (price : ℕ → ℕ) (p : List Choice) (o : ℕ) → Keeps v price p
    → runs_at (demand v.case (length p)).home o ≡ false → prefers (demand v.case (length p)) o ≡ false
    → flows v (Wide (length p)) ≡ 1 → guests v.case p o < flows v (Through o)
    → HasRoom v.case p (On o) (flows v)
room_far v price p o keeps other far one more =
    let t : Demand = demand v.case (length p) in
    let is_wide : wide t (Some (On o)) ≡ 1 = wide_is t o other far in
    record {
      at_wide = omega (arith, is_wide, one);
      at_stay = omega (arith, other_stay t.home o other);
      at_delay = omega arith;
      at_prefer = λ k h. omega (arith, none_to t k (On o) (far_near t o far));
      at_through = λ j k. ⊎_elim
          (λ (here : eqb o j ≡ true).
          omega (
            arith,
            subst (λ (z : ℕ). guests v.case p z < flows v (Through z)) (eqb-true o j here) more,
            cond-true {A = ℕ} (eqb o j) (wide t (Some (On o))) 0 here,
          ))
          (λ (f : eqb o j ≡ false). omega (
            arith,
            through_held v price p j keeps k,
            cond-false {A = ℕ} (eqb o j) (wide t (Some (On o))) 0 f,
          ))
          (cases_Bool (eqb o j));
    }

-- and for one that comes as it prefers
pub room_near : (v : View) (price : ℕ → ℕ) (p : List Choice) (o : ℕ) → Keeps v price p
    → runs_at (demand v.case (length p)).home o ≡ false → prefers (demand v.case (length p)) o ≡ true
    → 1 ≤ flows v (Prefer (length p) (next_number v.case p o))
    → HasRoom v.case p (On o) (flows v)
room_near v price p o keeps other close one =
    let t : Demand = demand v.case (length p) in
    let e : ℕ = next_number v.case p o in
    let no_wide : wide t (Some (On o)) ≡ 0 = near_wide t o close in
    record {
      at_wide = omega (arith, no_wide);
      at_stay = omega (arith, other_stay t.home o other);
      at_delay = omega arith;
      at_prefer = λ k h. ⊎_elim
          (λ (q : e ≡ k). omega (
            arith,
            subst (λ (z : ℕ). 1 ≤ flows v (Prefer (length p) z)) q one,
            prefer_le_one t k (Some (On o)),
          ))
          (λ (ne : e ≡ k → ⊥). omega (arith, cond-false {A = ℕ} (eqb e k) (near t (Some (On o))) 0 (ne_eqb e k ne)))
          (cases_eq e k);
      at_through = λ j k.
          omega (arith, through_held v price p j keeps k, cond_zero (eqb o j) (wide t (Some (On o))) no_wide);
    }

-- a machine that is not the task's own is chosen where it has room and all before it are shut
pub chosen_on : (v : View) (p : List Choice) (o : ℕ) → o < length v.case.slots
    → runs_at (demand v.case (length p)).home o ≡ false → HasRoom v.case p (On o) (flows v)
    → ((j : ℕ) → runs_at (demand v.case (length p)).home j ≡ true → Shut v p j)
    → ((j : ℕ) → j < o → runs_at (demand v.case (length p)).home j ≡ false → Shut v p j) → IsChosen v p (On o)
chosen_on v p o in_range other room own others =
    let m : ℕ = length v.case.slots in
    let home : Option ℕ = (demand v.case (length p)).home in
    record {
      place = in_range;
      room = room;
      first = λ b place less.
          let r = ranks_before_on m home o b place in_range less in
          subst (Barred v.case p (best v p)) (sym r.1)
          (⊎_elim (λ (t : runs_at home r.0 ≡ true). (own r.0 t).barred)
          (λ (f : (runs_at home r.0 ≡ false) × (r.0 < o)). (others r.0 f.1 f.0).barred) r.2);
    }

-- WHERE EACH MACHINE IS BARE the task's unit is not at the hub
pub none_at_hub : (v : View) (price : ℕ → ℕ) (p : List Choice) → Keeps v price p → length p < length v.case.tasks
    → ((j : ℕ) → j < length v.case.slots → IsBare v p true j) → flows v (Wide (length p)) ≡ 0
none_at_hub v price p keeps next bare =
    no_guest v.case p (flows v) (λ n. price (spot_of v n)) keeps.stands next (λ j l. (bare j l).far refl)

-- nor at a machine that it prefers
pub none_aside : (v : View) (price : ℕ → ℕ) (p : List Choice) → Keeps v price p → length p < length v.case.tasks
    → ((j : ℕ) → j < length v.case.slots → IsBare v p false j) → aside v.case (flows v) (length p) ≡ 0
none_aside v price p keeps next bare =
    total_zero (λ (k : ℕ). flows v (Prefer (length p) k)) (length (demand v.case (length p)).preferred)
    (λ k l. (bare (preferred_at v.case (length p) k) (keeps.shows.preferred (length p) k next l)).near refl k l refl)
