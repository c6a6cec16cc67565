-- The effect of one more choice on the lower bounds, and the loop's step.
use Rattle.std.proofs.Common.{◌≡◌, ℕ, zero, suc, ◌+◌, ◌<◌, ◌≤◌, Bool, true, false, cond, eqb, List, [], ◌∷◌, ◌++◌}
use Rattle.std.proofs.Common.{length, arith, refl, sym, ap, subst, ◌∙◌, ⊎_elim, Option, Some, None}
use Rattle.std.proofs.lemmas.Bool.{cases_eq, cond-true, cond-false, eq-eqb, ne_eqb}
use Rattle.firm_rules.specs.declared.rounds.Choice.{Choice}
use Rattle.firm_paths.specs.Network.{Arc}
use Rattle.firm_flow.specs.Flow.{cost_of, carried}
use Rattle.firm_rules.specs.declared.rounds.Choice.TheVariants.{On}
use Rattle.firm_rules.specs.Placement.{Case, Demand, prefers, rank, runs_at, IsPlace}
use Rattle.firm_graph.specs.declared.network.Node.{Node}
use Rattle.firm_graph.specs.declared.network.Key.{Key}
use Rattle.firm_graph.specs.declared.network.Key.TheVariants.{Through, Slot, Exit, Wide, Stay, Wait, Prefer}
use Rattle.firm_graph.specs.Network.{demand, network}
use Rattle.firm_canon.proofs.Totals.{total_same, total-add, total_at}
use Rattle.firm_canon.specs.inner.Placed.{pick, wide, stay, waits, near, number, prefer, prefer_at, spot, guests}
use Rattle.firm_canon.proofs.Nears.{near_is, own_stay, prefer_none, stay_none, wide_is}
use Rattle.firm_canon.proofs.Parts.{parts, whole}
use Rattle.firm_canon.specs.inner.Choosing.{low_of, Stands, Barred, HasRoom}
use Rattle.firm_canon.proofs.First.{extend, pick_past, guest_term, guest_none, wide_none}

-- what the choice adds to the lower bound of a key
abbrev pub added : Case → List Choice → Choice → Key → ℕ
added c p o (Through j) = cond (eqb (spot (Some o)) j) (wide (demand c (length p)) (Some o)) 0
added c p o (Slot j k) = 0
added c p o (Exit k) = 0
added c p o (Wide i) = cond (eqb (length p) i) (wide (demand c (length p)) (Some o)) 0
added c p o (Stay i) = cond (eqb (length p) i) (stay (demand c (length p)).home (Some o)) 0
added c p o (Wait i) = cond (eqb (length p) i) (waits (Some o)) 0
added c p o (Prefer i k) = cond (eqb (length p) i) (prefer (demand c (length p)) k (Some o)) 0

same_next : (n i : ℕ) → eqb n i ≡ eqb (suc n) (suc i)
same_next n i = grind arith

-- a number that is 0 at no choice, after one more choice
at_one : (F : ℕ → Option Choice → ℕ) (p : List Choice) (o : Choice) (i : ℕ) → F i None ≡ 0
    → F i (pick (p ++ o ∷ []) i) ≡ F i (pick p i) + cond (eqb (length p) i) (F (length p) (Some o)) 0
at_one F [] o zero none = omega (arith, none)
at_one F [] o (suc i) none =
    omega (arith, cond-false {A = ℕ} (eqb 0 (suc i)) (F 0 (Some o)) 0 (ne_eqb 0 (suc i) (λ e. omega (arith, e))))
at_one F (a ∷ p) o zero none =
    let n : ℕ = suc (length p) in
    omega (arith, cond-false {A = ℕ} (eqb n 0) (F n (Some o)) 0 (ne_eqb n 0 (λ e. omega (arith, e))))
at_one F (a ∷ p) o (suc i) none =
    at_one (λ j x. F (suc j) x) p o i none
    ∙ ap (λ (b : Bool). F (suc i) (pick p i) + cond b (F (suc (length p)) (Some o)) 0) (same_next (length p) i)

guests_one : (c : Case) (p : List Choice) (o : Choice) (j : ℕ) → length p < length c.tasks
    → guests c (p ++ o ∷ []) j ≡ guests c p j + guest_term c j (length p) (Some o)
guests_one c p o j l =
    let t : ℕ = length c.tasks in
    let more : ℕ = guest_term c j (length p) (Some o) in
    omega (
      arith,
      total_same (λ (i : ℕ). guest_term c j i (pick (p ++ o ∷ []) i))
          (λ (i : ℕ). guest_term c j i (pick p i) + cond (eqb (length p) i) more 0) t
          (λ i h. at_one (guest_term c j) p o i (guest_none c j i)),
      total-add (λ (i : ℕ). guest_term c j i (pick p i)) (λ (i : ℕ). cond (eqb (length p) i) more 0) t,
      total_at (λ (i : ℕ). more) t (length p) l,
    )

pub lows_one : (c : Case) (p : List Choice) (o : Choice) (k : Key) → length p < length c.tasks
    → low_of c (p ++ o ∷ []) k ≡ low_of c p k + added c p o k
lows_one c p o (Through j) l = guests_one c p o j l
lows_one c p o (Slot j k) l = refl
lows_one c p o (Exit k) l = refl
lows_one c p o (Wide i) l = at_one (λ (i : ℕ) (x : Option Choice). wide (demand c i) x) p o i (wide_none (demand c i))
lows_one c p o (Stay i) l = at_one (λ (i : ℕ) (x : Option Choice). stay (demand c i).home x) p o i
    (stay_none (demand c i).home)
lows_one c p o (Wait i) l = at_one (λ (i : ℕ) (x : Option Choice). waits x) p o i refl
lows_one c p o (Prefer i k) l = at_one (λ (i : ℕ) (x : Option Choice). prefer (demand c i) k x) p o i
    (prefer_none (demand c i) k)

-- what a choice adds where it goes
pub cond_here : (n x : ℕ) → cond (eqb n n) x 0 ≡ x
cond_here n x = cond-true {A = ℕ} (eqb n n) x 0 (eq-eqb n n refl)

pub adds_own : (c : Case) (p : List Choice) (j : ℕ) → runs_at (demand c (length p)).home j ≡ true
    → added c p (On j) (Stay (length p)) ≡ 1
adds_own c p j own =
    let home : Option ℕ = (demand c (length p)).home in
    cond_here (length p) (stay home (Some (On j))) ∙ own_stay home j own

pub adds_near : (c : Case) (p : List Choice) (j : ℕ) → runs_at (demand c (length p)).home j ≡ false
    → prefers (demand c (length p)) j ≡ true
    → added c p (On j) (Prefer (length p) (number (demand c (length p)) (Some (On j)))) ≡ 1
adds_near c p j other close =
    let t : Demand = demand c (length p) in
    let e : ℕ = number t (Some (On j)) in
    cond_here (length p) (prefer t e (Some (On j))) ∙ (cond_here e (near t (Some (On j))) ∙ near_is t j other close)

pub adds_far : (c : Case) (p : List Choice) (j : ℕ) → runs_at (demand c (length p)).home j ≡ false
    → prefers (demand c (length p)) j ≡ false
    → (added c p (On j) (Wide (length p)) ≡ 1) × (added c p (On j) (Through j) ≡ 1)
adds_far c p j other far =
    let t : Demand = demand c (length p) in (
      cond_here (length p) (wide t (Some (On j))) ∙ wide_is t j other far,
      cond_here j (wide t (Some (On j))) ∙ wide_is t j other far,
    )

-- a task carries no less than its own choice adds
carries_one : (F : ℕ → Option Choice → ℕ) (x : ℕ → ℕ) (p : List Choice) (o : Choice) (i : ℕ) → F i None ≡ 0
    → F i (pick p i) ≤ x i → F (length p) (Some o) ≤ x (length p)
    → F i (pick p i) + cond (eqb (length p) i) (F (length p) (Some o)) 0 ≤ x i
carries_one F x p o i none old new =
    let n : ℕ = length p in
    let more : ℕ = F n (Some o) in
    ⊎_elim
    (λ (e : n ≡ i). omega (
      arith,
      subst (λ (k : ℕ). F k (pick p k) ≡ F k None) e (ap (F n) (pick_past p)),
      subst (λ (k : ℕ). more ≤ x k) e new,
      cond-true {A = ℕ} (eqb n i) more 0 (eq-eqb n i e),
    ))
    (λ (ne : n ≡ i → ⊥). omega (arith, old, cond-false {A = ℕ} (eqb n i) more 0 (ne_eqb n i ne)))
    (cases_eq n i)

-- TAKING A CHOICE that the flow has room for and before which none is left
pub take_choice : (c : Case) (p : List Choice) (o : Choice) (x : Key → ℕ) (price : Node → ℕ)
    → Stands c p x price → length p < length c.tasks → IsPlace (length c.slots) o → HasRoom c p o x
    → ((b : Choice) → IsPlace (length c.slots) b
    → rank (length c.slots) (demand c (length p)).home b < rank (length c.slots) (demand c (length p)).home o
    → Barred c p (cost_of (network c (low_of c p) x) carried) b)
    → Stands c (p ++ o ∷ []) x price
take_choice c p o x price stands l place room none =
    let bounds = parts (λ (a : Arc Node Key). (a.low ≤ a.flow) × (a.flow ≤ a.cap)) c (low_of c p) x stands.within in
    extend c p o x price stands place
    (whole (λ (a : Arc Node Key). (a.low ≤ a.flow) × (a.flow ≤ a.cap)) c (low_of c (p ++ o ∷ [])) x (record {
      through = λ j h. (omega (arith, lows_one c p o (Through j) l, room.at_through j h), (bounds.through j h).1);
      slot = λ j k h r. bounds.slot j k h r;
      exit = λ k h. bounds.exit k h;
      wides = λ i h. (
        omega (
          arith,
          lows_one c p o (Wide i) l,
          carries_one (λ (i : ℕ) (x : Option Choice). wide (demand c i) x) (λ (i : ℕ). x (Wide i)) p o i
              (wide_none (demand c i)) (bounds.wides i h).0 room.at_wide,
        ),
        (bounds.wides i h).1,
      );
      stays = λ i h. (
        omega (
          arith,
          lows_one c p o (Stay i) l,
          carries_one (λ (i : ℕ) (x : Option Choice). stay (demand c i).home x) (λ (i : ℕ). x (Stay i)) p o i
              (stay_none (demand c i).home) (bounds.stays i h).0 room.at_stay,
        ),
        (bounds.stays i h).1,
      );
      delays = λ i h. (
        omega (
          arith,
          lows_one c p o (Wait i) l,
          carries_one (λ (i : ℕ) (x : Option Choice). waits x) (λ (i : ℕ). x (Wait i)) p o i refl (bounds.delays i h).0
              room.at_delay,
        ),
        (bounds.delays i h).1,
      );
      prefers = λ i k h m. (
        omega (arith, lows_one c p o (Prefer i k) l, carries_near i k (bounds.prefers i k h m).0 m),
        (bounds.prefers i k h m).1,
      );
    }))
    (λ b r legal cheap place_b less. none b place_b less r legal cheap)
    (λ k. omega (arith, lows_one c p o k l))
  where
    carries_near : (i k : ℕ) → prefer_at c p i k ≤ x (Prefer i k) → k < length (demand c i).preferred
        → prefer_at c p i k + added c p o (Prefer i k) ≤ x (Prefer i k)
    carries_near i k old m =
        ⊎_elim
        (λ (e : length p ≡ i). carries_one (λ (i : ℕ) (x : Option Choice). prefer (demand c i) k x)
        (λ (i : ℕ). x (Prefer i k)) p o i (prefer_none (demand c i) k) old
        (room.at_prefer k (subst (λ (z : ℕ). k < length (demand c z).preferred) (sym e) m)))
        (λ (ne : length p ≡ i → ⊥). omega (
          arith,
          cond-false {A = ℕ} (eqb (length p) i) (prefer (demand c (length p)) k (Some o)) 0 (ne_eqb (length p) i ne),
        ))
        (cases_eq (length p) i)
