-- Lower bounds after the next task was held to its choice.
use Rattle.std.proofs.Common.{◌≡◌, ◌≢◌, ℕ, ◌+◌, ◌<◌, ◌≤◌, true, false, cond, eqb, List, [], ◌∷◌, ◌++◌, length, Some}
use Rattle.std.proofs.Common.{None, Option, refl, sym, ap, ap₂, subst, ◌∙◌, arith, ⊎_elim}
use Rattle.std.proofs.lemmas.Bool.{cases_eq, cond-false, ne_eqb}
use Rattle.firm_net.specs.Net.{Net, row_at}
use Rattle.firm_net.specs.declared.row.ArcId.{ArcId}
use Rattle.firm_net.specs.Laws.{same_arc_or_not}
use Rattle.firm_rules.specs.declared.rounds.Choice.{Choice}
use Rattle.firm_rules.specs.declared.rounds.Choice.TheVariants.{On, Wait}
use Rattle.firm_rules.specs.Placement.{Demand, runs_at, prefers}
use Rattle.firm_graph.specs.declared.network.Key.{Key}
use Rattle.firm_graph.specs.declared.network.Key.TheVariants.{Through, Slot, Exit, Wide, Stay, Wait as WaitArc, Prefer}
use Rattle.firm_graph.specs.Network.{demand, IsKeyOf}
use Rattle.firm_canon.specs.inner.Placed.{wide, stay, waits, near, number, prefer}
use Rattle.firm_net.specs.Row.{Row}
use Rattle.firm_graph.specs.View.{View, Shows, IsSameCase, CanHold, lows, low_of_row, flow_of_row, flows}
use Rattle.firm_canon.specs.inner.Choosing.{low_of, Keeps, IsChosen}
use Rattle.firm_canon.proofs.First.{pick_past, wide_none}
use Rattle.firm_canon.proofs.Totals.{cond_zero}
use Rattle.firm_canon.proofs.Nears.{wide_is, near_is, own_wide, own_near, near_wide, far_near, other_stay, wait_stay}
use Rattle.firm_canon.proofs.Nears.{number_in, prefer_none, stay_none}
use Rattle.firm_canon.proofs.Take.{added, adds_far, adds_near, adds_own, cond_here}
use Rattle.firm_canon.proofs.Prefixes.{kept_one}

-- an arc may be held to any bound within its flow
pub can_hold : (low : ℕ) (o : Option Row) → 0 < low → low ≤ flow_of_row o → CanHold low o
can_hold low None l h = absurd (omega (arith, l, h))
can_hold low (Some row) l h = h

-- or to the unit that the choice asks of it
pub can_hold_one : (v : View) (key : Key) (id : ArcId) (asked : ℕ) → asked ≡ 1 → asked ≤ flows v key → id ≡ v.arc key
    → CanHold 1 (row_at v.net id)
can_hold_one v key id asked one room is =
    can_hold 1 (row_at v.net id) (omega arith)
    (omega (arith, one, room, ap (λ (i : ArcId). flow_of_row (row_at v.net i)) is))

-- what a hold leaves
pub record IsHold (old new : Net) (id : ArcId) (low : ℕ) : Type 0 where
  pub here : low_of_row (row_at new id) ≡ low
  pub flows : (b : ArcId) → flow_of_row (row_at new b) ≡ flow_of_row (row_at old b)
  pub others : (b : ArcId) → b ≢ id → row_at new b ≡ row_at old b

pub kept_hold : (v new : View) (price : ℕ → ℕ) (p : List Choice) (o : Choice) (key : Key) (id : ArcId) → Keeps v price p
    → length p < length v.case.tasks → IsChosen v p o
    → Shows new → IsSameCase v new → IsKeyOf v.case key → id ≡ v.arc key → IsHold v.net new.net id 1
    → low_of v.case p key ≡ 0 → added v.case p o key ≡ 1 → ((k : Key) → (k ≡ key → ⊥) → added v.case p o k ≡ 0)
    → Keeps new price (p ++ o ∷ [])
kept_hold v new price p o key id keeps l chosen shows same own is held none one rest =
    let id_of : (k : Key) → new.arc k ≡ v.arc k = λ k. ap (λ (f : Key → ArcId). f k) same.arc in
    kept_one v new price p o keeps l chosen shows same
    (λ k own_k. ap (λ (i : ArcId). flow_of_row (row_at new.net i)) (id_of k) ∙ held.flows (v.arc k))
    (λ k own_k.
    ⊎_elim
    (λ (e : v.arc k ≡ id).
    let is_key : k ≡ key = keeps.shows.arcs_apart k key own_k own (e ∙ is) in
    subst (λ (z : Key). lows new z ≡ lows v z + added v.case p o z) (sym is_key)
    (omega (arith, ap (λ (i : ArcId). low_of_row (row_at new.net i)) (id_of key ∙ sym is), keeps.lows key own)))
    (λ (ne : v.arc k ≡ id → ⊥).
    omega (
      arith,
      ap (λ (i : ArcId). low_of_row (row_at new.net i)) (id_of k),
      ap low_of_row (held.others (v.arc k) ne),
      rest k (λ e. ne (ap v.arc e ∙ sym is)),
    ))
    (same_arc_or_not (v.arc k) id))

pub kept_holds : (v mid new : View) (price : ℕ → ℕ) (p : List Choice) (o : Choice) (one two : Key)
    (id_one id_two : ArcId) (low : ℕ) → Keeps v price p → length p < length v.case.tasks → IsChosen v p o
    → Shows new → IsSameCase v new → IsKeyOf v.case one → IsKeyOf v.case two → id_one ≡ v.arc one → id_two ≡ v.arc two
    → (one ≡ two → ⊥)
    → IsHold v.net mid.net id_one 1 → IsHold mid.net new.net id_two (low + 1) → low ≡ lows v two
    → low_of v.case p one ≡ 0 → added v.case p o one ≡ 1 → added v.case p o two ≡ 1
    → ((k : Key) → (k ≡ one → ⊥) → (k ≡ two → ⊥) → added v.case p o k ≡ 0)
    → Keeps new price (p ++ o ∷ [])
kept_holds v mid new price p o one two id_one id_two low keeps l chosen shows same own_one own_two is_one is_two apart
    first second low_is none adds_one adds_two rest =
    let id_of : (k : Key) → new.arc k ≡ v.arc k = λ k. ap (λ (f : Key → ArcId). f k) same.arc in
    kept_one v new price p o keeps l chosen shows same
    (λ k own_k. ap (λ (i : ArcId). flow_of_row (row_at new.net i)) (id_of k)
    ∙ (second.flows (v.arc k) ∙ first.flows (v.arc k)))
    (λ k own_k.
    ⊎_elim
    (λ (e : v.arc k ≡ id_two).
    let is_key : k ≡ two = keeps.shows.arcs_apart k two own_k own_two (e ∙ is_two) in
    subst (λ (z : Key). lows new z ≡ lows v z + added v.case p o z) (sym is_key)
    (omega (arith, ap (λ (i : ArcId). low_of_row (row_at new.net i)) (id_of two ∙ sym is_two))))
    (λ (ne : v.arc k ≡ id_two → ⊥).
    let past : row_at new.net (v.arc k) ≡ row_at mid.net (v.arc k) = second.others (v.arc k) ne in
    ⊎_elim
    (λ (e : v.arc k ≡ id_one).
    let is_key : k ≡ one = keeps.shows.arcs_apart k one own_k own_one (e ∙ is_one) in
    omega (
      arith,
      ap (λ (i : ArcId). low_of_row (row_at new.net i)) (id_of k),
      ap low_of_row past,
      ap (λ (i : ArcId). low_of_row (row_at mid.net i)) e,
      ap (lows v) is_key,
      ap (added v.case p o) is_key,
      keeps.lows one own_one,
    ))
    (λ (other : v.arc k ≡ id_one → ⊥).
    omega (
      arith,
      ap (λ (i : ArcId). low_of_row (row_at new.net i)) (id_of k),
      ap low_of_row past,
      ap low_of_row (first.others (v.arc k) other),
      rest k (λ q. other (ap v.arc q ∙ sym is_one)) (λ q. ne (ap v.arc q ∙ sym is_two)),
    ))
    (same_arc_or_not (v.arc k) id_one))
    (same_arc_or_not (v.arc k) id_two))

cond_other : (n i x : ℕ) → (n ≡ i → ⊥) → cond (eqb n i) x 0 ≡ 0
cond_other n i x ne = cond-false {A = ℕ} (eqb n i) x 0 (ne_eqb n i ne)

-- a choice that puts nothing on the arcs of preferences
none_near : (t : Demand) (n i k : ℕ) (o : Choice) → near t (Some o) ≡ 0 → cond (eqb n i) (prefer t k (Some o)) 0 ≡ 0
none_near t n i k o e =
    cond_zero (eqb n i) (prefer t k (Some o)) (cond_zero (eqb (number t (Some o)) k) (near t (Some o)) e)

-- the four kinds of choice
pub held_wait : (v new : View) (price : ℕ → ℕ) (p : List Choice) (id : ArcId) → Keeps v price p
    → length p < length v.case.tasks → IsChosen v p Wait
    → Shows new → IsSameCase v new → id ≡ v.arc (WaitArc (length p)) → IsHold v.net new.net id 1
    → Keeps new price (p ++ Wait ∷ [])
held_wait v new price p id keeps l chosen shows same is held =
    let n : ℕ = length p in
    let t : Demand = demand v.case n in
    kept_hold v new price p Wait (WaitArc n) id keeps l chosen shows same l is held (ap waits (pick_past p))
    (cond_here n 1)
    (λ k. elim k as (λ k. (k ≡ WaitArc n → ⊥) → added v.case p Wait k ≡ 0) [
      | Through j ↦ λ ne. cond_zero (eqb 0 j) (wide t (Some Wait)) refl
      | Slot j i ↦ λ ne. refl
      | Exit i ↦ λ ne. refl
      | Wide i ↦ λ ne. cond_zero (eqb n i) (wide t (Some Wait)) refl
      | Stay i ↦ λ ne. cond_zero (eqb n i) (stay t.home (Some Wait)) (wait_stay t.home)
      | WaitArc i ↦ λ ne. cond_other n i 1 (λ e. ne (ap WaitArc (sym e)))
      | Prefer i k ↦ λ ne. none_near t n i k Wait refl
    ])

pub held_own : (v new : View) (price : ℕ → ℕ) (p : List Choice) (o : ℕ) (id : ArcId) → Keeps v price p
    → length p < length v.case.tasks → IsChosen v p (On o)
    → runs_at (demand v.case (length p)).home o ≡ true
    → Shows new → IsSameCase v new → id ≡ v.arc (Stay (length p)) → IsHold v.net new.net id 1
    → Keeps new price (p ++ On o ∷ [])
held_own v new price p o id keeps l chosen own shows same is held =
    let n : ℕ = length p in
    let t : Demand = demand v.case n in
    kept_hold v new price p (On o) (Stay n) id keeps l chosen shows same l is held
    (ap (stay t.home) (pick_past p) ∙ stay_none t.home)
    (adds_own v.case p o own)
    (λ k. elim k as (λ k. (k ≡ Stay n → ⊥) → added v.case p (On o) k ≡ 0) [
      | Through j ↦ λ ne. cond_zero (eqb o j) (wide t (Some (On o))) (own_wide t o own)
      | Slot j i ↦ λ ne. refl
      | Exit i ↦ λ ne. refl
      | Wide i ↦ λ ne. cond_zero (eqb n i) (wide t (Some (On o))) (own_wide t o own)
      | Stay i ↦ λ ne. cond_other n i (stay t.home (Some (On o))) (λ e. ne (ap Stay (sym e)))
      | WaitArc i ↦ λ ne. cond_zero (eqb n i) 0 refl
      | Prefer i k ↦ λ ne. none_near t n i k (On o) (own_near t o own)
    ])

pub held_near : (v new : View) (price : ℕ → ℕ) (p : List Choice) (o : ℕ) (id : ArcId) → Keeps v price p
    → length p < length v.case.tasks → IsChosen v p (On o)
    → runs_at (demand v.case (length p)).home o ≡ false → prefers (demand v.case (length p)) o ≡ true
    → Shows new → IsSameCase v new → id ≡ v.arc (Prefer (length p) (number (demand v.case (length p)) (Some (On o))))
    → IsHold v.net new.net id 1
    → Keeps new price (p ++ On o ∷ [])
held_near v new price p o id keeps l chosen other close shows same is held =
    let n : ℕ = length p in
    let t : Demand = demand v.case n in
    let e : ℕ = number t (Some (On o)) in
    kept_hold v new price p (On o) (Prefer n e) id keeps l chosen shows same
    (l, (number_in t.preferred o close).0) is held
    (ap (prefer t e) (pick_past p) ∙ prefer_none t e)
    (adds_near v.case p o other close)
    (λ k. elim k as (λ k. (k ≡ Prefer n e → ⊥) → added v.case p (On o) k ≡ 0) [
      | Through j ↦ λ ne. cond_zero (eqb o j) (wide t (Some (On o))) (near_wide t o close)
      | Slot j i ↦ λ ne. refl
      | Exit i ↦ λ ne. refl
      | Wide i ↦ λ ne. cond_zero (eqb n i) (wide t (Some (On o))) (near_wide t o close)
      | Stay i ↦ λ ne. cond_zero (eqb n i) (stay t.home (Some (On o))) (other_stay t.home o other)
      | WaitArc i ↦ λ ne. cond_zero (eqb n i) 0 refl
      | Prefer i k ↦ λ ne. ⊎_elim
          (λ (q : n ≡ i). cond_zero (eqb n i) (prefer t k (Some (On o)))
          (cond_other e k (near t (Some (On o))) (λ r. ne (ap₂ Prefer (sym q) (sym r)))))
          (λ (q : n ≡ i → ⊥). cond_other n i (prefer t k (Some (On o))) q) (cases_eq n i)
    ])

pub held_other : (v mid new : View) (price : ℕ → ℕ) (p : List Choice) (o : ℕ) (id_one id_two : ArcId) (low : ℕ)
    → Keeps v price p → length p < length v.case.tasks → IsChosen v p (On o)
    → runs_at (demand v.case (length p)).home o ≡ false → prefers (demand v.case (length p)) o ≡ false
    → Shows new → IsSameCase v new → id_one ≡ v.arc (Wide (length p)) → id_two ≡ v.arc (Through o)
    → IsHold v.net mid.net id_one 1 → IsHold mid.net new.net id_two (low + 1) → low ≡ lows v (Through o)
    → Keeps new price (p ++ On o ∷ [])
held_other v mid new price p o id_one id_two low keeps l chosen other far shows same is_one is_two first second low_is =
    let n : ℕ = length p in
    let t : Demand = demand v.case n in
    kept_holds v mid new price p (On o) (Wide n) (Through o)
    id_one id_two low keeps l chosen shows same l chosen.place is_one is_two (λ e. absurd cc) first second low_is
    (ap (wide t) (pick_past p) ∙ wide_none t) (adds_far v.case p o other far).0 (adds_far v.case p o other far).1
    (λ k. elim k as (λ k. (k ≡ Wide n → ⊥) → (k ≡ Through o → ⊥) → added v.case p (On o) k ≡ 0) [
      | Through j ↦ λ a b. cond_other o j (wide t (Some (On o))) (λ e. b (ap Through (sym e)))
      | Slot j i ↦ λ a b. refl
      | Exit i ↦ λ a b. refl
      | Wide i ↦ λ a b. cond_other n i (wide t (Some (On o))) (λ e. a (ap Wide (sym e)))
      | Stay i ↦ λ a b. cond_zero (eqb n i) (stay t.home (Some (On o))) (other_stay t.home o other)
      | WaitArc i ↦ λ a b. cond_zero (eqb n i) 0 refl
      | Prefer i k ↦ λ a b. none_near t n i k (On o) (far_near t o far)
    ])

-- one task more may be held to come to the machine of the choice
pub can_come : (v mid : View) (price : ℕ → ℕ) (p : List Choice) (o low : ℕ) (id : ArcId) → Keeps v price p
    → IsChosen v p (On o) → runs_at (demand v.case (length p)).home o ≡ false
    → prefers (demand v.case (length p)) o ≡ false → id ≡ v.arc (Through o) → low ≡ lows v (Through o)
    → ((b : ArcId) → flow_of_row (row_at mid.net b) ≡ flow_of_row (row_at v.net b))
    → CanHold (low + 1) (row_at mid.net id)
can_come v mid price p o low id keeps chosen other far is low_is flows_are =
    let t : Demand = demand v.case (length p) in
    can_hold (low + 1) (row_at mid.net id) (omega arith)
    (omega (
      arith,
      chosen.room.at_through o chosen.place,
      cond_here o (wide t (Some (On o))),
      wide_is t o other far,
      keeps.lows (Through o) chosen.place,
      flows_are id,
      ap (λ (i : ArcId). flow_of_row (row_at v.net i)) is,
    ))

-- a task may be held to come to the machine of the choice as it prefers it
pub can_go : (v : View) (price : ℕ → ℕ) (p : List Choice) (o k : ℕ) (id : ArcId) → Keeps v price p
    → IsChosen v p (On o) → runs_at (demand v.case (length p)).home o ≡ false
    → prefers (demand v.case (length p)) o ≡ true → k ≡ number (demand v.case (length p)) (Some (On o))
    → id ≡ v.arc (Prefer (length p) k) → CanHold 1 (row_at v.net id)
can_go v price p o k id keeps chosen other close is id_is =
    let t : Demand = demand v.case (length p) in
    let e : ℕ = number t (Some (On o)) in
    can_hold 1 (row_at v.net id) (omega arith)
    (omega (
      arith,
      chosen.room.at_prefer e (number_in t.preferred o close).0,
      cond_here e (near t (Some (On o))),
      near_is t o other close,
      ap (λ (i : ArcId). flow_of_row (row_at v.net i)) (id_is ∙ ap (λ (z : ℕ). v.arc (Prefer (length p) z)) is),
    ))
