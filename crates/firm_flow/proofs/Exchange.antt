-- If no residual arc of reduced cost 0 leaves a set, no flow as cheap carries more on an arc that enters it.
use Rattle.std.proofs.Common.{◌≡◌, ℕ, ◌+◌, ◌*◌, ◌<◌, ◌≤◌, Bool, true, false, cond, List, get_or, arith, refl, sym, ap}
use Rattle.std.proofs.Common.{subst, inl, inr, ◌⊎◌, ⊎_elim}
use Rattle.std.specs.List.{All, sum_by, Contains}
use Rattle.std.proofs.lemmas.List.Elements.{All-contains}
use Rattle.std.proofs.lemmas.Bool.{cases_lt, cases_eq, both_ways, cond-true, cond-false}
use Rattle.firm_paths.specs.Network.{Arc, AreValid, Tight, StaysInside, IsClosedBut}
use Rattle.firm_flow.specs.Flow.{IsWithinBounds, cost_of, carried}
use Rattle.firm_flow.specs.Balance.{Balanced}
use Rattle.firm_flow.proofs.Weights.{swap, terms_equal, sums-add}
use Rattle.firm_flow.proofs.Duality.{tight_where_different}

-- membership as a weight
abbrev weight : {N : Type 0} → (N → Bool) → N → ℕ
weight inside v = cond (inside v) 1 0

-- the other flow carries as much on the arc, or the arc does not leave the set and it carries no less
abbrev IsHeld : {N K : Type 0} → (N → Bool) → Arc N K → ℕ → Type 0
IsHeld inside a x = (x ≡ a.flow) ⊎ ((inside a.tail ≡ false) × (a.flow ≤ x))

-- one arc's part in the flow across the set
crosses : {N K : Type 0} (price : N → ℕ) (inside : N → Bool) (a : Arc N K) (x : ℕ)
    → a.low ≤ x → x ≤ a.cap → ((x ≡ a.flow → ⊥) → Tight price a)
    → IsHeld inside a x ⊎ (Tight price a → StaysInside inside a)
    → weight inside a.tail * x + weight inside a.head * a.flow ≤ weight inside a.tail * a.flow
    + weight inside a.head * x
crosses {N} {K} price inside a x low cap tight why =
    ⊎_elim (λ (e : x ≡ a.flow). omega (
      arith,
      ap (λ z. weight inside a.tail * z) e,
      ap (λ z. weight inside a.head * z) e,
    ))
    (λ (ne : x ≡ a.flow → ⊥).
    let sides : (b c : Bool) → inside a.tail ≡ b → inside a.head ≡ c
    → cond b 1 0 * x + cond c 1 0 * a.flow ≤ cond b 1 0 * a.flow + cond c 1 0 * x =
    λ b c. elim b as (λ b. inside a.tail ≡ b → inside a.head ≡ c
    → cond b 1 0 * x + cond c 1 0 * a.flow ≤ cond b 1 0 * a.flow + cond c 1 0 * x) [
      | true ↦ elim c as (λ c. inside a.tail ≡ true → inside a.head ≡ c
          → cond true 1 0 * x + cond c 1 0 * a.flow ≤ cond true 1 0 * a.flow + cond c 1 0 * x) [
            | true ↦ λ p q. omega arith
            | false ↦ λ p q. ⊎_elim
                (λ (h : IsHeld inside a x). ⊎_elim (λ (e : x ≡ a.flow). absurd (ne e))
                (λ (f : (inside a.tail ≡ false) × (a.flow ≤ x)). absurd (both_ways (inside a.tail) f.0 p)) h)
                (λ (closed : Tight price a → StaysInside inside a). omega (arith, (closed (tight ne)).0 p q)) why
          ]
      | false ↦ elim c as (λ c. inside a.tail ≡ false → inside a.head ≡ c
          → cond false 1 0 * x + cond c 1 0 * a.flow ≤ cond false 1 0 * a.flow + cond c 1 0 * x) [
            | true ↦ λ p q. ⊎_elim
                (λ (h : IsHeld inside a x). ⊎_elim (λ (e : x ≡ a.flow). absurd (ne e))
                (λ (f : (inside a.tail ≡ false) × (a.flow ≤ x)). omega (arith, f.1)) h)
                (λ (closed : Tight price a → StaysInside inside a). omega (arith, (closed (tight ne)).1 q p)) why
            | false ↦ λ p q. omega arith
          ]
    ] in
    sides (inside a.tail) (inside a.head) refl refl)
    (cases_eq x a.flow)

-- a set that no residual arc of reduced cost 0 leaves is entered by every flow as cheap just as by this one
cut : {N K : Type 0} (price : N → ℕ) (arcs : List (Arc N K)) (sources : List N) (sink : N) (g : Arc N K → ℕ)
    (inside : N → Bool)
    → AreValid arcs price → Balanced arcs sources sink carried → IsWithinBounds arcs g → Balanced arcs sources sink g
    → cost_of arcs g ≤ cost_of arcs carried
    → All (λ a. IsHeld inside a (g a) ⊎ (Tight price a → StaysInside inside a)) arcs
    → All (λ a. inside a.tail ≡ false → inside a.head ≡ true → g a ≡ a.flow) arcs
cut {N} {K} price arcs sources sink g inside valid mine_is within other_is cheap why =
    let tight : All (λ (a : Arc N K). (g a ≡ a.flow → ⊥) → Tight price a) arcs =
    tight_where_different price arcs sources sink g valid mine_is within other_is cheap in
    let small : Arc N K → ℕ = λ (a : Arc N K). weight inside a.tail * g a + weight inside a.head * a.flow in
    let large : Arc N K → ℕ = λ (a : Arc N K). weight inside a.tail * a.flow + weight inside a.head * g a in
    let le : All (λ (a : Arc N K). small a ≤ large a) arcs =
    λ k d h. crosses price inside (get_or arcs k d) (g (get_or arcs k d)) ((within k d h).0) ((within k d h).1)
    (tight k d h) (why k d h) in
    let sums : sum_by large arcs ≤ sum_by small arcs =
    omega (
      arith,
      sums-add (λ (a : Arc N K). weight inside a.tail * g a) (λ (a : Arc N K). weight inside a.head * a.flow) arcs,
      sums-add (λ (a : Arc N K). weight inside a.tail * a.flow) (λ (a : Arc N K). weight inside a.head * g a) arcs,
      swap (weight inside) arcs sources sink carried g mine_is other_is,
    ) in
    λ k d h p q.
    let e : small (get_or arcs k d) ≡ large (get_or arcs k d) = terms_equal small large arcs le sums k d h in
    let wt : weight inside (get_or arcs k d).tail ≡ 0 = cond-false (inside (get_or arcs k d).tail) 1 0 p in
    let wh : weight inside (get_or arcs k d).head ≡ 1 = cond-true (inside (get_or arcs k d).head) 1 0 q in
    let x : ℕ = g (get_or arcs k d) in
    let y : ℕ = (get_or arcs k d).flow in
    omega (arith, e, ap (λ z. z * x) wt, ap (λ z. z * y) wt, ap (λ z. z * x) wh, ap (λ z. z * y) wh)

pub exchange : {N K : Type 0} (price : N → ℕ) (arcs : List (Arc N K)) (sources : List N) (sink : N) (g : Arc N K → ℕ)
    (barred : List K) (inside : N → Bool) (e : Arc N K)
    → AreValid arcs price → Balanced arcs sources sink carried → IsWithinBounds arcs g → Balanced arcs sources sink g
    → cost_of arcs g ≤ cost_of arcs carried
    → Contains arcs e → All (λ a. Contains barred a.key → (g a ≡ a.flow) ⊎ (a ≡ e)) arcs
    → IsClosedBut arcs price (Contains barred) inside → inside e.head ≡ true → inside e.tail ≡ false
    → g e ≤ e.flow
exchange {N} {K} price arcs sources sink g barred inside e valid mine_is within other_is cheap there only closed at_head
    at_tail =
    ⊎_elim (λ (more : e.flow < g e).
    let why : All (λ a. IsHeld inside a (g a) ⊎ (Tight price a → StaysInside inside a)) arcs =
    λ k d h. ⊎_elim
    (λ (b : Contains barred (get_or arcs k d).key). ⊎_elim
    (λ (q : g (get_or arcs k d) ≡ (get_or arcs k d).flow). inl (inl q))
    (λ (q : get_or arcs k d ≡ e).
    inl (inr (subst (λ (x : Arc N K). (inside x.tail ≡ false) × (x.flow ≤ g x)) (sym q) (at_tail, omega arith))))
    (only k d h b))
    (λ (c : Tight price (get_or arcs k d) → StaysInside inside (get_or arcs k d)). inr c)
    (closed k d h) in
    let same : g e ≡ e.flow = All-contains (λ (a : Arc N K). inside a.tail ≡ false → inside a.head ≡ true → g a
    ≡ a.flow) arcs e
    (cut price arcs sources sink g inside valid mine_is within other_is cheap why) there at_tail at_head in
    omega (arith, same, more))
    (λ (no : g e ≤ e.flow). no)
    (cases_lt e.flow (g e))

-- an arc whose reduced cost is not 0 carries as much in every flow as cheap
pub same_where_loose : {N K : Type 0} (price : N → ℕ) (arcs : List (Arc N K)) (sources : List N) (sink : N)
    (g : Arc N K → ℕ)
    → AreValid arcs price → Balanced arcs sources sink carried → IsWithinBounds arcs g → Balanced arcs sources sink g
    → cost_of arcs g ≤ cost_of arcs carried
    → All (λ a. (Tight price a → ⊥) → g a ≡ a.flow) arcs
same_where_loose {N} {K} price arcs sources sink g valid mine_is within other_is cheap k d h loose =
    ⊎_elim (λ (e : g (get_or arcs k d) ≡ (get_or arcs k d).flow). e)
    (λ (ne : g (get_or arcs k d) ≡ (get_or arcs k d).flow → ⊥).
    absurd (loose (tight_where_different price arcs sources sink g valid mine_is within other_is cheap k d h ne)))
    (cases_eq (g (get_or arcs k d)) (get_or arcs k d).flow)
