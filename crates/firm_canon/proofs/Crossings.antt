-- Sets that no residual arc of reduced cost 0 leaves: what crosses them is the same in all flows as cheap.
use Rattle.std.proofs.Common.{◌≡◌, ℕ, ◌+◌, ◌*◌, ◌≤◌, Bool, true, false, cond, List, [], ◌∷◌}
use Rattle.std.proofs.Common.{get_or, arith, refl, ⊎_elim}
use Rattle.std.specs.List.{All, sum_by}
use Rattle.std.proofs.lemmas.Bool.{cases_eq}
use Rattle.std.proofs.lemmas.List.Sums.{sum_by-cons}
use Rattle.std.proofs.lemmas.List.Elements.{All-head, All-tail, All-nil, All-cons}
use Rattle.firm_rules.specs.declared.rounds.Choice.{Choice}
use Rattle.firm_paths.specs.Network.{Arc, Tight}
use Rattle.firm_rules.specs.Placement.{Case}
use Rattle.firm_graph.specs.declared.network.Node.{Node}
use Rattle.firm_graph.specs.declared.network.Node.TheVariants.{Sink}
use Rattle.firm_graph.specs.declared.network.Key.{Key}
use Rattle.firm_graph.specs.Network.{network, task_nodes}
use Rattle.firm_graph.specs.View.{View, flows, spot_of}
use Rattle.firm_canon.specs.inner.Choosing.{low_of, Keeps, best, IsAsCheap, StaysAtNoCost}
use Rattle.firm_canon.proofs.AsCheap.{IsOther, as_other}

-- equal sums of terms that are no larger have equal terms
terms_tight : {A : Type 0} (f g : A → ℕ) (xs : List A) → All (λ a. f a ≤ g a) xs → sum_by g xs ≤ sum_by f xs
    → All (λ a. f a ≡ g a) xs
terms_tight {A} f g [] h e = All-nil (λ (a : A). f a ≡ g a)
terms_tight {A} f g (x ∷ xs) h e =
    let rest : All (λ (a : A). f a ≤ g a) xs = All-tail (λ (a : A). f a ≤ g a) x xs h in
    let first : f x ≤ g x = All-head (λ (a : A). f a ≤ g a) x xs h in
    let sums : sum_by f xs ≤ sum_by g xs = terms-le f g xs rest in
    All-cons (λ (a : A). f a ≡ g a) x xs (omega (arith, sum_by-cons {X = A}))
    (terms_tight f g xs rest (omega (arith, sum_by-cons {X = A})))
  where
    terms-le : {A : Type 0} (f g : A → ℕ) (xs : List A) → All (λ a. f a ≤ g a) xs → sum_by f xs ≤ sum_by g xs
    terms-le {A} f g [] h = omega arith
    terms-le {A} f g (x ∷ xs) h =
        let P : A → Type 0 = λ (a : A). f a ≤ g a in
        omega (arith, sum_by-cons {X = A}, All-head P x xs h, terms-le f g xs (All-tail P x xs h))

sum_of_two : {A : Type 0} (f g : A → ℕ) (xs : List A) → sum_by (λ a. f a + g a) xs ≡ sum_by f xs + sum_by g xs
sum_of_two {A} f g [] = refl
sum_of_two {A} f g (x ∷ xs) = omega (arith, sum_by-cons {X = A}, sum_of_two f g xs)

-- on an arc that leads into the set or out of it, the other flow is what the arc carries
abbrev pub Agrees : (Node → Bool) → (Key → ℕ) → Arc Node Key → Type 0
Agrees inside y a =
    (inside a.tail ≡ true → inside a.head ≡ false → y a.key ≡ a.flow)
    × (inside a.head ≡ true → inside a.tail ≡ false → y a.key ≡ a.flow)

weighed : (tail head : Bool) (x y : ℕ) → (tail ≡ true → head ≡ false → y ≤ x) → (head ≡ true → tail ≡ false → x ≤ y)
    → cond head 1 0 * x + cond tail 1 0 * y ≤ cond tail 1 0 * x + cond head 1 0 * y
weighed tail head x y out into = grind arith

unweighed : (tail head : Bool) (x y : ℕ)
    → cond head 1 0 * x + cond tail 1 0 * y ≡ cond tail 1 0 * x + cond head 1 0 * y
    → (tail ≡ true → head ≡ false → y ≡ x) × (head ≡ true → tail ≡ false → y ≡ x)
unweighed tail head x y e = grind arith

-- WHAT CROSSES a closed set is the same in each flow as cheap
pub crossing : (v : View) (price : ℕ → ℕ) (p : List Choice) (y : Key → ℕ) (inside : Node → Bool)
    → Keeps v price p → IsAsCheap v.case p (best v p) y
    → All (StaysAtNoCost (λ n. price (spot_of v n)) inside) (network v.case (low_of v.case p) (flows v))
    → All (Agrees inside y) (network v.case (low_of v.case p) (flows v))
crossing v price p y inside keeps flow closed =
    let c : Case = v.case in
    let low : Key → ℕ = low_of c p in
    let x : Key → ℕ = flows v in
    let arcs : List (Arc Node Key) = network c low x in
    let cost_at : Node → ℕ = λ (n : Node). price (spot_of v n) in
    let w : Node → ℕ = λ (n : Node). cond (inside n) 1 0 in
    let other : IsOther v p y = as_other v p y flow in
    let loose : All (λ (a : Arc Node Key). (Tight cost_at a → ⊥) → y a.key ≡ a.flow) arcs =
    keeps.laws.same arcs (task_nodes c) Sink cost_at (λ (a : Arc Node Key). y a.key) keeps.stands.valid
    keeps.stands.balanced other.within other.balanced other.cheap in
    let f : Arc Node Key → ℕ = λ (a : Arc Node Key). w a.head * a.flow + w a.tail * y a.key in
    let g : Arc Node Key → ℕ = λ (a : Arc Node Key). w a.tail * a.flow + w a.head * y a.key in
    let each : All (λ (a : Arc Node Key). f a ≤ g a) arcs = λ k d l.
    let a : Arc Node Key = get_or arcs k d in
    let bounds : (a.low ≤ y a.key) × (y a.key ≤ a.cap) = other.within k d l in
    ⊎_elim
    (λ (tight : Tight cost_at a).
    weighed (inside a.tail) (inside a.head) a.flow (y a.key)
    (λ t h. omega (arith, bounds.1, (closed k d l tight).0 t h))
    (λ h t. omega (arith, bounds.0, (closed k d l tight).1 h t)))
    (λ (slack : Tight cost_at a → ⊥).
    let same : y a.key ≡ a.flow = loose k d l slack in
    weighed (inside a.tail) (inside a.head) a.flow (y a.key) (λ t h. omega (arith, same)) (λ h t. omega (arith, same)))
    (cases_eq (a.cost + cost_at a.tail) (cost_at a.head)) in
    let sums : sum_by g arcs ≤ sum_by f arcs = omega (
      arith,
      sum_of_two (λ (a : Arc Node Key). w a.head * a.flow) (λ (a : Arc Node Key). w a.tail * y a.key) arcs,
      sum_of_two (λ (a : Arc Node Key). w a.tail * a.flow) (λ (a : Arc Node Key). w a.head * y a.key) arcs,
      keeps.stands.balanced w,
      other.balanced w,
    ) in
    let equal : All (λ (a : Arc Node Key). f a ≡ g a) arcs = terms_tight f g arcs each sums in
    λ k d l.
    let a : Arc Node Key = get_or arcs k d in
    unweighed (inside a.tail) (inside a.head) a.flow (y a.key) (equal k d l)
