-- Look-ups by name, where a name is added last.
use Rattle.std.proofs.Common.{◌≡◌, ℕ, suc, not, ltb, get_or, Some, ◌+◌, ◌<◌, Bool, true, false, subst}
use Rattle.std.proofs.Common.{cond, ◌||◌, List, [], ◌∷◌, ◌++◌, map, length, bytes_eq, arith, refl, sym, ap, ap₂, ◌∙◌}
use Rattle.std.proofs.lemmas.List.Elements.{All-head, All-tail}
use Rattle.std.specs.List.{All, list_any, position_or_len, position}
use Rattle.std.proofs.lemmas.Bool.{ltb-true}
use Rattle.std.proofs.lemmas.Option.{cond_some}
use Rattle.firm_net.specs.declared.row.NodeId.{NodeId}
use Rattle.firm_rules.specs.Names.{is_among}
use Rattle.firm_rules.specs.declared.book.Job.{Job}
use Rattle.firm_graph.specs.Graph.{node_under, weight_under}

-- two functions that agree on a list make the same of it
pub map-all : {A B : Type 0} (f g : A → B) (xs : List A) → All (λ x. f x ≡ g x) xs → map f xs ≡ map g xs
map-all f g [] same = refl
map-all {A} {B} f g (x ∷ xs) same =
    let P : A → Type 0 = λ (y : A). f y ≡ g y in
    ap₂ (λ (y : B) (l : List B). y ∷ l) (All-head P x xs same) (map-all f g xs (All-tail P x xs same))

cond-same : {X : Type 0} (b : Bool) (x y z : X) → (b ≡ false → y ≡ z) → cond b x y ≡ cond b x z
cond-same true x y z same = refl
cond-same false x y z same = same refl

pub node_under-push : (names : List (List ℕ)) (nodes : List NodeId) (n : List ℕ) (node other : NodeId) (name : List ℕ)
    → length nodes ≡ length names
    → is_among names name ≡ true
    → node_under (names ++ n ∷ []) (nodes ++ node ∷ []) other name ≡ node_under names nodes other name
node_under-push [] nodes n node other name e h = let clash : false ≡ true = h in absurd cc
node_under-push (m ∷ names) [] n node other name e h = absurd (omega arith)
node_under-push (m ∷ names) (x ∷ nodes) n node other name e h =
    cond-same (bytes_eq name m) x (node_under (names ++ n ∷ []) (nodes ++ node ∷ []) other name)
    (node_under names nodes other name)
    (λ f. node_under-push names nodes n node other name (omega arith)
    (sym (ap (λ (b : Bool). b || list_any (bytes_eq name) names) f) ∙ h))

pub weight_under-push : (jobs : List Job) (job : Job) (name : List ℕ) → is_among (map (λ j. j.name) jobs) name ≡ true
    → weight_under (jobs ++ job ∷ []) name ≡ weight_under jobs name
weight_under-push [] job name h = let clash : false ≡ true = h in absurd cc
weight_under-push (j ∷ jobs) job name h =
    cond-same (bytes_eq name j.name) j.weight (weight_under (jobs ++ job ∷ []) name) (weight_under jobs name)
    (λ f. weight_under-push jobs job name
    (sym (ap (λ (b : Bool). b || list_any (bytes_eq name) (map (λ i. i.name) jobs)) f) ∙ h))

-- what holds of each element and its number, of those from the k-th on, holds of the first and of the rest
module _ {X : Type 0} (P : ℕ → X → Type 0) (d : X) (k : ℕ) (x : X) (xs : List X)
    (h : (i : ℕ) → i < length (x ∷ xs) → P (k + i) (get_or (x ∷ xs) i d)) where
  pub at-first : P k x
  at-first = subst (λ (n : ℕ). P n x) (let e : k + 0 ≡ k = omega arith in e) (h 0 (omega arith))

  pub at-later : (i : ℕ) → i < length xs → P (k + 1 + i) (get_or xs i d)
  at-later i below =
      subst (λ (n : ℕ). P n (get_or xs i d)) (let e : k + suc i ≡ k + 1 + i = omega arith in e)
      (h (suc i) (omega (arith, below)))

-- what a position says
pub position-is : {X : Type 0} (p : X → Bool) (xs : List X) (i : ℕ) → position p xs ≡ Some i
    → (position_or_len p xs ≡ i) × (i < length xs)
position-is p xs i e =
    let at : ℕ = position_or_len p xs in
    let is = cond_some (ltb at (length xs)) at i e in (is.1, omega (arith, is.1, ltb-true at (length xs) is.0))

-- a look-up reads at the position
pub node_under-at : (names : List (List ℕ)) (nodes : List NodeId) (other : NodeId) (name : List ℕ)
    → length nodes ≡ length names
    → node_under names nodes other name ≡ get_or nodes (position_or_len (bytes_eq name) names) other
node_under-at [] [] other name e = refl
node_under-at [] (n ∷ nodes) other name e = absurd (omega arith)
node_under-at (m ∷ names) [] other name e = absurd (omega arith)
node_under-at (m ∷ names) (n ∷ nodes) other name e =
    let shorter : length nodes ≡ length names = omega arith in
    let next : 1 + position_or_len (bytes_eq name) names ≡ suc (position_or_len (bytes_eq name) names) = omega arith in
    elim (bytes_eq name m) as (λ b. cond b n (node_under names nodes other name)
    ≡ get_or (n ∷ nodes) (cond (not b) (1 + position_or_len (bytes_eq name) names) 0) other) [
      | true ↦ refl
      | false ↦ node_under-at names nodes other name shorter ∙ sym (ap (λ (k : ℕ). get_or (n ∷ nodes) k other) next)
    ]

pub weight_under-at : (jobs : List Job) (name : List ℕ) → weight_under jobs name
    ≡ get_or (map (λ job. job.weight) jobs) (position_or_len (bytes_eq name) (map (λ job. job.name) jobs)) 0
weight_under-at [] name = refl
weight_under-at (job ∷ jobs) name =
    let weights : List ℕ = map (λ (j : Job). j.weight) jobs in
    let later : ℕ = position_or_len (bytes_eq name) (map (λ (j : Job). j.name) jobs) in
    let next : 1 + later ≡ suc later = omega arith in
    elim (bytes_eq name job.name) as (λ b. cond b job.weight (weight_under jobs name)
    ≡ get_or (job.weight ∷ weights) (cond (not b) (1 + later) 0) 0) [
      | true ↦ refl
      | false ↦ weight_under-at jobs name ∙ sym (ap (λ (k : ℕ). get_or (job.weight ∷ weights) k 0) next)
    ]

-- what the places of some names read
pub nodes_under-at : (names : List (List ℕ)) (nodes : List NodeId) (other : NodeId) (some : List (List ℕ))
    → length nodes ≡ length names
    → map (λ place. get_or nodes place other) (map (λ name. position_or_len (bytes_eq name) names) some)
    ≡ map (node_under names nodes other) some
nodes_under-at names nodes other [] e = refl
nodes_under-at names nodes other (name ∷ some) e =
    ap₂ (λ (n : NodeId) (l : List NodeId). n ∷ l) (sym (node_under-at names nodes other name e))
    (nodes_under-at names nodes other some e)
