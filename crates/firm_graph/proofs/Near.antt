-- A task's arcs to the machines that it prefers, as they are added, changed and removed one by one.
use Rattle.std.proofs.Common.{◌≡◌, ℕ, zero, suc, ◌+◌, ◌<◌, ◌≤◌, Some, List, [], ◌∷◌, ◌++◌, map, length, get_or, take}
use Rattle.std.proofs.Common.{drop, arith, refl, sym, ap, ap₂, ◌∙◌, subst, drop-cons}
use Rattle.std.specs.List.{sum_by}
use Rattle.std.proofs.lemmas.List.Sums.{sum_by-cons, sum_by-append}
use Rattle.std.proofs.lemmas.List.{drop_all, length-take-le, map-append, length-map, take_more}
use Rattle.firm_net.specs.Row.{Row}
use Rattle.firm_net.specs.Net.{Net, row_at, added_of}
use Rattle.firm_net.specs.Edits.{Span, span_of, IsEdit}
use Rattle.firm_net.specs.declared.row.NodeId.{NodeId}
use Rattle.firm_net.specs.declared.row.ArcId.{ArcId}
use Rattle.firm_graph.specs.Graph.{preferred_spans}
use Rattle.firm_graph.specs.inner.Steps.{Holds, near, mixed_spans}
use Rattle.firm_graph.proofs.NetEdits.{edit-then}
use Rattle.firm_graph.proofs.Drops.{holds-unlinked}
use Rattle.firm_graph.proofs.Places.{Rates, holds-same, holds-rated}

-- there are at most as many arcs as ids
pub spans-counted : (node : NodeId) (cost : ℕ) (heads : List NodeId) (arcs : List ArcId)
    → length (preferred_spans node cost heads arcs) ≤ length arcs
spans-counted node cost [] arcs = omega arith
spans-counted node cost (head ∷ heads) [] = omega arith
spans-counted node cost (head ∷ heads) (arc ∷ arcs) = omega (arith, spans-counted node cost heads arcs)

-- and at most as many as heads
pub spans-few : (node : NodeId) (cost : ℕ) (heads : List NodeId) (arcs : List ArcId)
    → length (preferred_spans node cost heads arcs) ≤ length heads
spans-few node cost [] arcs = omega arith
spans-few node cost (head ∷ heads) [] = omega arith
spans-few node cost (head ∷ heads) (arc ∷ arcs) = omega (arith, spans-few node cost heads arcs)

-- one arc more
pub near-push : (node : NodeId) (cost : ℕ) (heads : List NodeId) (arcs : List ArcId) (head : NodeId) (arc : ArcId)
    → length heads ≡ length arcs
    → preferred_spans node cost (heads ++ head ∷ []) (arcs ++ arc ∷ [])
    ≡ preferred_spans node cost heads arcs ++ near node head cost arc ∷ []
near-push node cost [] [] head arc e = refl
near-push node cost [] (a ∷ arcs) head arc e = absurd (omega arith)
near-push node cost (h ∷ heads) [] head arc e = absurd (omega arith)
near-push node cost (h ∷ heads) (a ∷ arcs) head arc e =
    ap (λ (l : List Span). near node h cost a ∷ l) (near-push node cost heads arcs head arc (omega arith))

-- a step of the loop that adds an arc to the node of each name
pub link-step : (base old new : Net) (node : NodeId) (at_place : ℕ → NodeId) (places : List ℕ) (i place : ℕ)
    (head : NodeId) (arcs more : List ArcId) (arc : ArcId) → i < length places
    → place ≡ get_or places i place → head ≡ at_place place → length arcs ≡ i → more ≡ arcs ++ arc ∷ []
    → IsEdit base old [] [] [] (preferred_spans node 0 (map at_place (take i places)) arcs)
    → IsEdit old new [] [] [] (near node head 0 arc ∷ [])
    → IsEdit base new [] [] [] (preferred_spans node 0 (map at_place (take (i + 1) places)) more)
link-step base old new node at_place places i place head arcs more arc below at head_is counted more_is so_far edit =
    let heads : List NodeId = map at_place (take i places) in
    let whole : map at_place (take (i + 1) places) ≡ heads ++ head ∷ [] =
    ap (map at_place) (take_more places i place below ∙ ap (λ (n : ℕ). take i places ++ n ∷ []) (sym at))
    ∙ map-append at_place (take i places) (place ∷ []) ∙ ap (λ (n : NodeId). heads ++ n ∷ []) (sym head_is) in
    let paired : length heads ≡ length arcs = omega (
      arith,
      length-map (take i places) at_place,
      length-take-le i places (let b : i ≤ length places = omega (arith, below) in b),
    ) in
    let spans : preferred_spans node 0 (map at_place (take (i + 1) places)) more ≡ preferred_spans node 0 heads arcs ++
    near node head 0 arc ∷ [] =
    ap₂ (λ (hs : List NodeId) (ids : List ArcId). preferred_spans node 0 hs ids) whole more_is
    ∙ near-push node 0 heads arcs head arc paired in
    subst (λ (l : List Span). IsEdit base new [] [] [] l) (sym spans)
    (edit-then base old new [] (preferred_spans node 0 heads arcs) (near node head 0 arc ∷ []) so_far edit)

-- a step of the loop that removes the arcs
pub unlink-step : (base old new : Net) (ns : List NodeId) (ss : List Span) (node : NodeId) (cost i : ℕ)
    (heads : List NodeId) (arcs : List ArcId) (arc : ArcId) → length heads ≡ length arcs → i < length arcs
    → arc ≡ get_or arcs i arc
    → Holds base old ns (preferred_spans node cost (drop i heads) (drop i arcs) ++ ss)
    → ((row : Row) → row_at old arc ≡ Some row → IsEdit old new [] [] (span_of arc row ∷ []) [])
    → Holds base new ns (preferred_spans node cost (drop (i + 1) heads) (drop (i + 1) arcs) ++ ss)
unlink-step base old new ns ss node cost i heads arcs arc e below at h edits =
    let head : NodeId = get_or heads i node in
    let front : drop i arcs ≡ arc ∷ drop (suc i) arcs = drop-cons arcs i arc below ∙ ap
    (λ (a : ArcId). a ∷ drop (suc i) arcs) (sym at) in
    let next : suc i ≡ i + 1 = omega arith in
    let rest : List Span = preferred_spans node cost (drop (i + 1) heads) (drop (i + 1) arcs) ++ ss in
    let was : Holds base old ns (near node head cost arc ∷ rest) =
    subst (λ (k : ℕ). Holds base old ns (near node head cost arc
    ∷ preferred_spans node cost (drop k heads) (drop k arcs)
    ++ ss)) next
    (subst (λ (l : List NodeId). Holds base old ns (preferred_spans node cost l (arc ∷ drop (suc i) arcs) ++ ss))
    (drop-cons heads i node (omega (arith, e, below)))
    (subst (λ (l : List ArcId). Holds base old ns (preferred_spans node cost (drop i heads) l ++ ss)) front h)) in
    holds-unlinked base old new ns (near node head cost arc) rest was edits

pub unlink-end : (base now : Net) (ns : List NodeId) (ss : List Span) (node : NodeId) (cost i : ℕ)
    (heads : List NodeId) (arcs : List ArcId) → length heads ≡ length arcs → length arcs ≤ i
    → Holds base now ns (preferred_spans node cost (drop i heads) (drop i arcs) ++ ss) → Holds base now ns ss
unlink-end base now ns ss node cost i heads arcs e all h =
    subst (λ (l : List NodeId). Holds base now ns (preferred_spans node cost l (drop i arcs) ++ ss))
    (drop_all i heads (omega (arith, e, all))) h

-- the arcs but one, the ones before it at another cost
abbrev others : NodeId → ℕ → ℕ → ℕ → List NodeId → List ArcId → List Span
others node new old n [] arcs = []
others node new old n (head ∷ heads) [] = []
others node new old zero (head ∷ heads) (arc ∷ arcs) = preferred_spans node old heads arcs
others node new old (suc n) (head ∷ heads) (arc ∷ arcs) =
    near node head new arc ∷ others node new old n heads arcs

-- what the arcs weigh before and after the next one has its cost
mixed-sums : (w : Span → ℕ) (node : NodeId) (new old n : ℕ) (heads : List NodeId) (arcs : List ArcId) (h : NodeId)
    (a : ArcId) → length heads ≡ length arcs → n < length arcs
    → (sum_by w (mixed_spans node new old n heads arcs)
    ≡ w (near node (get_or heads n h) old (get_or arcs n a)) + sum_by w (others node new old n heads arcs))
    × (sum_by w (mixed_spans node new old (suc n) heads arcs)
    ≡ w (near node (get_or heads n h) new (get_or arcs n a)) + sum_by w (others node new old n heads arcs))
mixed-sums w node new old n [] [] h a e below = absurd (omega arith)
mixed-sums w node new old n [] (arc ∷ arcs) h a e below = absurd (omega arith)
mixed-sums w node new old n (head ∷ heads) [] h a e below = absurd (omega arith)
mixed-sums w node new old zero (head ∷ heads) (arc ∷ arcs) h a e below = (
  sum_by-cons w (near node head old arc) (preferred_spans node old heads arcs),
  sum_by-cons w (near node head new arc) (preferred_spans node old heads arcs),
)
mixed-sums w node new old (suc n) (head ∷ heads) (arc ∷ arcs) h a e below =
    let rest = mixed-sums w node new old n heads arcs h a (omega arith) (omega arith) in
    let s : Span = near node head new arc in
    let left = sum_by-cons w s (others node new old n heads arcs) in (
      omega (arith, sum_by-cons w s (mixed_spans node new old n heads arcs), left, rest.0),
      omega (arith, sum_by-cons w s (mixed_spans node new old (suc n) heads arcs), left, rest.1),
    )

-- a step of the loop that gives the arcs another cost
pub rate-step : (base was now : Net) (ns : List NodeId) (ss : List Span) (node : NodeId) (new old i : ℕ)
    (heads : List NodeId) (arcs : List ArcId) (arc : ArcId) → length heads ≡ length arcs → i < length arcs
    → arc ≡ get_or arcs i arc
    → Holds base was ns (mixed_spans node new old i heads arcs ++ ss)
    → Rates was now arc 1 new → added_of now ≤ added_of was
    → Holds base now ns (mixed_spans node new old (i + 1) heads arcs ++ ss)
rate-step base was now ns ss node new old i heads arcs arc e below at h edit none =
    let head : NodeId = get_or heads i node in
    let rest : List Span = others node new old i heads arcs in
    let s : Span = near node head old arc in
    let t : Span = near node head new arc in
    let mixed : ℕ → List Span = λ (k : ℕ). mixed_spans node new old k heads arcs in
    let its : (w : Span → ℕ) (cost : ℕ) → w (near node head cost (get_or arcs i arc)) ≡ w (near node head cost arc) =
    λ w cost. ap (λ (a : ArcId). w (near node head cost a)) (sym at) in
    let front : Holds base was ns (s ∷ rest ++ ss) =
    holds-same base was ns (mixed i ++ ss) (s ∷ rest ++ ss) h
    (λ w. omega (
      arith,
      (mixed-sums w node new old i heads arcs node arc e below).0,
      its w old,
      sum_by-append {X = Span},
      sum_by-cons {X = Span},
    )) in
    subst (λ (k : ℕ). Holds base now ns (mixed k ++ ss)) (let z : suc i ≡ i + 1 = omega arith in z)
    (holds-same base now ns (t ∷ rest ++ ss) (mixed (suc i) ++ ss)
    (holds-rated base was now ns s (rest ++ ss) 1 new front edit none)
    (λ w. omega (
      arith,
      (mixed-sums w node new old i heads arcs node arc e below).1,
      its w new,
      sum_by-append {X = Span},
      sum_by-cons {X = Span},
    )))

all-mixed : (node : NodeId) (new old n : ℕ) (heads : List NodeId) (arcs : List ArcId) → length arcs ≤ n
    → mixed_spans node new old n heads arcs ≡ preferred_spans node new heads arcs
all-mixed node new old zero [] arcs all = refl
all-mixed node new old zero (head ∷ heads) [] all = refl
all-mixed node new old zero (head ∷ heads) (arc ∷ arcs) all = absurd (omega arith)
all-mixed node new old (suc n) [] arcs all = refl
all-mixed node new old (suc n) (head ∷ heads) [] all = refl
all-mixed node new old (suc n) (head ∷ heads) (arc ∷ arcs) all =
    ap (λ (l : List Span). near node head new arc ∷ l) (all-mixed node new old n heads arcs (omega arith))

pub rate-end : (base now : Net) (ns : List NodeId) (ss : List Span) (node : NodeId) (new old i : ℕ)
    (heads : List NodeId) (arcs : List ArcId) → length arcs ≤ i
    → Holds base now ns (mixed_spans node new old i heads arcs ++ ss)
    → Holds base now ns (preferred_spans node new heads arcs ++ ss)
rate-end base now ns ss node new old i heads arcs all h =
    subst (λ (l : List Span). Holds base now ns (l ++ ss)) (all-mixed node new old i heads arcs all) h
