-- Numbers of arcs that leave or enter a node.
use Rattle.std.proofs.Common.{◌≡◌, ℕ, ◌+◌, ◌≤◌, Bool, true, false, cond, eqb, Option}
use Rattle.std.proofs.Common.{Some, None, List, [], ◌∷◌, length, arith, refl, sym, ap, subst, ◌∙◌, ⊎_elim}
use Rattle.std.specs.Prelude.{Contains, is_some, not, ◌&&◌}
use Rattle.std.specs.List.{count_by}
use Rattle.std.proofs.lemmas.List.Sums.{sum_by-cons, count_by-le-length}
use Rattle.std.proofs.lemmas.Bool.{and_from, and_right, cond-true, cond-false, eq-eqb}
use Rattle.firm_net.specs.Row.{Row}
use Rattle.firm_net.specs.Net.{Net, IsNet, row_at, rows_of, with_its_row, arcs_on, same_arc, EachOnce, IsListed, end_of}
use Rattle.firm_net.specs.Laws.{rows_counted, same_arc_self, same_arc_other}
use Rattle.firm_net.specs.declared.row.NodeId.{NodeId}
use Rattle.firm_net.specs.declared.row.ArcId.{ArcId}
use Rattle.firm_net.specs.declared.row.Way.{Way}
use Rattle.firm_net.specs.declared.row.Way.TheVariants.{Forward, Backward}
use Rattle.firm_paths.specs.Network.{Arc}
use Rattle.firm_paths.specs.NetArcs.{arc_of, arcs_of}
use Rattle.firm_arena.specs.Arena.{capacity_of}
use Rattle.firm_paths.proofs.Listed.{listed}
use Rattle.firm_paths.specs.inner.Search.{side_of}
use Rattle.firm_paths.proofs.Walks.{cons_cases, cons_more, cons_first}

-- the test, but not of arc `a`
abbrev but : (Arc ℕ ArcId → Bool) → ArcId → Arc ℕ ArcId → Bool
but P a x = P x && not (same_arc x.key a)

and_le : (p q : Bool) → cond {A = ℕ} (p && q) 1 0 ≤ cond {A = ℕ} p 1 0
and_le true true = omega arith
and_le true false = omega arith
and_le false q = omega arith

fewer : (P : Arc ℕ ArcId → Bool) (a : ArcId) (xs : List (Arc ℕ ArcId)) → count_by (but P a) xs ≤ count_by P xs
fewer P a [] = omega arith
fewer P a (x ∷ xs) =
    omega (
      arith,
      sum_by-cons (λ (m : Arc ℕ ArcId). cond {A = ℕ} (but P a m) 1 0) x xs,
      sum_by-cons (λ (m : Arc ℕ ArcId). cond {A = ℕ} (P m) 1 0) x xs,
      fewer P a xs,
      and_le (P x) (not (same_arc x.key a)),
    )

drop_one : (P : Arc ℕ ArcId → Bool) (a : ArcId) (xs : List (Arc ℕ ArcId)) (y : Arc ℕ ArcId) → Contains xs y → P y ≡ true
    → y.key ≡ a
    → count_by (but P a) xs + 1 ≤ count_by P xs
drop_one P a [] y c t e = absurd (omega (arith, c.1))
drop_one P a (x ∷ xs) y c t e =
    let l = sum_by-cons (λ (m : Arc ℕ ArcId). cond {A = ℕ} (but P a m) 1 0) x xs in
    let r = sum_by-cons (λ (m : Arc ℕ ArcId). cond {A = ℕ} (P m) 1 0) x xs in
    ⊎_elim
    (λ (s : x ≡ y).
    let same : same_arc x.key a ≡ true =
    subst (λ (z : ArcId). same_arc z a ≡ true) (sym (ap (λ (m : Arc ℕ ArcId). m.key) s ∙ e)) (same_arc_self a) in
    omega (
      arith,
      l,
      r,
      fewer P a xs,
      cond-false {A = ℕ} (but P a x) 1 0 (and_right (P x) (not (same_arc x.key a)) (ap not same)),
      cond-true {A = ℕ} (P x) 1 0 (ap P s ∙ t),
    ))
    (λ (d : Contains xs y). omega (arith, l, r, drop_one P a xs y d t e, and_le (P x) (not (same_arc x.key a))))
    (cons_cases x xs y c)

-- as many arcs as a list has, each once, pass a test that each of them passes
pub many : (P : Arc ℕ ArcId → Bool) (xs : List (Arc ℕ ArcId)) (net : Net) (ids : List ArcId) → EachOnce ids
    → ((id : ArcId) (row : Row) → Contains ids id → row_at net id ≡ Some row
    → Contains xs (arc_of id row) × (P (arc_of id row) ≡ true))
    → length (rows_of net ids) ≤ count_by P xs
many P xs net [] once all = omega arith
many P xs net (a ∷ ids) once all =
    let step : (o : Option Row) → row_at net a ≡ o → length (with_its_row net a o (rows_of net ids)) ≤ count_by P xs =
    λ o. elim o as (λ o. row_at net a ≡ o → length (with_its_row net a o (rows_of net ids)) ≤ count_by P xs) [
      | None ↦ λ e. many P xs net ids once.1 (λ id row c is. all id row (cons_more a ids id c) is)
      | Some r ↦ λ e.
          let current = all a r (cons_first a ids) e in
          let rest = many (but P a) xs net ids once.1 (λ id row c is.
          let was = all id row (cons_more a ids id c) is in (
            was.0,
            and_from (P (arc_of id row)) (not (same_arc id a)) was.1
                (ap not (same_arc_other id a (λ same. once.0 (subst (Contains ids) same c)))),
          )) in
          omega (arith, rest, drop_one P a xs (arc_of a r) current.0 current.1 refl)
    ] in
    step (row_at net a) refl

-- the place of the node that an arc leaves, read one way
abbrev pub start_place : Way → Arc ℕ ArcId → ℕ
start_place Forward a = a.tail
start_place Backward a = a.head

-- the lists of a net on the side of a way, and the end at which they list an arc
listed_on : (way : Way) (net : Net) → IsNet net → IsListed (side_of way) net
listed_on Forward net is = is.outgoing
listed_on Backward net is = is.incoming

starts_at : (way : Way) (id : ArcId) (row : Row) (node : NodeId) → end_of (side_of way) row ≡ node
    → start_place way (arc_of id row) ≡ node.id.place
starts_at Forward id row node at = ap (λ (n : NodeId). n.id.place) at
starts_at Backward id row node at = ap (λ (n : NodeId). n.id.place) at

-- no more arcs stand in the list of a node than leave it that way
pub degree : (way : Way) (net : Net) (node : NodeId) (u : ℕ) → IsNet net → node.id.place ≡ u
    → length (rows_of net (arcs_on (side_of way) net node))
    ≤ count_by (λ (a : Arc ℕ ArcId). eqb (start_place way a) u) (arcs_of net)
degree way net node u net_is is_place =
    many (λ (a : Arc ℕ ArcId). eqb (start_place way a) u) (arcs_of net) net (arcs_on (side_of way) net node)
    ((listed_on way net net_is).once node)
    (λ id row c is.
    let at = (listed_on way net net_is).arcs node id c in
    let same : at.0 ≡ row = let e : Some at.0 ≡ Some row = sym at.1 ∙ is in cc in (
      listed net id row is,
      eq-eqb (start_place way (arc_of id row)) u
          (starts_at way id row node (subst (λ (r : Row). end_of (side_of way) r ≡ node) same at.2) ∙ is_place),
    ))

pub count_sum : (P Q R : Arc ℕ ArcId → Bool) (xs : List (Arc ℕ ArcId))
    → ((x : Arc ℕ ArcId) → cond {A = ℕ} (P x) 1 0 + cond {A = ℕ} (Q x) 1 0 ≤ cond {A = ℕ} (R x) 1 0)
    → count_by P xs + count_by Q xs ≤ count_by R xs
count_sum P Q R [] h = omega arith
count_sum P Q R (x ∷ xs) h =
    omega (
      arith,
      sum_by-cons (λ (m : Arc ℕ ArcId). cond {A = ℕ} (P m) 1 0) x xs,
      sum_by-cons (λ (m : Arc ℕ ArcId). cond {A = ℕ} (Q m) 1 0) x xs,
      sum_by-cons (λ (m : Arc ℕ ArcId). cond {A = ℕ} (R m) 1 0) x xs,
      count_sum P Q R xs h,
      h x,
    )

-- there are no more arcs than places
pub arcs_few : (net : Net) → length (arcs_of net) ≤ capacity_of net.arcs
arcs_few net =
    omega (arith, rows_counted arc_of net, count_by-le-length (λ (o : Option (ℕ × Row)). is_some o) net.arcs.held)

pub degree_few : (way : Way) (net : Net) (node : NodeId) → IsNet net
    → length (rows_of net (arcs_on (side_of way) net node)) ≤ length (arcs_of net)
degree_few way net node net_is =
    omega (
      arith,
      degree way net node node.id.place net_is refl,
      count_by-le-length (λ (a : Arc ℕ ArcId). eqb (start_place way a) node.id.place) (arcs_of net),
    )
