-- The net's arcs are the network's in another order.
use mathlib.Core.List.{map-map}
use Rattle.std.proofs.Common.{◌≡◌, ℕ, suc, ◌+◌, ◌<◌, true, false, Option, Some, None, List, [], ◌∷◌, ◌++◌, map, get_or}
use Rattle.std.proofs.Common.{arith, refl, sym, ap, ap₂, ◌∙◌, subst, ⊎_elim}
use Rattle.std.specs.List.{sum_by}
use Rattle.std.specs.List.Sorted.{IsPermutation}
use Rattle.std.proofs.lemmas.List.Sums.{sum_by-cons, sum_by-append}
use Rattle.std.proofs.lemmas.List.Sorted.{IsPermutation-refl, IsPermutation-sym, IsPermutation-cons}
use Rattle.std.proofs.lemmas.List.Sorted.{IsPermutation-trans, IsPermutation-middle, IsPermutation-map}
use Rattle.std.proofs.lemmas.Bool.{cases_Bool}
use Rattle.firm_arena.specs.Arena.{Arena, entries, entries_from, find}
use Rattle.firm_arena.specs.declared.Id.{Id}
use Rattle.firm_net.specs.Row.{Row}
use Rattle.firm_net.specs.Net.{Net, row_at}
use Rattle.firm_net.specs.declared.row.ArcId.{ArcId}
use Rattle.firm_arena.specs.Changes.{find-held_own}
use Rattle.firm_paths.specs.Network.{Arc}
use Rattle.firm_paths.specs.NetArcs.{arcs_of, arc_of}
use Rattle.firm_net.specs.Edits.{Span, span_of, spans_of, AsOften}
use Rattle.firm_graph.specs.Graph.{Graph, Mirrors, graph_spans}
use Rattle.firm_graph.specs.declared.network.Node.{Node}
use Rattle.firm_graph.specs.declared.network.Key.{Key}
use Rattle.firm_graph.specs.Network.{network}
use Rattle.firm_graph.specs.View.{View, named, lows, flows, low_of_row, flow_of_row}
use Rattle.firm_graph.specs.Ids.{node_id, arc_id, view_of}
use Rattle.firm_graph.proofs.Bridge.{rows_network, fill, network_is}
use Rattle.firm_graph.proofs.Found.{same_span, same_span-true, same_span-refl, ones}
use Rattle.firm_graph.proofs.Totals.{often-length}
use Rattle.firm_graph.proofs.Networks.{shown, graph-shown}

-- where a list stands around an element that it has
record Around (x : Span) (ys : List Span) : Type 0 where
  front : List Span
  back : List Span
  is : ys ≡ front ++ x ∷ back

around : (x : Span) (ys : List Span) → 0 < sum_by (λ y. ones (same_span y x)) ys → Around x ys
around x [] some = absurd (omega arith)
around x (y ∷ ys) some = ⊎_elim
    (λ (t : same_span y x ≡ true). record {
      front = [];
      back = ys;
      is = ap (λ (z : Span). z ∷ ys)
          (same_span-true y x t);
    })
    (λ (f : same_span y x ≡ false).
    let w : Span → ℕ = λ (z : Span). ones (same_span z x) in
    let none : w y ≡ ones false = ap ones f in
    let rest = around x ys (omega (arith, some, none, sum_by-cons w y ys)) in
    record { front = y ∷ rest.front; back = rest.back; is = ap (λ (l : List Span). y ∷ l) rest.is })
    (cases_Bool (same_span y x))

pub often-permutes : (xs ys : List Span) → AsOften xs ys → IsPermutation xs ys
often-permutes [] [] often = IsPermutation-refl []
often-permutes [] (y ∷ ys) often = absurd (omega (arith, often-length [] (y ∷ ys) often))
often-permutes (x ∷ xs) ys often =
    let w : Span → ℕ = λ (z : Span). ones (same_span z x) in
    let own : w x ≡ ones true = ap ones (same_span-refl x) in
    let at = around x ys (omega (arith, often.weighs w, sum_by-cons w x xs, own)) in
    let rest : AsOften xs (at.front ++ at.back) =
    record {
      weighs = λ v. omega (
        arith,
        often.weighs v,
        ap (λ (l : List Span). sum_by v l) at.is,
        sum_by-cons {X = Span},
        sum_by-append {X = Span},
      );
    } in
    subst (λ (l : List Span). IsPermutation (x ∷ xs) l) (sym at.is)
    (IsPermutation-trans (x ∷ xs) (x ∷ (at.front ++ at.back)) (at.front ++ x ∷ at.back)
    (IsPermutation-cons x xs (at.front ++ at.back) (often-permutes xs (at.front ++ at.back) rest))
    (IsPermutation-sym (at.front ++ x ∷ at.back) (x ∷ (at.front ++ at.back)) (IsPermutation-middle at.front x at.back)))

-- what is the same of each entry that is found is the same of all
same-from : {X Y : Type 0} (f g : Id × X → Y) (p : ℕ) (held : List (Option (ℕ × X)))
    → ((i q : ℕ) (own : ℕ × X) → q ≡ p + i → get_or held i None ≡ Some own
    → f (record { place = q; stamp = own.0 }, own.1) ≡ g (record { place = q; stamp = own.0 }, own.1))
    → map f (entries_from p held) ≡ map g (entries_from p held)
same-from f g p [] h = refl
same-from f g p (None ∷ held) h =
    same-from f g (p + 1) held (λ i q own at e. h (suc i) q own (omega (arith, at)) e)
same-from {X} {Y} f g p (Some own ∷ held) h =
    ap₂ (λ (y : Y) (l : List Y). y ∷ l) (h 0 p own (omega arith) refl)
    (same-from f g (p + 1) held (λ i q o at e. h (suc i) q o (omega (arith, at)) e))

pub same-entries : {X Y : Type 0} (f g : Id × X → Y) (a : Arena X)
    → ((id : Id) (x : X) → find a id ≡ Some x → f (id, x) ≡ g (id, x))
    → map f (entries a) ≡ map g (entries a)
same-entries f g a h =
    same-from f g 0 a.held
    (λ i q own at e.
    subst (λ (n : ℕ). f (record { place = n; stamp = own.0 }, own.1) ≡ g (record { place = n; stamp = own.0 }, own.1))
    (let z : i ≡ q = omega (arith, at) in z)
    (h (record { place = i; stamp = own.0 }) own.1 (find-held_own a i own e)))

-- an arc with the flow that the net gives it
abbrev flowing : Net → Span → Arc ℕ ArcId
flowing net s =
    record {
      key = s.arc;
      tail = s.tail.id.place;
      head = s.head.id.place;
      low = low_of_row (row_at net s.arc);
      cap = s.cap;
      cost = s.cost;
      flow = flow_of_row (row_at net s.arc);
    }

all-flowing : (net : Net) → map (flowing net) (spans_of net) ≡ arcs_of net
all-flowing net =
    map-map (flowing net) (λ (e : Id × Row). span_of (record { id = e.0 }) e.1) (entries net.arcs)
    ∙ same-entries (λ (e : Id × Row). flowing net (span_of (record { id = e.0 }) e.1))
    (λ (e : Id × Row). arc_of (record { id = e.0 }) e.1) net.arcs
    (λ id row e. ap₂ (λ (l f : ℕ). let a : Arc ℕ ArcId = record (arc_of (record { id = id }) row) { low = l; flow = f }
    in a) (ap low_of_row e) (ap flow_of_row e))

pub is-network : (g : Graph) → Mirrors g
    → IsPermutation (arcs_of g.net) (map (named (view_of g))
    (network (view_of g).case (lows (view_of g)) (flows (view_of g))))
is-network g is =
    let v : View = view_of g in
    let low : Key → ℕ = lows v in
    let flow : Key → ℕ = flows v in
    let same : map (flowing g.net) (graph_spans g) ≡ map (named v) (network v.case low flow) =
    ap (λ (l : List Span). map (flowing g.net) l) (sym (graph-shown g is))
    ∙ map-map (flowing g.net) (shown (node_id g) (arc_id g)) (rows_network g.rows)
    ∙ sym (map-map (named v) (fill low flow) (rows_network g.rows))
    ∙ ap (λ (l : List (Arc Node Key)). map (named v) l) (network_is g.rows low flow) in
    subst (λ (l : List (Arc ℕ ArcId)). IsPermutation (arcs_of g.net) l) same
    (subst (λ (l : List (Arc ℕ ArcId)). IsPermutation l (map (flowing g.net) (graph_spans g))) (all-flowing g.net)
    (IsPermutation-map (flowing g.net) (spans_of g.net) (graph_spans g)
    (often-permutes (spans_of g.net) (graph_spans g) is.spans)))
