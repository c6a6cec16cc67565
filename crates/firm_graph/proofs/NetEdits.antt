-- What the calls of a net take away and bring.
use Rattle.std.proofs.Common.{◌≡◌, ℕ, suc, ◌*◌, ◌++◌, length-append, ◌+◌, List, [], ◌∷◌, length, arith, ap, ◌∙◌}
use Rattle.std.specs.List.{sum_by}
use Rattle.std.proofs.lemmas.List.Sums.{sum_by-append}
use Rattle.firm_rules.specs.Placement.{slot_cost}
use Rattle.firm_net.specs.Net.{Net}
use Rattle.firm_net.specs.declared.row.NodeId.{NodeId}
use Rattle.firm_net.specs.declared.row.ArcId.{ArcId}
use Rattle.firm_graph.specs.Graph.{slot_spans}
use Rattle.firm_net.specs.Edits.{Span, IsEdit}

-- one edit after another
pub edit-then : (a b c : Net) (ns : List NodeId) (ss ts : List Span) → IsEdit a b [] ns [] ss → IsEdit b c [] [] [] ts
    → IsEdit a c [] ns [] (ss ++ ts)
edit-then a b c ns ss ts before more =
    record {
      nodes = λ w. omega (arith, before.nodes w, more.nodes w);
      spans = λ w. omega (arith, before.spans w, more.spans w, sum_by-append w ss ts);
      counted_nodes = omega (arith, before.counted_nodes, more.counted_nodes);
      counted_arcs = omega (arith, before.counted_arcs, more.counted_arcs, length-append ss ts);
      node_room = more.node_room ∙ before.node_room;
      arc_room = more.arc_room ∙ before.arc_room;
      added = omega (arith, before.added, more.added, length-append ss ts);
      net = more.net;
    }

-- the same arcs in another order
pub edit-same : (a b : Net) (ns : List NodeId) (ss ts : List Span) → IsEdit a b [] ns [] ss
    → ((w : Span → ℕ) → sum_by w ss ≡ sum_by w ts) → length ss ≡ length ts → IsEdit a b [] ns [] ts
edit-same a b ns ss ts edit same long =
    record {
      nodes = edit.nodes;
      spans = λ w. omega (arith, edit.spans w, same w);
      counted_nodes = edit.counted_nodes;
      counted_arcs = omega (arith, edit.counted_arcs, long);
      node_room = edit.node_room;
      arc_room = edit.arc_room;
      added = omega (arith, edit.added, long);
      net = edit.net;
    }

pub slots-push : (node sink : NodeId) (spread k : ℕ) (slots : List ArcId) (arc : ArcId)
    → slot_spans node sink spread k (slots ++ arc ∷ []) ≡ slot_spans node sink spread k slots ++ record
    { arc = arc; tail = node; head = sink; cap = 1; cost = slot_cost spread (k + length slots) } ∷ []
slots-push node sink spread k [] arc =
    ap (λ (n : ℕ). let s : Span = record
    { arc = arc; tail = node; head = sink; cap = 1; cost = slot_cost spread n } in s ∷ [])
    (let e : k ≡ k + 0 = omega arith in e)
slots-push node sink spread k (a ∷ slots) arc =
    ap (λ (l : List Span). let s : Span = record
    { arc = a; tail = node; head = sink; cap = 1; cost = slot_cost spread k } in s ∷ l)
    (slots-push node sink spread (k + 1) slots arc
    ∙ ap (λ (n : ℕ). let s : Span = record
    { arc = arc; tail = node; head = sink; cap = 1; cost = slot_cost spread n } in
    slot_spans node sink spread (k + 1) slots ++ s ∷ [])
    (let e : k + 1 + length slots ≡ k + suc (length slots) = omega arith in e))
