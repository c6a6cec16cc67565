-- The nodes and arcs that each change removes from a net and adds to it.
use Rattle.std.proofs.Common.{◌≡◌, ℕ, ◌+◌, ◌<◌, Some, None, [], ◌∷◌, arith, refl, sym, ap, ◌∙◌, length-set}
use Rattle.std.specs.List.{sum_by}
use Rattle.std.proofs.lemmas.List.Sums.{sum_by-cons}
use Rattle.firm_arena.specs.Arena.{Arena, entries, held_at, capacity_of, changed_at}
use Rattle.firm_net.specs.Row.{Row}
use Rattle.firm_net.specs.Net.{Net, Lists, IsNet, lists_at, row_at, without_arc, with_node, without_node, with_arc}
use Rattle.firm_net.specs.Net.{without_row, with_row, with_head, without_flow, with_list}
use Rattle.firm_net.specs.Edits.{span_of, IsEdit}
use Rattle.firm_net.specs.declared.links.Side.TheVariants.{Out, In}
use Rattle.firm_net.specs.declared.row.NodeId.{NodeId}
use Rattle.firm_net.specs.declared.row.ArcId.{ArcId}
use Rattle.firm_arena.specs.Changes.{find-held, some-is, capacity_of-changed_at, capacity_of-changed_all}
use Rattle.firm_arena.specs.Sums.{sum-put, sum-without, sum-changed, sum-changed_same, sum-changed_all}
use Rattle.firm_net.specs.Laws.{node_weight, span_weight, nodes-sum, spans-sum, row-below}
use Rattle.firm_net.proofs.Facts.{with_node-counts, without_node-fewer, with_arc-counts, without_row-fewer}
use Rattle.firm_net.proofs.Facts.{with_row-counts, with_head-counts, without_flow-counts}

one : {X : Type 0} (w : X → ℕ) (x : X) → sum_by w (x ∷ []) ≡ w x
one w x = sum_by-cons w x [] ∙ (let e : w x + 0 ≡ w x = omega arith in e)

-- the lists of two nodes changed
abbrev relisted : Arena Lists → (Lists → Lists) → ℕ → (Lists → Lists) → ℕ → Arena Lists
relisted nodes f p g q = changed_at (changed_at nodes p f) q g

relisted-sum : (w : NodeId → ℕ) (nodes : Arena Lists) (f : Lists → Lists) (p : ℕ) (g : Lists → Lists) (q : ℕ)
    → sum_by (node_weight w) (entries (relisted nodes f p g q)) ≡ sum_by (node_weight w) (entries nodes)
relisted-sum w nodes f p g q =
    sum-changed_same (node_weight w) (changed_at nodes p f) q g (λ id x. refl)
    ∙ sum-changed_same (node_weight w) nodes p f (λ id x. refl)

relisted-room : (nodes : Arena Lists) (f : Lists → Lists) (p : ℕ) (g : Lists → Lists) (q : ℕ)
    → capacity_of (relisted nodes f p g q) ≡ capacity_of nodes
relisted-room nodes f p g q = capacity_of-changed_at (changed_at nodes p f) q g ∙ capacity_of-changed_at nodes p f

-- a node is added
pub with_node-edit : (net : Net) (n : NodeId) → n.id.place < capacity_of net.nodes → held_at net.nodes n.id.place ≡ None
    → n.id.stamp ≡ net.nodes.counter → IsNet (with_node net n.id.place)
    → IsEdit net (with_node net n.id.place) [] (n ∷ []) [] []
with_node-edit net n below free stamp is =
    let stamped : ℕ → NodeId = λ (s : ℕ). record { id = record { place = n.id.place; stamp = s } } in
    let same : stamped net.nodes.counter ≡ n = ap stamped (sym stamp) in
    let lists : Lists = record { outgoing = []; incoming = [] } in
    record {
      nodes = λ w. omega (
        arith,
        one w n,
        ap w same,
        nodes-sum w net,
        nodes-sum w (with_node net n.id.place),
        sum-put (node_weight w) net.nodes n.id.place lists below free,
      );
      spans = λ w. refl;
      counted_nodes = omega (arith, (with_node-counts net n.id.place below free).counted_nodes);
      counted_arcs = refl;
      node_room = length-set net.nodes.held n.id.place (Some (net.nodes.counter, lists));
      arc_room = refl;
      added = omega arith;
      net = is;
    }

-- a node is removed
pub without_node-edit : (net : Net) (n : NodeId) (lists : Lists) → IsNet net → lists_at net n ≡ Some lists
    → IsNet (without_node net n) → IsEdit net (without_node net n) (n ∷ []) [] [] []
without_node-edit net n lists before there is =
    let below : n.id.place < capacity_of net.nodes =
    before.node_map.places n.id (some-is (lists_at net n) lists there) in
    record {
      nodes = λ w. omega (
        arith,
        one w n,
        nodes-sum w net,
        nodes-sum w (without_node net n),
        sum-without (node_weight w) net.nodes n.id.place n.id.stamp lists below (find-held net.nodes n.id lists there),
      );
      spans = λ w. refl;
      counted_nodes = omega (arith, without_node-fewer net n lists there);
      counted_arcs = refl;
      node_room = length-set net.nodes.held n.id.place None;
      arc_room = refl;
      added = omega arith;
      net = is;
    }

-- an arc is added
pub with_arc-edit : (net : Net) (a : ArcId) (row : Row) → a.id.place < capacity_of net.arcs
    → held_at net.arcs a.id.place ≡ None
    → a.id.stamp ≡ net.arcs.counter → IsNet (with_arc net a row)
    → IsEdit net (with_arc net a row) [] [] [] (span_of a row ∷ [])
with_arc-edit net a row below free stamp is =
    let stamped : ℕ → ArcId = λ (s : ℕ). record { id = record { place = a.id.place; stamp = s } } in
    let same : stamped net.arcs.counter ≡ a = ap stamped (sym stamp) in
    let outgoing : Lists → Lists = with_list Out (λ ids. a ∷ ids) in
    let incoming : Lists → Lists = with_list In (λ ids. a ∷ ids) in
    let counts = with_arc-counts net a row below free in
    record {
      nodes = λ w. omega (
        arith,
        nodes-sum w net,
        nodes-sum w (with_arc net a row),
        relisted-sum w net.nodes outgoing row.tail.id.place incoming row.head.id.place,
      );
      spans = λ w. omega (
        arith,
        one w (span_of a row),
        ap (λ (b : ArcId). w (span_of b row)) same,
        spans-sum w net,
        spans-sum w (with_arc net a row),
        sum-put (span_weight w) net.arcs a.id.place row below free,
      );
      counted_nodes = omega (arith, counts.counted_nodes);
      counted_arcs = omega (arith, counts.counted_arcs);
      node_room = relisted-room net.nodes outgoing row.tail.id.place incoming row.head.id.place;
      arc_room = length-set net.arcs.held a.id.place (Some (net.arcs.counter, row));
      added = omega arith;
      net = is;
    }

-- an arc is removed
pub without_row-edit : (net : Net) (a : ArcId) (row : Row) → IsNet net → row_at net a ≡ Some row
    → IsNet (without_row net a row)
    → IsEdit net (without_row net a row) [] [] (span_of a row ∷ []) []
without_row-edit net a row before there is =
    let outgoing : Lists → Lists = with_list Out (without_arc a) in
    let incoming : Lists → Lists = with_list In (without_arc a) in
    let fewer = without_row-fewer net a row there in
    record {
      nodes = λ w. omega (
        arith,
        nodes-sum w net,
        nodes-sum w (without_row net a row),
        relisted-sum w net.nodes outgoing row.tail.id.place incoming row.head.id.place,
      );
      spans = λ w. omega (
        arith,
        one w (span_of a row),
        spans-sum w net,
        spans-sum w (without_row net a row),
        sum-without (span_weight w) net.arcs a.id.place a.id.stamp row (row-below net a row there)
            (find-held net.arcs a.id row there),
      );
      counted_nodes = omega (arith, fewer.0);
      counted_arcs = omega (arith, fewer.1);
      node_room = relisted-room net.nodes outgoing row.tail.id.place incoming row.head.id.place;
      arc_room = length-set net.arcs.held a.id.place None;
      added = omega arith;
      net = is;
    }

-- the row of an arc is changed
pub with_row-edit : (net : Net) (a : ArcId) (row : Row) (f : Row → Row) → IsNet net → row_at net a ≡ Some row
    → IsNet (with_row net a f) → IsEdit net (with_row net a f) [] [] (span_of a row ∷ []) (span_of a (f row) ∷ [])
with_row-edit net a row f before there is =
    record {
      nodes = λ w. refl;
      spans = λ w. omega (
        arith,
        one w (span_of a row),
        one w (span_of a (f row)),
        spans-sum w net,
        spans-sum w (with_row net a f),
        sum-changed (span_weight w) net.arcs a.id.place a.id.stamp row f (row-below net a row there)
            (find-held net.arcs a.id row there),
      );
      counted_nodes = refl;
      counted_arcs = omega (arith, (with_row-counts net a f).counted_arcs);
      node_room = refl;
      arc_room = capacity_of-changed_at net.arcs a.id.place f;
      added = omega arith;
      net = is;
    }

-- the row of an arc is changed in its flow alone
pub with_flow-edit : (net : Net) (a : ArcId) (f : Row → Row)
    → ((b : ArcId) (row : Row) → span_of b (f row) ≡ span_of b row)
    → IsNet (with_row net a f) → IsEdit net (with_row net a f) [] [] [] []
with_flow-edit net a f same is =
    record {
      nodes = λ w. refl;
      spans = λ w. omega (
        arith,
        spans-sum w net,
        spans-sum w (with_row net a f),
        sum-changed_same (span_weight w) net.arcs a.id.place f (λ id row. ap w (same (record { id = id }) row)),
      );
      counted_nodes = refl;
      counted_arcs = omega (arith, (with_row-counts net a f).counted_arcs);
      node_room = refl;
      arc_room = capacity_of-changed_at net.arcs a.id.place f;
      added = omega arith;
      net = is;
    }

-- the head of an arc is moved
pub with_head-edit : (net : Net) (a : ArcId) (row : Row) (n : NodeId) → IsNet net → row_at net a ≡ Some row
    → IsNet (with_head net a row n)
    → IsEdit net (with_head net a row n) [] [] (span_of a row ∷ []) (span_of a (record row { head = n }) ∷ [])
with_head-edit net a row n before there is =
    let f : Row → Row = λ (r : Row). record r { head = n } in
    let gone : Lists → Lists = with_list In (without_arc a) in
    let come : Lists → Lists = with_list In (λ ids. a ∷ ids) in
    let counts = with_head-counts net a row n in
    record {
      nodes = λ w. omega (
        arith,
        nodes-sum w net,
        nodes-sum w (with_head net a row n),
        relisted-sum w net.nodes gone row.head.id.place come n.id.place,
      );
      spans = λ w. omega (
        arith,
        one w (span_of a row),
        one w (span_of a (f row)),
        spans-sum w net,
        spans-sum w (with_head net a row n),
        sum-changed (span_weight w) net.arcs a.id.place a.id.stamp row f (row-below net a row there)
            (find-held net.arcs a.id row there),
      );
      counted_nodes = omega (arith, counts.counted_nodes);
      counted_arcs = omega (arith, counts.counted_arcs);
      node_room = relisted-room net.nodes gone row.head.id.place come n.id.place;
      arc_room = capacity_of-changed_at net.arcs a.id.place f;
      added = omega arith;
      net = is;
    }

-- all flow is cleared
pub without_flow-edit : (net : Net) → IsNet (without_flow net) → IsEdit net (without_flow net) [] [] [] []
without_flow-edit net is =
    let f : Row → Row = λ (old : Row). record old { low = 0; flow = 0 } in
    record {
      nodes = λ w. refl;
      spans = λ w. omega (
        arith,
        spans-sum w net,
        spans-sum w (without_flow net),
        sum-changed_all (span_weight w) net.arcs f (λ id row. refl),
      );
      counted_nodes = refl;
      counted_arcs = omega (arith, (without_flow-counts net).counted_arcs);
      node_room = refl;
      arc_room = capacity_of-changed_all net.arcs f;
      added = omega arith;
      net = is;
    }

-- nothing changes
pub same-edit : (net : Net) → IsNet net → IsEdit net net [] [] [] []
same-edit net is = record {
  nodes = λ w. refl;
  spans = λ w. refl;
  counted_nodes = refl;
  counted_arcs = refl;
  node_room = refl;
  arc_room = refl;
  added = omega arith;
  net = is;
}
