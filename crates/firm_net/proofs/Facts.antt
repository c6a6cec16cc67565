-- The unchanged part of each change of a net: the other rows and nodes, and their numbers.
use Rattle.std.proofs.Common.{◌≡◌, ◌≢◌, ℕ, ◌+◌, ◌-◌, ◌<◌, ◌↔◌, [], ◌∷◌, refl, ap, ◌∙◌, arith, Some, None, IsSome}
use Rattle.firm_arena.specs.Arena.{Arena, find, held_at, capacity_of, changed_at}
use Rattle.firm_arena.specs.declared.Id.{Id}
use Rattle.firm_net.specs.Row.{Row}
use Rattle.firm_net.specs.Net.{Lists, Net, lists_at, row_at, with_list, without_arc, linked_at_front, unlinked}
use Rattle.firm_net.specs.Net.{with_node, without_node, with_arc, without_row, with_row, with_head, without_flow}
use Rattle.firm_net.specs.Net.{SameOtherRows, SameOtherNodes, CountsAre, node_count, arc_count}
use Rattle.firm_net.specs.Edits.{SameNodes}
use Rattle.firm_net.specs.declared.row.NodeId.{NodeId}
use Rattle.firm_net.specs.declared.row.ArcId.{ArcId}
use Rattle.firm_net.specs.declared.links.Side.TheVariants.{Out, In}
use Rattle.firm_arena.specs.Changes.{find-put_own, find-put_other, find-changed_other, find-without_own}
use Rattle.firm_arena.specs.Changes.{find-without_other, len_of-changed_at, len_of-changed_all, len_of-without}
use Rattle.firm_arena.specs.Changes.{len_of-with_put}
use Rattle.firm_arena.specs.Changes.{found-after, found-before}

-- ids of different nodes, and of different arcs, differ
pub node-id : (n m : NodeId) → m ≢ n → m.id ≢ n.id
node-id n m other e = other (ap (λ (i : Id). let made : NodeId = record { id = i } in made) e)

pub arc-id : (a b : ArcId) → b ≢ a → b.id ≢ a.id
arc-id a b other e = other (ap (λ (i : Id). let made : ArcId = record { id = i } in made) e)

pub with_node-others : (net : Net) (n : NodeId) → n.id.place < capacity_of net.nodes
    → held_at net.nodes n.id.place ≡ None
    → n.id.stamp ≡ net.nodes.counter → SameOtherNodes net (with_node net n.id.place) n
with_node-others net n below free stamp m other =
    find-put_other net.nodes n.id m.id (record { outgoing = []; incoming = [] }) below free stamp (node-id n m other)

pub with_node-counts : (net : Net) (p : ℕ) → p < capacity_of net.nodes → held_at net.nodes p ≡ None
    → CountsAre (with_node net p) (node_count net + 1) (arc_count net)
with_node-counts net p below free =
    record {
      counted_nodes = len_of-with_put net.nodes p (record { outgoing = []; incoming = [] }) below free;
      counted_arcs = refl;
    }

pub without_node-others : (net : Net) (n : NodeId) (lists : Lists) → lists_at net n ≡ Some lists
    → SameOtherNodes net (without_node net n) n
without_node-others net n lists there m other = find-without_other net.nodes n.id m.id lists there (node-id n m other)

pub without_node-gone : (net : Net) (n : NodeId) → lists_at (without_node net n) n ≡ None
without_node-gone net n = find-without_own net.nodes n.id

pub without_node-fewer : (net : Net) (n : NodeId) (lists : Lists) → lists_at net n ≡ Some lists
    → node_count (without_node net n) + 1 ≡ node_count net
without_node-fewer net n lists there = len_of-without net.nodes n.id lists there

pub without_node-counts : (net : Net) (n : NodeId) (lists : Lists) → lists_at net n ≡ Some lists
    → CountsAre (without_node net n) (node_count net - 1) (arc_count net)
without_node-counts net n lists there =
    record { counted_nodes = omega (arith, without_node-fewer net n lists there); counted_arcs = refl }

pub with_arc-row : (net : Net) (a : ArcId) (row : Row) → a.id.place < capacity_of net.arcs
    → a.id.stamp ≡ net.arcs.counter
    → row_at (with_arc net a row) a ≡ Some row
with_arc-row net a row below stamp = find-put_own net.arcs a.id row below stamp

pub with_arc-others : (net : Net) (a : ArcId) (row : Row) → a.id.place < capacity_of net.arcs
    → held_at net.arcs a.id.place ≡ None
    → a.id.stamp ≡ net.arcs.counter → SameOtherRows net (with_arc net a row) a
with_arc-others net a row below free stamp b other =
    find-put_other net.arcs a.id b.id row below free stamp (arc-id a b other)

pub with_arc-counts : (net : Net) (a : ArcId) (row : Row) → a.id.place < capacity_of net.arcs
    → held_at net.arcs a.id.place ≡ None
    → CountsAre (with_arc net a row) (node_count net) (arc_count net + 1)
with_arc-counts net a row below free =
    record {
      counted_nodes =
          len_of-changed_at (linked_at_front Out a row.tail net.nodes) row.head.id.place (with_list In (λ ids. a ∷ ids))
          ∙ len_of-changed_at net.nodes row.tail.id.place (with_list Out (λ ids. a ∷ ids));
      counted_arcs = len_of-with_put net.arcs a.id.place row below free;
    }

pub without_row-others : (net : Net) (a : ArcId) (row : Row) → row_at net a ≡ Some row
    → SameOtherRows net (without_row net a row) a
without_row-others net a row there b other = find-without_other net.arcs a.id b.id row there (arc-id a b other)

pub without_row-gone : (net : Net) (a : ArcId) (row : Row) → row_at (without_row net a row) a ≡ None
without_row-gone net a row = find-without_own net.arcs a.id

pub without_row-fewer : (net : Net) (a : ArcId) (row : Row) → row_at net a ≡ Some row
    → (node_count (without_row net a row) ≡ node_count net) × (arc_count (without_row net a row) + 1 ≡ arc_count net)
without_row-fewer net a row there = (
  len_of-changed_at (unlinked Out a row.tail net.nodes) row.head.id.place (with_list In (without_arc a))
      ∙ len_of-changed_at net.nodes row.tail.id.place (with_list Out (without_arc a)),
  len_of-without net.arcs a.id row there,
)

pub without_row-counts : (net : Net) (a : ArcId) (row : Row) → row_at net a ≡ Some row
    → CountsAre (without_row net a row) (node_count net) (arc_count net - 1)
without_row-counts net a row there =
    let fewer = without_row-fewer net a row there in
    record { counted_nodes = fewer.0; counted_arcs = omega (arith, fewer.1) }

relisted-nodes : (nodes : Arena Lists) (f : Lists → Lists) (p : ℕ) (g : Lists → Lists) (q : ℕ) (id : Id)
    → IsSome (find (changed_at (changed_at nodes p f) q g) id) ↔ IsSome (find nodes id)
relisted-nodes nodes f p g q id = (
  λ after. found-before nodes p f id (found-before (changed_at nodes p f) q g id after),
  λ before. found-after (changed_at nodes p f) q g id (found-after nodes p f id before),
)

pub with_arc-nodes : (net : Net) (a : ArcId) (row : Row) → SameNodes net (with_arc net a row)
with_arc-nodes net a row n =
    relisted-nodes net.nodes (with_list Out (λ ids. a ∷ ids)) row.tail.id.place (with_list In (λ ids. a ∷ ids))
    row.head.id.place n.id

pub without_row-nodes : (net : Net) (a : ArcId) (row : Row) → SameNodes net (without_row net a row)
without_row-nodes net a row n =
    relisted-nodes net.nodes (with_list Out (without_arc a)) row.tail.id.place (with_list In (without_arc a))
    row.head.id.place n.id

pub with_head-nodes : (net : Net) (a : ArcId) (row : Row) (m : NodeId) → SameNodes net (with_head net a row m)
with_head-nodes net a row m n =
    relisted-nodes net.nodes (with_list In (without_arc a)) row.head.id.place (with_list In (λ ids. a ∷ ids)) m.id.place
    n.id

pub with_row-others : (net : Net) (a : ArcId) (row : Row) (f : Row → Row) → row_at net a ≡ Some row
    → SameOtherRows net (with_row net a f) a
with_row-others net a row f there b other = find-changed_other net.arcs a.id b.id row f there (arc-id a b other)

pub with_row-counts : (net : Net) (a : ArcId) (f : Row → Row)
    → CountsAre (with_row net a f) (node_count net) (arc_count net)
with_row-counts net a f = record { counted_nodes = refl; counted_arcs = len_of-changed_at net.arcs a.id.place f }

pub with_head-others : (net : Net) (a : ArcId) (row : Row) (n : NodeId) → row_at net a ≡ Some row
    → SameOtherRows net (with_head net a row n) a
with_head-others net a row n there b other =
    find-changed_other net.arcs a.id b.id row (λ old. record old { head = n }) there (arc-id a b other)

pub with_head-counts : (net : Net) (a : ArcId) (row : Row) (n : NodeId)
    → CountsAre (with_head net a row n) (node_count net) (arc_count net)
with_head-counts net a row n =
    record {
      counted_nodes =
          len_of-changed_at (unlinked In a row.head net.nodes) n.id.place (with_list In (λ ids. a ∷ ids))
          ∙ len_of-changed_at net.nodes row.head.id.place (with_list In (without_arc a));
      counted_arcs = len_of-changed_at net.arcs a.id.place (λ old. record old { head = n });
    }

pub without_flow-counts : (net : Net) → CountsAre (without_flow net) (node_count net) (arc_count net)
without_flow-counts net =
    record {
      counted_nodes = refl;
      counted_arcs = len_of-changed_all net.arcs (λ old. record old { low = 0; flow = 0 });
    }
