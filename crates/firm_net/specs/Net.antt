-- The value of a `Net` in contracts: a map of nodes, each with its lists of arcs, and a map of arcs.
use Rattle.std.specs.Prelude.{◌≡◌, ◌≢◌, ℕ, ◌+◌, ◌-◌, ◌<◌, ◌≤◌, ◌==◌, ◌&&◌, Bool, not, List, [], ◌∷◌, filter}
use Rattle.std.specs.Prelude.{Contains, Option, Some, None, IsSome}
use Rattle.firm_arena.specs.Arena.{Arena, find, capacity_of, len_of, vacant, with_put, without, IsBoundedMap}
pub use Rattle.firm_arena.specs.Arena.{changed_at, changed_all, slot_changed}
use Rattle.firm_net.specs.Row.{Row, IsRow}
use Rattle.firm_net.specs.declared.row.NodeId.{NodeId}
use Rattle.firm_net.specs.declared.row.ArcId.{ArcId}
use Rattle.firm_net.specs.declared.links.Side.{Side}
use Rattle.firm_net.specs.declared.links.Side.TheVariants.{Out, In}
use Rattle.firm_net.specs.declared.row.Way.{Way}
use Rattle.firm_net.specs.declared.row.Way.TheVariants.{Forward, Backward}

-- the arcs out of a node and into it, in the order of the walks
pub record Lists : Type 0 where
  pub outgoing : List ArcId
  pub incoming : List ArcId

-- the nodes with their lists, and the arcs with their rows
pub record Net : Type 0 where
  pub nodes : Arena Lists
  pub arcs : Arena Row

-- the arcs of one side of a node
abbrev pub side_list : Side → Lists → List ArcId
side_list Out lists = lists.outgoing
side_list In lists = lists.incoming

-- the node at whose side the arc is listed: an arc goes out of its tail and into its head
abbrev pub end_of : Side → Row → NodeId
end_of Out row = row.tail
end_of In row = row.head

-- the lists of a node
abbrev pub lists_at : Net → NodeId → Option Lists
lists_at net n = find net.nodes n.id

-- the row of an arc
abbrev pub row_at : Net → ArcId → Option Row
row_at net a = find net.arcs a.id

-- the node is there
abbrev pub IsNode : Net → NodeId → Type 0
IsNode net n = IsSome (lists_at net n)

-- the arc is there
abbrev pub IsArc : Net → ArcId → Type 0
IsArc net a = IsSome (row_at net a)

-- the arcs of one side, where the node is there
abbrev pub listed_in : Side → Option Lists → List ArcId
listed_in side None = []
listed_in side (Some lists) = side_list side lists

abbrev pub arcs_on : Side → Net → NodeId → List ArcId
arcs_on side net n = listed_in side (lists_at net n)

-- the arcs out of a node, in the order of the walk; none where it is not there
abbrev pub out_list : Net → NodeId → List ArcId
out_list = arcs_on Out

-- the arcs into a node, in the order of the walk; none where it is not there
abbrev pub in_list : Net → NodeId → List ArcId
in_list = arcs_on In

-- the place of a node, if the net has it
abbrev pub place_in : NodeId → Option Lists → Option ℕ
place_in n None = None
place_in n (Some _) = Some n.id.place

abbrev pub place_of : Net → NodeId → Option ℕ
place_of net n = place_in n (lists_at net n)

-- how many nodes and arcs were ever added
abbrev pub added_of : Net → ℕ
added_of net = net.nodes.counter + net.arcs.counter

-- how many nodes, and how many arcs, are there
abbrev pub node_count : Net → ℕ
node_count net = len_of net.nodes

abbrev pub arc_count : Net → ℕ
arc_count net = len_of net.arcs

-- the net has these numbers of nodes and arcs
pub record CountsAre (net : Net) (nodes arcs : ℕ) : Type 0 where
  pub counted_nodes : len_of net.nodes ≡ nodes
  pub counted_arcs : len_of net.arcs ≡ arcs

-- no arc stands twice in the list
abbrev pub EachOnce : List ArcId → Type 0
EachOnce [] = Unit {0}
EachOnce (a ∷ rest) = (Contains rest a → ⊥) × EachOnce rest

-- the lists of one side: each arc stands, once, in the list of its end, and nothing else stands there
pub record IsListed (side : Side) (net : Net) : Type 0 where
  pub once : (n : NodeId) → EachOnce (arcs_on side net n)
  pub arcs : (n : NodeId) (a : ArcId) → Contains (arcs_on side net n) a
      → (row : Row) × (row_at net a ≡ Some row) × (end_of side row ≡ n)
  pub all : (a : ArcId) (row : Row) → row_at net a ≡ Some row
      → Contains (arcs_on side net (end_of side row)) a

-- what every net keeps: two bounded maps, rows in range whose ends are nodes, and lists that are the nodes' arcs
pub record IsNet (net : Net) : Type 0 where
  pub rows : (a : ArcId) (row : Row) → row_at net a ≡ Some row → IsRow row
  pub tails : (a : ArcId) (row : Row) → row_at net a ≡ Some row → IsNode net row.tail
  pub heads : (a : ArcId) (row : Row) → row_at net a ≡ Some row → IsNode net row.head
  pub outgoing : IsListed Out net
  pub incoming : IsListed In net
  pub node_limit : capacity_of net.nodes ≤ 4096
  pub arc_limit : capacity_of net.arcs ≤ 65536
  pub node_map : IsBoundedMap net.nodes
  pub arc_map : IsBoundedMap net.arcs

-- a net without nodes and arcs, with room for these numbers of them
abbrev pub empty_net : ℕ → ℕ → Net
empty_net nodes arcs = record { nodes = vacant nodes 0; arcs = vacant arcs 0 }

-- whether two ids name one arc
abbrev pub same_arc : ArcId → ArcId → Bool
same_arc a b = (a.id.place == b.id.place) && (a.id.stamp == b.id.stamp)

-- the list without an arc
abbrev pub without_arc : ArcId → List ArcId → List ArcId
without_arc a ids = filter (λ b. not (same_arc a b)) ids

-- one of the two lists changed
abbrev pub with_list : Side → (List ArcId → List ArcId) → Lists → Lists
with_list Out f lists = record { outgoing = f lists.outgoing; incoming = lists.incoming }
with_list In f lists = record { outgoing = lists.outgoing; incoming = f lists.incoming }

-- the arc stands first in the node's list
abbrev pub linked_at_front : Side → ArcId → NodeId → Arena Lists → Arena Lists
linked_at_front side a n nodes = changed_at nodes n.id.place (with_list side (λ ids. a ∷ ids))

-- the arc stands no more in the node's list
abbrev pub unlinked : Side → ArcId → NodeId → Arena Lists → Arena Lists
unlinked side a n nodes = changed_at nodes n.id.place (with_list side (without_arc a))

-- a node without arcs is added
abbrev pub with_node : Net → ℕ → Net
with_node net place =
    record { nodes = with_put net.nodes place (record { outgoing = []; incoming = [] }); arcs = net.arcs }

-- a node is removed
abbrev pub without_node : Net → NodeId → Net
without_node net n = record { nodes = without net.nodes n.id.place; arcs = net.arcs }

-- an arc is added, the first in the lists of its ends
abbrev pub with_arc : Net → ArcId → Row → Net
with_arc net a row =
    record {
      nodes = linked_at_front In a row.head (linked_at_front Out a row.tail net.nodes);
      arcs = with_put net.arcs a.id.place row;
    }

-- an arc is removed, the others keep their order
abbrev pub without_row : Net → ArcId → Row → Net
without_row net a row =
    record {
      nodes = unlinked In a row.head (unlinked Out a row.tail net.nodes);
      arcs = without net.arcs a.id.place;
    }

-- the row of an arc changed
abbrev pub with_row : Net → ArcId → (Row → Row) → Net
with_row net a f = record { nodes = net.nodes; arcs = changed_at net.arcs a.id.place f }

-- the arc's head moved to another node, in whose list of arcs in it stands first
abbrev pub with_head : Net → ArcId → Row → NodeId → Net
with_head net a row n =
    record {
      nodes = linked_at_front In a n (unlinked In a row.head net.nodes);
      arcs = changed_at net.arcs a.id.place (λ old. record old { head = n });
    }

-- low and flow of every arc are 0
abbrev pub without_flow : Net → Net
without_flow net =
    record { nodes = net.nodes; arcs = changed_all net.arcs (λ old. record old { low = 0; flow = 0 }) }

-- the row with these four numbers
abbrev pub with_numbers : ℕ → ℕ → ℕ → ℕ → Row → Row
with_numbers low cap cost flow row =
    record { tail = row.tail; head = row.head; low = low; cap = cap; cost = cost; flow = flow }

-- the residual network: an arc is read forward where flow < cap, and backward where flow > low
abbrev pub IsResidual : Way → Row → Type 0
IsResidual Forward row = row.flow < row.cap
IsResidual Backward row = row.low < row.flow

-- the arc is there, and residual this way
abbrev pub CanPush : Way → Option Row → Type 0
CanPush way None = ⊥
CanPush way (Some row) = IsResidual way row

-- the arc is there, and does not leave this node
abbrev pub HasOtherTail : Option Row → NodeId → Type 0
HasOtherTail None n = ⊥
HasOtherTail (Some row) n = row.tail ≢ n

-- the ranges of an arc's numbers
pub record AreInRange (low cap cost flow : ℕ) : Type 0 where
  pub above_low : low ≤ flow
  pub below_cap : flow ≤ cap
  pub cap_limit : cap ≤ 4096
  pub cost_limit : cost ≤ 3000000

-- one unit more along the arc, or one less
abbrev pub with_unit : Way → Row → Row
with_unit Forward row = record row { flow = row.flow + 1 }
with_unit Backward row = record row { flow = row.flow - 1 }

-- every other arc has the row that it had
abbrev pub SameOtherRows : Net → Net → ArcId → Type 0
SameOtherRows old new a = (b : ArcId) → b ≢ a → row_at new b ≡ row_at old b

-- every other node has the lists that it had
abbrev pub SameOtherNodes : Net → Net → NodeId → Type 0
SameOtherNodes old new n = (m : NodeId) → m ≢ n → lists_at new m ≡ lists_at old m

-- the arcs of a list, each with its row
abbrev pub with_its_row : Net → ArcId → Option Row → List (ArcId × Row) → List (ArcId × Row)
with_its_row net a None rest = rest
with_its_row net a (Some row) rest = (a, row) ∷ rest

abbrev pub rows_of : Net → List ArcId → List (ArcId × Row)
rows_of net [] = []
rows_of net (a ∷ rest) = with_its_row net a (row_at net a) (rows_of net rest)
