-- What a net shows under some ids: the network of a case.
use Rattle.std.specs.Prelude.{◌≡◌, ℕ, ◌<◌, ◌≤◌, map, Option, Some, None, length}
use Rattle.std.specs.List.Sorted.{IsPermutation}
use Rattle.firm_net.specs.Row.{Row}
use Rattle.firm_net.specs.Net.{Net, IsNet, IsNode, row_at}
use Rattle.firm_net.specs.declared.row.NodeId.{NodeId}
use Rattle.firm_net.specs.declared.row.ArcId.{ArcId}
use Rattle.firm_paths.specs.Network.{Arc}
use Rattle.firm_paths.specs.NetArcs.{arcs_of}
use Rattle.firm_rules.specs.Placement.{Case}
use Rattle.firm_graph.specs.declared.network.Node.{Node}
use Rattle.firm_graph.specs.declared.network.Key.{Key}
use Rattle.firm_graph.specs.Network.{network, demand, stay_head, preferred_at, IsNodeOf, IsKeyOf}
use Rattle.firm_graph.specs.Network.{IsSound}

-- a case, a net, and the net's ids of the nodes and arcs of the network of the case
pub record View : Type 0 where
  pub case : Case
  pub net : Net
  pub node : Node → NodeId
  pub arc : Key → ArcId

-- the lower bound of an arc that is there; 0 where it is not
abbrev pub low_of_row : Option Row → ℕ
low_of_row None = 0
low_of_row (Some row) = row.low

-- the flow of an arc that is there; 0 where it is not
abbrev pub flow_of_row : Option Row → ℕ
flow_of_row None = 0
flow_of_row (Some row) = row.flow

-- the lower bounds and the flows that the net gives the arcs of the network
abbrev pub lows : View → Key → ℕ
lows v key = low_of_row (row_at v.net (v.arc key))

abbrev pub flows : View → Key → ℕ
flows v key = flow_of_row (row_at v.net (v.arc key))

-- the place in the net of a node of the network
abbrev pub spot_of : View → Node → ℕ
spot_of v node = (v.node node).id.place

-- an arc of the network under the net's ids
abbrev pub named : View → Arc Node Key → Arc ℕ ArcId
named v a =
    record {
      key = v.arc a.key;
      tail = spot_of v a.tail;
      head = spot_of v a.head;
      low = a.low;
      cap = a.cap;
      cost = a.cost;
      flow = a.flow;
    }

-- the net's nodes and arcs are those of the network and no others, each arc once, different nodes and arcs have
-- different ids, the case is sound, and the machine that a task runs on is there, and so are those that it prefers
pub record Shows (v : View) : Type 0 where
  pub net : IsNet v.net
  pub arcs : IsPermutation (arcs_of v.net) (map (named v) (network v.case (lows v) (flows v)))
  pub nodes : (n : Node) → IsNodeOf v.case n → IsNode v.net (v.node n)
  pub only : (id : NodeId) → IsNode v.net id → (n : Node) × IsNodeOf v.case n × (v.node n ≡ id)
  pub role : ℕ → Node
  pub role_is : (n : Node) → IsNodeOf v.case n → role (spot_of v n) ≡ n
  pub arcs_apart : (a b : Key) → IsKeyOf v.case a → IsKeyOf v.case b → v.arc a ≡ v.arc b → a ≡ b
  pub sound : IsSound v.case
  pub homes : (i : ℕ) → i < length v.case.tasks → IsNodeOf v.case (stay_head (demand v.case i).home)
  pub preferred : (i k : ℕ) → i < length v.case.tasks → k < length (demand v.case i).preferred
      → preferred_at v.case i k < length v.case.slots

-- the net's arcs are those of the network, each once, and none has a lower bound or flow
abbrev pub IsAtRest : View → Type 0
IsAtRest v = IsPermutation (arcs_of v.net) (map (named v) (network v.case (λ _. 0) (λ _. 0)))

-- the same case under the same ids
pub record IsSameCase (old new : View) : Type 0 where
  pub case : new.case ≡ old.case
  pub node : new.node ≡ old.node
  pub arc : new.arc ≡ old.arc

-- the arc is there, and so much flows along it
abbrev pub CanHold : ℕ → Option Row → Type 0
CanHold low None = ⊥
CanHold low (Some row) = low ≤ row.flow

-- the row with another lower bound
abbrev pub with_low : ℕ → Row → Row
with_low low row = record row { low = low }
