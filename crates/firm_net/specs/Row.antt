-- The value of an `ArcRow` in contracts.
use Rattle.std.specs.Prelude.{◌≢◌, ℕ, ◌≤◌}
use Rattle.firm_net.specs.declared.row.NodeId.{NodeId}

-- an arc from tail to head, with its lower bound, its capacity, the cost of a unit, and its flow
pub record Row : Type 0 where
  pub tail : NodeId
  pub head : NodeId
  pub low : ℕ
  pub cap : ℕ
  pub cost : ℕ
  pub flow : ℕ

-- the ends differ, the flow is within its bounds, and capacity and cost are within theirs
pub record IsRow (r : Row) : Type 0 where
  pub ends : r.tail ≢ r.head
  pub low : r.low ≤ r.flow
  pub flow : r.flow ≤ r.cap
  pub cap : r.cap ≤ 4096
  pub cost : r.cost ≤ 3000000
