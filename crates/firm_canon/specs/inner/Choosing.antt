-- Invariant of the choice of a round's placement. No public clause cites this module.
use Rattle.std.specs.Prelude.{◌≡◌, ℕ, ◌+◌, ◌<◌, ◌≤◌, Bool, true, false, List, ◌++◌, ◌∷◌, length, All, Some}
use Rattle.std.specs.Prelude.{cond, eqb}
use Rattle.firm_rules.specs.declared.rounds.Choice.{Choice}
use Rattle.firm_rules.specs.declared.rounds.Choice.TheVariants.{On}
use Rattle.firm_rules.specs.Placement.{Case, rank}
use Rattle.firm_paths.specs.Network.{Arc, AreValid, Tight, StaysInside}
use Rattle.firm_flow.specs.Flow.{IsWithinBounds, cost_of, carried}
use Rattle.firm_flow.specs.Balance.{Balanced}
use Rattle.firm_graph.specs.declared.network.Node.{Node}
use Rattle.firm_graph.specs.declared.network.Node.TheVariants.{Sink}
use Rattle.firm_graph.specs.declared.network.Key.{Key}
use Rattle.firm_graph.specs.declared.network.Key.TheVariants.{Through, Slot, Exit, Wide, Stay, Wait, Prefer}
use Rattle.firm_graph.specs.Network.{network, task_nodes, demand, preferred_at}
use Rattle.firm_rules.specs.Placement.{IsLegal, IsPlace, placement_cost as cost, comes_before as before}
use Rattle.firm_graph.specs.View.{View, Shows, lows, flows, spot_of}
use Rattle.firm_graph.specs.Network.{IsKeyOf}
use Rattle.firm_canon.specs.inner.Laws.{ChoiceLaws}
use Rattle.firm_canon.specs.inner.Placed.{pick, wide, stay, waits, prefer, spot, wide_at, stay_at, prefer_at}
use Rattle.firm_canon.specs.inner.Placed.{number, guests}

-- what the chosen prefix holds of the arcs
abbrev pub low_of : Case → List Choice → Key → ℕ
low_of c p (Through j) = guests c p j
low_of c p (Slot j k) = 0
low_of c p (Exit k) = 0
low_of c p (Wide i) = wide_at c p i
low_of c p (Stay i) = stay_at c p i
low_of c p (Wait i) = waits (pick p i)
low_of c p (Prefer i k) = prefer_at c p i k

-- what the loop keeps, with the prefix `p` chosen, `x` on the arcs and `price` at the nodes
pub record Stands (c : Case) (p : List Choice) (x : Key → ℕ) (price : Node → ℕ) : Type 0 where
  pub valid : AreValid (network c (low_of c p) x) price
  pub within : IsWithinBounds (network c (low_of c p) x) carried
  pub balanced : Balanced (network c (low_of c p) x) (task_nodes c) Sink carried
  pub places : All (IsPlace (length c.slots)) p
  pub least : (q : List Choice) → IsLegal c q → cost_of (network c (low_of c p) x) carried ≤ cost c q
  pub first : (q : List Choice) → IsLegal c q → cost c q ≤ cost_of (network c (low_of c p) x) carried
      → before (length c.slots) c.tasks q p ≡ false

-- no least placement goes on by this choice
abbrev pub Barred : Case → List Choice → ℕ → Choice → Type 0
Barred c p best b = (r : List Choice) → IsLegal c (p ++ b ∷ r) → cost c (p ++ b ∷ r) ≤ best → ⊥

-- what the flow on the net costs
abbrev pub best : View → List Choice → ℕ
best v p = cost_of (network v.case (low_of v.case p) (flows v)) carried

-- the net shows a least flow whose lower bounds hold the chosen prefix, no job's arc can be full, and the laws that the
-- next step rests on are at hand
pub record Keeps (v : View) (price : ℕ → ℕ) (p : List Choice) : Type 0 where
  pub laws : ChoiceLaws
  pub roomy : length v.case.tasks < v.case.limit
  pub shows : Shows v
  pub lows : (k : Key) → IsKeyOf v.case k → lows v k ≡ low_of v.case p k
  pub stands : Stands v.case p (flows v) (λ n. price (spot_of v n))

-- no least placement goes on by machine `j`
pub record Shut (v : View) (p : List Choice) (j : ℕ) : Type 0 where
  pub barred : Barred v.case p (best v p) (On j)

-- what the next choice asks of the flow
pub record HasRoom (c : Case) (p : List Choice) (o : Choice) (x : Key → ℕ) : Type 0 where
  pub at_wide : wide (demand c (length p)) (Some o) ≤ x (Wide (length p))
  pub at_stay : stay (demand c (length p)).home (Some o) ≤ x (Stay (length p))
  pub at_delay : waits (Some o) ≤ x (Wait (length p))
  pub at_prefer : (k : ℕ) → k < length (demand c (length p)).preferred
      → prefer (demand c (length p)) k (Some o) ≤ x (Prefer (length p) k)
  pub at_through : (j : ℕ) → j < length c.slots
      → guests c p j + cond (eqb (spot (Some o)) j) (wide (demand c (length p)) (Some o)) 0 ≤ x (Through j)

-- the flow has room for the choice, and no least placement goes on by a choice that ranks before it
pub record IsChosen (v : View) (p : List Choice) (o : Choice) : Type 0 where
  pub place : IsPlace (length v.case.slots) o
  pub room : HasRoom v.case p o (flows v)
  pub first : (b : Choice) → IsPlace (length v.case.slots) b
      → rank (length v.case.slots) (demand v.case (length p)).home b
      < rank (length v.case.slots) (demand v.case (length p)).home o
      → Barred v.case p (best v p) b

-- which of its preferences brings the next task to the machine
abbrev pub next_number : Case → List Choice → ℕ → ℕ
next_number c p j = number (demand c (length p)) (Some (On j))

-- a flow that does what the prefix holds, from the tasks to the sink, at no more than this cost
pub record IsAsCheap (c : Case) (p : List Choice) (most : ℕ) (x : Key → ℕ) : Type 0 where
  pub within : IsWithinBounds (network c (low_of c p) x) carried
  pub balanced : Balanced (network c (low_of c p) x) (task_nodes c) Sink carried
  pub cheap : cost_of (network c (low_of c p) x) carried ≤ most

-- no flow as cheap that goes on from the prefix carries more on the arc of the key than the prefix holds
abbrev pub IsSpent : Case → List Choice → ℕ → Key → Type 0
IsSpent c p most key = (x : Key → ℕ) → IsAsCheap c p most x → x key ≤ low_of c p key

-- machine `j` has no unit that the next task could follow there: none by its preference, or, if the task's unit is at
-- the hub, none by the hub beyond those held
pub record IsBare (v : View) (p : List Choice) (at_hub : Bool) (j : ℕ) : Type 0 where
  pub near : at_hub ≡ false → (k : ℕ) → k < length (demand v.case (length p)).preferred
      → preferred_at v.case (length p) k ≡ j → flows v (Prefer (length p) k) ≡ 0
  pub far : at_hub ≡ true → flows v (Through j) ≤ guests v.case p j

-- nor does any least placement go on by it
pub record IsPassed (v : View) (p : List Choice) (at_hub : Bool) (j : ℕ) : Type 0 where
  pub bare : IsBare v p at_hub j
  pub shut : Shut v p j

-- in neither direction does the arc lead out of the set at no cost
abbrev pub StaysAtNoCost : (Node → ℕ) → (Node → Bool) → Arc Node Key → Type 0
StaysAtNoCost price inside a = Tight price a → StaysInside inside a
