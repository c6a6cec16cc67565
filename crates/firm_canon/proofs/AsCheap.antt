-- Flows as cheap as the one that the net shows: those of placements, and what no attempt can do.
use Rattle.std.proofs.Common.{◌≡◌, ℕ, ◌*◌, ◌<◌, ◌≤◌, List, [], ◌∷◌, ◌++◌, length, Some, refl, sym, ap, subst, ◌∙◌}
use Rattle.std.proofs.Common.{arith}
use Rattle.std.specs.Prelude.{Contains}
use Rattle.std.specs.List.{All, sum_by}
use Rattle.std.proofs.lemmas.List.Elements.{All-contains}
use Rattle.firm_net.specs.Row.{Row}
use Rattle.firm_net.specs.Net.{row_at}
use Rattle.firm_net.specs.declared.row.ArcId.{ArcId}
use Rattle.firm_paths.specs.Network.{Arc, Tight}
use Rattle.firm_paths.specs.NetArcs.{arc_of}
use Rattle.firm_flow.specs.Flow.{IsWithinBounds, cost_of}
use Rattle.firm_flow.specs.Balance.{Balanced}
use Rattle.firm_rules.specs.declared.rounds.Choice.{Choice}
use Rattle.firm_rules.specs.Placement.{Case, IsLegal, placement_cost as cost}
use Rattle.firm_rules.specs.SlotCosts.{LoadsAreSumsOfSlots}
use Rattle.firm_graph.specs.declared.network.Node.{Node}
use Rattle.firm_graph.specs.declared.network.Node.TheVariants.{Sink}
use Rattle.firm_graph.specs.declared.network.Key.{Key}
use Rattle.firm_graph.specs.declared.network.Key.TheVariants.{Through, Slot, Exit, Wide, Stay, Wait, Prefer}
use Rattle.firm_graph.specs.Network.{arc, network, task_nodes, IsSound, IsKeyOf}
use Rattle.firm_graph.specs.View.{View, lows, flows, spot_of, named}
use Rattle.firm_canon.specs.inner.Placed.{placed}
use Rattle.firm_canon.specs.inner.Choosing.{low_of, Keeps, best, IsAsCheap, IsSpent}
use Rattle.firm_canon.proofs.Placed.{sum_network, cost_placed, balanced_placed}
use Rattle.firm_canon.proofs.Parts.{OnParts, parts, whole, within_placed}
use Rattle.firm_canon.proofs.First.{carried_sum, low-le}
use Rattle.firm_canon.proofs.Take.{lows_one}
use Rattle.firm_canon.proofs.Shown.{network_same, row_shown, arc_at, key_at, flow_at, listed_at}

-- the network with the lower bounds of the prefix is the one that the net shows
pub shown_is : (v : View) (price : ℕ → ℕ) (p : List Choice) → Keeps v price p
    → network v.case (lows v) (flows v) ≡ network v.case (low_of v.case p) (flows v)
shown_is v price p keeps = network_same v.case (lows v) (low_of v.case p) (flows v) (flows v) keeps.lows (λ k own. refl)

-- the bounds of a flow, asked of the arcs of another
abbrev pub Between : (Key → ℕ) → Arc Node Key → Type 0
Between g a = (a.low ≤ g a.key) × (g a.key ≤ a.cap)

abbrev pub Carries : Arc Node Key → Type 0
Carries a = (a.low ≤ a.flow) × (a.flow ≤ a.cap)

-- what holds of each arc with one flow, of the arc with another
flow_on : (P Q : Arc Node Key → Type 0) (c : Case) (low longer x y : Key → ℕ)
    → ((key : Key) (tail head : Node) (cap cost : ℕ) → P (arc low x key tail head cap cost)
    → Q (arc longer y key tail head cap cost))
    → All P (network c low x) → All Q (network c longer y)
flow_on P Q c low longer x y lift h =
    let at : OnParts P c low x = parts P c low x h in
    whole Q c longer y (record {
      through = λ j l. lift (Through j) _ _ _ _ (at.through j l);
      slot = λ j k l r. lift (Slot j k) _ _ _ _ (at.slot j k l r);
      exit = λ k l. lift (Exit k) _ _ _ _ (at.exit k l);
      wides = λ i l. lift (Wide i) _ _ _ _ (at.wides i l);
      stays = λ i l. lift (Stay i) _ _ _ _ (at.stays i l);
      delays = λ i l. lift (Wait i) _ _ _ _ (at.delays i l);
      prefers = λ i k l m. lift (Prefer i k) _ _ _ _ (at.prefers i k l m);
    })

-- a sum over what a flow carries does not ask on whose arcs
pub sum_of : (F : Node → Node → ℕ → ℕ → ℕ) (c : Case) (low x g : Key → ℕ)
    → sum_by (λ (a : Arc Node Key). F a.tail a.head a.cost (g a.key)) (network c low x)
    ≡ sum_by (λ (a : Arc Node Key). F a.tail a.head a.cost a.flow) (network c low g)
sum_of F c low x g =
    sum_network (λ (a : Arc Node Key). F a.tail a.head a.cost (g a.key)) c low x
    ∙ sym (sum_network (λ (a : Arc Node Key). F a.tail a.head a.cost a.flow) c low g)

-- the flow of a placement that goes on from the prefix
pub flow_placed : LoadsAreSumsOfSlots → (c : Case) (p r : List Choice) (most : ℕ) → IsSound c → IsLegal c (p ++ r)
    → cost c (p ++ r) ≤ most
    → IsAsCheap c p most (placed c (p ++ r))
flow_placed sums c p r most sound legal cheap =
    let low : Key → ℕ = low_of c p in
    let x : Key → ℕ = placed c (p ++ r) in
    record {
      within = flow_on (Between x) Carries c low low x x (λ key tail head cap cost between. between)
          (within_placed c (p ++ r) low x sound legal (low-le c p r));
      balanced = λ w. omega (
        arith,
        balanced_placed c (p ++ r) low x sound legal w,
        sum_of (λ tail head cost flow. w head * flow) c low x x,
        sum_of (λ tail head cost flow. w tail * flow) c low x x,
      );
      cheap = omega (
        arith,
        cheap,
        cost_placed sums c (p ++ r) low x legal,
        sum_of (λ tail head cost flow. cost * flow) c low x x,
      );
    }

-- what is spent stays so as the prefix grows
pub spent_longer : (c : Case) (p : List Choice) (o : Choice) (most : ℕ) (key : Key) → length p < length c.tasks
    → IsSpent c p most key → IsSpent c (p ++ o ∷ []) most key
spent_longer c p o most key l spent x flow =
    let low : Key → ℕ = low_of c p in
    let longer : Key → ℕ = low_of c (p ++ o ∷ []) in
    omega (
      arith,
      lows_one c p o key l,
      spent x (record {
        within = flow_on Carries Carries c longer low x x
            (λ k tail head cap cost is. (omega (arith, lows_one c p o k l, is.0), is.1)) flow.within;
        balanced = λ w. omega (
          arith,
          flow.balanced w,
          carried_sum (λ tail head cost flow. w head * flow) c longer low x,
          carried_sum (λ tail head cost flow. w tail * flow) c longer low x,
        );
        cheap = omega (arith, flow.cheap, carried_sum (λ tail head cost flow. cost * flow) c longer low x);
      }),
    )

-- and carries no more than is held
pub spent_few : (v : View) (price : ℕ → ℕ) (p : List Choice) (key : Key) → Keeps v price p
    → IsSpent v.case p (best v p) key → flows v key ≤ low_of v.case p key
spent_few v price p key keeps spent =
    spent (flows v) (record { within = keeps.stands.within; balanced = keeps.stands.balanced; cheap = omega arith })

-- such a flow on the arcs that the net shows
pub record IsOther (v : View) (p : List Choice) (g : Key → ℕ) : Type 0 where
  pub within : IsWithinBounds (network v.case (low_of v.case p) (flows v)) (λ a. g a.key)
  pub balanced : Balanced (network v.case (low_of v.case p) (flows v)) (task_nodes v.case) Sink (λ a. g a.key)
  pub cheap : cost_of (network v.case (low_of v.case p) (flows v)) (λ a. g a.key) ≤ best v p

pub as_other : (v : View) (p : List Choice) (g : Key → ℕ) → IsAsCheap v.case p (best v p) g → IsOther v p g
as_other v p g flow =
    let c : Case = v.case in
    let low : Key → ℕ = low_of c p in
    let x : Key → ℕ = flows v in
    record {
      within = flow_on Carries (Between g) c low low g x (λ key tail head cap cost between. between) flow.within;
      balanced = λ w. omega (
        arith,
        flow.balanced w,
        sum_of (λ tail head cost flow. w head * flow) c low x g,
        sum_of (λ tail head cost flow. w tail * flow) c low x g,
      );
      cheap = omega (arith, flow.cheap, sum_of (λ tail head cost flow. cost * flow) c low x g);
    }

-- the row of a key
pub record IsRowOfKey (v : View) (p : List Choice) (key : Key) : Type 0 where
  pub row : Row
  pub there : row_at v.net (v.arc key) ≡ Some row
  pub is : named v (arc_at v.case (low_of v.case p) (flows v) key) ≡ arc_of (v.arc key) row

pub row_of_key : (v : View) (price : ℕ → ℕ) (p : List Choice) (key : Key) → Keeps v price p → IsKeyOf v.case key
    → IsRowOfKey v p key
row_of_key v price p key keeps own =
    let c : Case = v.case in
    let low : Key → ℕ = low_of c p in
    let x : Key → ℕ = flows v in
    let a : Arc Node Key = arc_at c low x key in
    let row = row_shown v keeps.shows keeps.laws.rows a
    (subst (λ (z : List (Arc Node Key)). Contains z a) (sym (shown_is v price p keeps)) (listed_at c low x key own)) in
    let id : v.arc a.key ≡ v.arc key = ap v.arc (key_at c low x key) in
    record {
      row = row.row;
      there = subst (λ (i : ArcId). row_at v.net i ≡ Some row.row) id row.there;
      is = row.is ∙ ap (λ (i : ArcId). arc_of i row.row) id;
    }

-- what flows where the reduced cost is not 0 flows in each flow as cheap
pub loose_same : (v : View) (price : ℕ → ℕ) (p : List Choice) (g : Key → ℕ) (key : Key) → Keeps v price p
    → IsKeyOf v.case key
    → (Tight (λ n. price (spot_of v n)) (arc_at v.case (low_of v.case p) (flows v) key) → ⊥)
    → IsAsCheap v.case p (best v p) g
    → g key ≡ flows v key
loose_same v price p g key keeps own loose flow =
    let c : Case = v.case in
    let low : Key → ℕ = low_of c p in
    let x : Key → ℕ = flows v in
    let cost_at : Node → ℕ = λ (m : Node). price (spot_of v m) in
    let other : IsOther v p g = as_other v p g flow in
    let same : g (arc_at c low x key).key ≡ (arc_at c low x key).flow =
    All-contains (λ (b : Arc Node Key). (Tight cost_at b → ⊥) → g b.key ≡ b.flow) (network c low x) (arc_at c low x key)
    (keeps.laws.same (network c low x) (task_nodes c) Sink cost_at (λ (b : Arc Node Key). g b.key)
    keeps.stands.valid keeps.stands.balanced other.within other.balanced other.cheap)
    (listed_at c low x key own) loose in
    ap g (sym (key_at c low x key)) ∙ (same ∙ flow_at c low x key)
