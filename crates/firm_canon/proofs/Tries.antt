-- Properties that a turn preserves.
use Rattle.std.proofs.Common.{◌≡◌, ℕ, ◌*◌, List, [], ◌∷◌, ◌++◌, refl, sym, ap, subst, ◌∙◌, arith}
use Rattle.std.specs.Prelude.{map}
use Rattle.firm_net.specs.Net.{Net, IsArc, row_at}
use Rattle.firm_net.specs.declared.row.NodeId.{NodeId}
use Rattle.firm_net.specs.declared.row.ArcId.{ArcId}
use Rattle.firm_paths.specs.Network.{Arc, AreValid}
use Rattle.firm_paths.specs.NetArcs.{arcs_of}
use Rattle.firm_flow.specs.Flow.{IsWithinBounds, cost_of, carried}
use Rattle.firm_flow.specs.Balance.{Balanced}
use Rattle.firm_rules.specs.declared.rounds.Choice.{Choice}
use Rattle.firm_rules.specs.Placement.{Case}
use Rattle.firm_graph.specs.declared.network.Node.{Node}
use Rattle.firm_graph.specs.declared.network.Node.TheVariants.{Sink}
use Rattle.firm_graph.specs.declared.network.Key.{Key}
use Rattle.firm_graph.specs.Network.{network, task_nodes, IsKeyOf}
use Rattle.firm_graph.specs.View.{View, Shows, IsSameCase, lows, flows, spot_of, low_of_row, flow_of_row}
use Rattle.firm_canon.specs.inner.Turns.{IsWhole, Turned}
use Rattle.firm_canon.specs.inner.Choosing.{low_of, Keeps, best}
use Rattle.firm_canon.proofs.AsCheap.{shown_is}
use Rattle.firm_canon.proofs.First.{carried_sum}
use Rattle.firm_canon.proofs.Heads.{there_key}
use Rattle.firm_canon.proofs.Shown.{network_same, cost_shown, whole_keyed, whole_net}

pub view_is : (old new : View) → IsSameCase old new → new ≡ record old { net = new.net }
view_is old new same =
    ap (λ (c : Case). let v : View = record { case = c; net = new.net; node = new.node; arc = new.arc } in v) same.case
    ∙ (ap (λ (n : Node → NodeId). let v : View = record
    { case = old.case; net = new.net; node = n; arc = new.arc } in v) same.node
    ∙ ap (λ (a : Key → ArcId). let v : View = record { case = old.case; net = new.net; node = old.node; arc = a } in v)
    same.arc)

pub net_of : (v : View) (price : ℕ → ℕ) (p : List Choice) → Keeps v price p
    → IsWhole v.net price (map (spot_of v) (task_nodes v.case)) (spot_of v Sink)
net_of v price p keeps =
    let e = sym (shown_is v price p keeps) in
    whole_net v keeps.shows price
    (subst (λ (z : List (Arc Node Key)). AreValid z (λ n. price (spot_of v n))) e keeps.stands.valid)
    (subst (λ (z : List (Arc Node Key)). IsWithinBounds z carried) e keeps.stands.within)
    (subst (λ (z : List (Arc Node Key)). Balanced z (task_nodes v.case) Sink carried) e keeps.stands.balanced)

-- another net that shows the same case, is whole, costs as much and has the same lower bounds
pub keeps_on : (v : View) (net : Net) (price : ℕ → ℕ) (p : List Choice) → let new : View = record v { net = net } in
    Keeps v price p → Shows new → ((k : Key) → IsKeyOf v.case k → lows new k ≡ lows v k)
    → IsWhole net price (map (spot_of v) (task_nodes v.case)) (spot_of v Sink)
    → cost_of (arcs_of net) carried ≡ cost_of (arcs_of v.net) carried
    → Keeps new price p × (best new p ≡ best v p)
keeps_on v net price p keeps shows low whole same =
    let new : View = record v { net = net } in
    let c : Case = v.case in
    let on = whole_keyed new shows price whole in
    let lows_are : (k : Key) → IsKeyOf c k → lows new k ≡ low_of c p k = λ k own. low k own ∙ keeps.lows k own in
    let e : network c (lows new) (flows new) ≡ network c (low_of c p) (flows new) =
    network_same c (lows new) (low_of c p) (flows new) (flows new) lows_are (λ k own. refl) in
    let costs : best new p ≡ best v p =
    sym (ap (λ (z : List (Arc Node Key)). cost_of z carried) e)
    ∙ (sym (cost_shown new shows) ∙ (same
    ∙ (cost_shown v keeps.shows ∙ ap (λ (z : List (Arc Node Key)). cost_of z carried)
    (shown_is v price p keeps)))) in (
      record {
        laws = keeps.laws;
        roomy = keeps.roomy;
        shows = shows;
        lows = lows_are;
        stands = record {
          valid = subst (λ (z : List (Arc Node Key)). AreValid z (λ n. price (spot_of v n))) e on.0;
          within = subst (λ (z : List (Arc Node Key)). IsWithinBounds z carried) e on.1;
          balanced = subst (λ (z : List (Arc Node Key)). Balanced z (task_nodes c) Sink carried) e on.2;
          places = keeps.stands.places;
          least = λ q legal. omega (arith, costs, keeps.stands.least q legal);
          first = λ q legal cheap. keeps.stands.first q legal (omega (arith, costs, cheap));
        };
      },
      costs,
    )

-- A TURN keeps what the loop keeps
pub turned_keeps : (old new : View) (price : ℕ → ℕ) (p : List Choice) (arc : ArcId) → Keeps old price p → Shows new
    → IsSameCase old new → Turned old.net new.net price arc → Keeps new price p × (best new p ≡ best old p)
turned_keeps old new price p arc keeps shows same turn =
    let is : new ≡ record old { net = new.net } = view_is old new same in
    let whole = turn.whole (map (spot_of old) (task_nodes old.case)) (spot_of old Sink) (net_of old price p keeps) in
    subst (λ (v : View). Keeps v price p × (best v p ≡ best old p)) (sym is)
    (keeps_on old new.net price p keeps (subst Shows is shows) (λ k o. turn.lows (old.arc k)) whole.0 whole.1)

-- the arc of a key of the case is there
pub there_at : (v : View) (price : ℕ → ℕ) (p : List Choice) (key : Key) (id : ArcId) → Keeps v price p
    → IsKeyOf v.case key → id ≡ v.arc key → IsArc v.net id
there_at v price p key id keeps own is = there_key v keeps.shows keeps.laws.rows key id own is

-- what was read of the net is the flow, or the lower bound, of the key
pub flow_is : (v : View) (net : Net) (id : ArcId) (key : Key) (n : ℕ) → net ≡ v.net → id ≡ v.arc key
    → n ≡ flow_of_row (row_at net id) → n ≡ flows v key
flow_is v net id key n e f is = is ∙ (ap (λ (z : Net). flow_of_row (row_at z id)) e
    ∙ ap (λ (i : ArcId). flow_of_row (row_at v.net i)) f)

pub low_is : (v : View) (net : Net) (id : ArcId) (key : Key) (n : ℕ) → net ≡ v.net → id ≡ v.arc key
    → n ≡ low_of_row (row_at net id) → n ≡ lows v key
low_is v net id key n e f is = is ∙ (ap (λ (z : Net). low_of_row (row_at z id)) e
    ∙ ap (λ (i : ArcId). low_of_row (row_at v.net i)) f)

-- to hold a choice costs nothing
pub best_held : (old new : View) (p : List Choice) (o : Choice) → IsSameCase old new
    → ((b : ArcId) → flow_of_row (row_at new.net b) ≡ flow_of_row (row_at old.net b))
    → best new (p ++ o ∷ []) ≡ best old p
best_held old new p o same flows_same =
    let c : Case = old.case in
    let after : Key → ℕ = low_of c (p ++ o ∷ []) in
    let there : View = record old { net = new.net } in
    ap (λ (v : View). best v (p ++ o ∷ [])) (view_is old new same)
    ∙ (ap (λ (z : List (Arc Node Key)). cost_of z carried)
    (network_same c after after (flows there) (flows old) (λ k own. refl) (λ k own. flows_same (old.arc k)))
    ∙ carried_sum (λ tail head cost flow. cost * flow) c after (low_of c p) (flows old))
