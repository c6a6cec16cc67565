-- The longer prefix is preserved.
use Rattle.std.proofs.Common.{◌≡◌, ℕ, ◌+◌, ◌<◌, List, [], ◌∷◌, ◌++◌, length, refl, sym, ap, subst, arith}
use Rattle.firm_paths.specs.Network.{Arc, AreValid}
use Rattle.firm_flow.specs.Flow.{IsWithinBounds, cost_of, carried}
use Rattle.firm_flow.specs.Balance.{Balanced}
use Rattle.firm_rules.specs.declared.rounds.Choice.{Choice}
use Rattle.firm_rules.specs.Placement.{Case}
use Rattle.firm_graph.specs.declared.network.Node.{Node}
use Rattle.firm_graph.specs.declared.network.Node.TheVariants.{Sink}
use Rattle.firm_graph.specs.declared.network.Key.{Key}
use Rattle.firm_graph.specs.Network.{network, task_nodes, IsKeyOf}
use Rattle.firm_graph.specs.View.{View, Shows, IsSameCase, lows, flows, spot_of}
use Rattle.firm_canon.specs.inner.Choosing.{low_of, Stands, Keeps, IsChosen}
use Rattle.firm_canon.proofs.Take.{added, lows_one, take_choice}
use Rattle.firm_canon.proofs.Shown.{network_same}
use Rattle.firm_canon.proofs.Tries.{view_is}

-- once the lower bounds hold the choice, the longer prefix is preserved
pub kept_one : (v new : View) (price : ℕ → ℕ) (p : List Choice) (o : Choice) → Keeps v price p
    → length p < length v.case.tasks → IsChosen v p o
    → Shows new → IsSameCase v new → ((k : Key) → IsKeyOf v.case k → flows new k ≡ flows v k)
    → ((k : Key) → IsKeyOf v.case k → lows new k ≡ lows v k + added v.case p o k)
    → Keeps new price (p ++ o ∷ [])
kept_one v new price p o keeps l chosen shows same flow low =
    let there : View = record v { net = new.net } in
    let is : new ≡ there = view_is v new same in
    let flow' : (k : Key) → IsKeyOf v.case k → flows there k ≡ flows v k =
    subst (λ (z : View). (k : Key) → IsKeyOf v.case k → flows z k ≡ flows v k) is flow in
    let low' : (k : Key) → IsKeyOf v.case k → lows there k ≡ lows v k + added v.case p o k =
    subst (λ (z : View). (k : Key) → IsKeyOf v.case k → lows z k ≡ lows v k + added v.case p o k) is low in
    let c : Case = v.case in
    let old : Stands c (p ++ o ∷ []) (flows v) (λ n. price (spot_of v n)) =
    take_choice c p o (flows v) (λ n. price (spot_of v n)) keeps.stands l chosen.place chosen.room chosen.first in
    let e : network c (low_of c (p ++ o ∷ [])) (flows v) ≡ network c (low_of c (p ++ o ∷ [])) (flows there) =
    network_same c (low_of c (p ++ o ∷ [])) (low_of c (p ++ o ∷ [])) (flows v) (flows there) (λ k own. refl)
    (λ k own. sym (flow' k own)) in
    let costs : cost_of (network c (low_of c (p ++ o ∷ [])) (flows v)) carried
    ≡ cost_of (network c (low_of c (p ++ o ∷ [])) (flows there)) carried =
    ap (λ (z : List (Arc Node Key)). cost_of z carried) e in
    let made : Keeps there price (p ++ o ∷ []) = record {
      laws = keeps.laws;
      roomy = keeps.roomy;
      shows = subst Shows is shows;
      lows = λ k own. omega (arith, low' k own, keeps.lows k own, lows_one c p o k l);
      stands = record {
        valid = subst (λ (z : List (Arc Node Key)). AreValid z (λ n. price (spot_of v n))) e old.valid;
        within = subst (λ (z : List (Arc Node Key)). IsWithinBounds z carried) e old.within;
        balanced = subst (λ (z : List (Arc Node Key)). Balanced z (task_nodes c) Sink carried) e old.balanced;
        places = old.places;
        least = λ q legal. omega (arith, costs, old.least q legal);
        first = λ q legal cheap. old.first q legal (omega (arith, costs, cheap));
      };
    } in
    subst (λ (z : View). Keeps z price (p ++ o ∷ [])) (sym is) made
