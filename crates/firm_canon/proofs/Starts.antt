-- The start of the choice, and its end.
use Rattle.std.proofs.Common.{◌≡◌, ◌<◌, ℕ, cond, eqb, List, [], length, None, refl, sym, ap, subst, ◌∙◌}
use Rattle.std.specs.Prelude.{map}
use Rattle.std.specs.List.{All}
use Rattle.std.proofs.lemmas.List.Elements.{All-contains}
use Rattle.firm_net.specs.declared.row.ArcId.{ArcId}
use Rattle.firm_paths.specs.Network.{Arc, AreValid}
use Rattle.firm_paths.specs.NetArcs.{arcs_of}
use Rattle.firm_flow.specs.Flow.{IsWithinBounds, carried}
use Rattle.firm_flow.specs.Balance.{Balanced}
use Rattle.firm_flow.specs.NetFlow.{IsLeastFlow}
use Rattle.firm_flow.specs.Laws.{ConservedWhereBalanced}
use Rattle.firm_canon.specs.inner.Laws.{ChoiceLaws}
use Rattle.firm_rules.specs.declared.rounds.Choice.{Choice}
use Rattle.firm_rules.specs.Placement.{Case}
use Rattle.firm_rules.specs.Round.{round_placement, TheRoundIsTheFirst}
use Rattle.firm_graph.specs.declared.network.Node.{Node}
use Rattle.firm_graph.specs.declared.network.Node.TheVariants.{Sink}
use Rattle.firm_graph.specs.declared.network.Key.{Key}
use Rattle.firm_graph.specs.declared.network.Key.TheVariants.{Through, Slot, Exit, Wide, Stay, Wait, Prefer}
use Rattle.firm_graph.specs.Network.{network, demand, task_nodes, IsKeyOf}
use Rattle.firm_canon.specs.inner.Placed.{wide}
use Rattle.firm_graph.specs.View.{View, Shows, IsSameCase, lows, flows, spot_of}
use Rattle.firm_canon.specs.inner.Turns.{IsWhole}
use Rattle.firm_canon.specs.inner.Choosing.{low_of, Keeps}
use Rattle.firm_canon.proofs.Totals.{total_zero}
use Rattle.firm_canon.proofs.Nears.{prefer_none, stay_none}
use Rattle.firm_canon.proofs.First.{start, finish, guest_none, wide_none}
use Rattle.firm_canon.proofs.Shown.{network_same, whole_keyed, to_keyed, arc_at, listed_at, low_at}

-- nothing is held at the start
none_held : (c : Case) (k : Key) → low_of c [] k ≡ 0
none_held c (Through j) = total_zero (λ (i : ℕ). cond (eqb 0 j) (wide (demand c i) None) 0) (length c.tasks)
    (λ i l. guest_none c j i)
none_held c (Slot j k) = refl
none_held c (Exit k) = refl
none_held c (Wide i) = wide_none (demand c i)
none_held c (Stay i) = stay_none (demand c i).home
none_held c (Wait i) = refl
none_held c (Prefer i k) = prefer_none (demand c i) k

pub starts : ChoiceLaws → ConservedWhereBalanced → (v : View) (price : ℕ → ℕ) → Shows v
    → length v.case.tasks < v.case.limit
    → All (λ (a : Arc ℕ ArcId). a.low ≡ 0) (arcs_of v.net)
    → IsLeastFlow v.net (map (spot_of v) (task_nodes v.case)) (spot_of v Sink) → AreValid (arcs_of v.net) price
    → Keeps v price []
starts laws conserved v price shows roomy unheld flow valid =
    let c : Case = v.case in
    let whole : IsWhole v.net price (map (spot_of v) (task_nodes c)) (spot_of v Sink) = record {
      valid = valid;
      within = flow.feasible.within_bounds;
      balanced = (conserved (arcs_of v.net) (map (spot_of v) (task_nodes c)) (spot_of v Sink) carried).0
          flow.feasible.conserved;
    } in
    let on = whole_keyed v shows price whole in
    let lows_are : (k : Key) → IsKeyOf c k → lows v k ≡ low_of c [] k = λ k own.
    sym (low_at c (lows v) (flows v) k)
    ∙ (All-contains (λ (a : Arc Node Key). a.low ≡ 0) (network c (lows v) (flows v)) (arc_at c (lows v) (flows v) k)
    (to_keyed v shows (λ (b : Arc ℕ ArcId). b.low ≡ 0) unheld) (listed_at c (lows v) (flows v) k own)
    ∙ sym (none_held c k)) in
    let e : network c (lows v) (flows v) ≡ network c (low_of c []) (flows v) =
    network_same c (lows v) (low_of c []) (flows v) (flows v) lows_are (λ k own. refl) in
    record {
      laws = laws;
      roomy = roomy;
      shows = shows;
      lows = lows_are;
      stands = start laws c (flows v) (λ n. price (spot_of v n))
          shows.sound
          (subst (λ (z : List (Arc Node Key)). AreValid z (λ n. price (spot_of v n))) e on.0)
          (subst (λ (z : List (Arc Node Key)). IsWithinBounds z carried) e on.1)
          (subst (λ (z : List (Arc Node Key)). Balanced z (task_nodes c) Sink carried) e on.2);
    }

pub ends : TheRoundIsTheFirst → (old v : View) (price : ℕ → ℕ) (p : List Choice) → IsSameCase old v → Keeps v price p
    → length p ≡ length v.case.tasks → p ≡ round_placement old.case
ends law old v price p same keeps all =
    (law v.case).alone p (finish keeps.laws v.case p (flows v) (λ n. price (spot_of v n)) keeps.stands all)
    ∙ ap round_placement same.case
