-- The way back from where a path ends to the tail of the arc along which a unit is sent.
use Rattle.std.proofs.Common.{◌≡◌, ℕ, ◌<◌, Bool, true, false, List, [], ◌∷◌, ◌++◌, length, Some, None, Option}
use Rattle.std.proofs.Common.{arith, refl, sym, ap, subst, ◌∙◌}
use Rattle.std.specs.List.{All}
use Rattle.std.proofs.lemmas.List.{append-nil}
use Rattle.std.proofs.lemmas.List.Elements.{All-contains}
use Rattle.std.proofs.lemmas.Option.{same_Some}
use Rattle.firm_net.specs.Row.{Row}
use Rattle.firm_net.specs.Net.{row_at}
use Rattle.firm_net.specs.declared.row.ArcId.{ArcId}
use Rattle.firm_net.specs.declared.row.Way.TheVariants.{Backward}
use Rattle.firm_paths.specs.Network.{Arc, Residual, Tight, IsResidual, leaves, enters}
use Rattle.firm_paths.specs.NetArcs.{arc_of, arcs_of, arc_or, residual_of}
use Rattle.firm_paths.specs.Paths.{IsTightPath}
use Rattle.firm_paths.specs.declared.search.Step.{Step}
use Rattle.firm_rules.specs.declared.rounds.Choice.{Choice}
use Rattle.firm_graph.specs.declared.network.Node.{Node}
use Rattle.firm_graph.specs.declared.network.Node.TheVariants.{Sink, Hub, Machine, Owner, Task}
use Rattle.firm_graph.specs.declared.network.Key.{Key}
use Rattle.firm_graph.specs.declared.network.Key.TheVariants.{Wide, Stay, Wait, Prefer}
use Rattle.firm_graph.specs.Network.{demand, preferred_at, stay_head, IsKeyOf, IsNodeOf}
use Rattle.firm_graph.specs.View.{View, flows, named, spot_of}
use Rattle.firm_canon.specs.inner.Keys.{IsArcOf, key_of}
use Rattle.firm_canon.specs.inner.Placed.{wide as wide_of}
use Rattle.firm_canon.specs.inner.Turns.{IsTightAt}
use Rattle.firm_canon.specs.inner.Choosing.{low_of, Keeps}
use Rattle.firm_canon.specs.declared.reads.TaskArc.{TaskArc}
use Rattle.firm_canon.proofs.Totals.{term-le-total}
use Rattle.firm_canon.proofs.Heads.{one_node}
use Rattle.firm_canon.proofs.Placed.{count_at}
use Rattle.firm_canon.proofs.Parts.{whole}
use Rattle.firm_canon.proofs.Shown.{to_net, arc_at}
use Rattle.firm_canon.proofs.AsCheap.{shown_is, IsRowOfKey, row_of_key}
use Rattle.firm_canon.proofs.Choices.{sends_one}
use Rattle.firm_canon.proofs.First.{pick_past, wide_none}
use Rattle.firm_canon.proofs.Cycles.{path_back}
use Rattle.firm_canon.proofs.Ways.{named_is, own_key, own_tail}

-- the task of a task's node
abbrev task_of : Node → Option ℕ
task_of Sink = None
task_of Hub = None
task_of (Machine j) = None
task_of (Owner k) = None
task_of (Task i) = Some i

none_home : (home : Option ℕ) → task_of (stay_head home) ≡ None
none_home None = refl
none_home (Some h) = refl

module _ (v : View) (price : ℕ → ℕ) (p : List Choice) (keeps : Keeps v price p)
    (next : length p < length v.case.tasks) where
  abbrev n : ℕ
  n = length p

  abbrev low : Key → ℕ
  low = low_of v.case p

  -- another node is elsewhere
  apart : (a : Node) → IsNodeOf v.case a → task_of a ≡ None → spot_of v a ≡ spot_of v (Task n) → ⊥
  apart a in_a none same =
      let clash : None ≡ Some n = sym none ∙ ap task_of (one_node v keeps.shows a (Task n) in_a next same) in
      absurd cc

  -- the task's node is no arc's head; where its unit is at the hub, no other arc out of it carries more than is held
  abbrev IsApart : Arc ℕ ArcId → Type 0
  IsApart b =
      (b.head ≡ spot_of v (Task n) → ⊥) × (b.tail ≡ spot_of v (Task n) → b.low < b.flow → b.head ≡ spot_of v Hub)

  all_apart : flows v (Wide n) ≡ 1 → All IsApart (arcs_of v.net)
  all_apart one =
      let sends = sends_one v price p n keeps next in
      let task : (i : ℕ) → i < length v.case.tasks → spot_of v (Task i) ≡ spot_of v (Task n) → i ≡ n =
      λ i l e. same_Some i n (ap task_of (one_node v keeps.shows (Task i) (Task n) l next e)) in
      to_net v keeps.shows IsApart
      (subst (All (λ (a : Arc Node Key). IsApart (named v a))) (sym (shown_is v price p keeps))
      (whole (λ (a : Arc Node Key). IsApart (named v a)) v.case low (flows v) (record {
        through = λ j l. (apart (Machine j) l refl, λ e m. absurd (apart Hub tt refl e));
        slot = λ j k l r. (apart Sink tt refl, λ e m. absurd (apart (Machine j) l refl e));
        exit = λ k l. (apart Sink tt refl, λ e m. absurd (apart (Owner k) l refl e));
        wides = λ i l. (apart Hub tt refl, λ e m. refl);
        stays = λ i l. (
          apart (stay_head (demand v.case i).home) (keeps.shows.homes i l) (none_home (demand v.case i).home),
          λ e m. absurd (omega (arith, m, sends, one, ap (λ (z : ℕ). flows v (Stay z)) (task i l e))),
        );
        delays = λ i l. (
          apart (Owner (demand v.case i).job) (keeps.shows.sound.jobs_in i l) refl,
          λ e m. absurd (omega (arith, m, sends, one, ap (λ (z : ℕ). flows v (Wait z)) (task i l e))),
        );
        prefers = λ i k l m. (
          apart (Machine (preferred_at v.case i k)) (keeps.shows.preferred i k l m) refl,
          λ e more. absurd (omega (
            arith,
            ap (λ (z : ℕ). flows v (Prefer z k)) (task i l e),
            term-le-total (λ (z : ℕ). flows v (Prefer n z)) (count_at v.case n) k
                (subst (λ (z : ℕ). k < count_at v.case z) (task i l e) m),
          )),
        );
      })))

  -- so it is entered from the hub alone
  only_hub : flows v (Wide n) ≡ 1 → (r : Residual ℕ ArcId) → IsResidual (arcs_of v.net) r
      → enters r ≡ spot_of v (Task n) → leaves r ≡ spot_of v Hub
  only_hub one r residual is = by r.forward refl is
    where
      facts : IsApart r.arc
      facts = All-contains IsApart (arcs_of v.net) r.arc (all_apart one) residual.listed

      by : (b : Bool) → r.forward ≡ b → enters (record r { forward = b }) ≡ spot_of v (Task n)
          → leaves (record r { forward = b }) ≡ spot_of v Hub
      by true e at = absurd (facts.0 at)
      by false e at = facts.1 at (residual.may_fall e)

  -- FROM WHERE A PATH WAS FOUND TO, the tail of an arc is reached by no step more
  pub round_by : (to : ℕ) (key : Key) (arc : ArcId) (row : Row) (steps : List Step)
      → IsKeyOf v.case key → arc ≡ v.arc key → spot_of v (arc_at v.case low (flows v) key).tail ≡ to
      → row_at v.net arc ≡ Some row → IsTightPath v.net price row.head.id.place to steps
      → IsTightPath v.net price row.head.id.place row.tail.id.place (steps ++ [])
  round_by to key arc row steps own is tail there path =
      let tail_is : to ≡ row.tail.id.place =
      sym tail ∙ ap (λ (b : Arc ℕ ArcId). b.tail) (named_is v price p keeps next key arc row own is there) in
      subst (IsTightPath v.net price row.head.id.place row.tail.id.place) (sym (append-nil steps))
      (subst (λ (z : ℕ). IsTightPath v.net price row.head.id.place z steps) tail_is path)

  -- or by one against the unit at the hub
  pub round_back : (own_arc : TaskArc) (arc wide : ArcId) (row : Row) (steps : List Step)
      → IsArcOf v.case n own_arc → arc ≡ v.arc (key_of n own_arc) → wide ≡ v.arc (Wide n) → flows v (Wide n) ≡ 1
      → IsTightAt v.net price wide
      → row_at v.net arc ≡ Some row → IsTightPath v.net price row.head.id.place (spot_of v Hub) steps
      → IsTightPath v.net price row.head.id.place row.tail.id.place
      (steps ++ record { arc = wide; way = Backward } ∷ [])
  unfolding arc_at
  round_back own_arc arc wide row steps is_arc is is_wide one tight there path =
      let key : Key = key_of n own_arc in
      let own : IsKeyOf v.case key = own_key v price p keeps next own_arc is_arc in
      let named_row = named_is v price p keeps next key arc row own is there in
      let tail_is : spot_of v (Task n) ≡ row.tail.id.place =
      ap (λ (m : Node). spot_of v m) (sym (own_tail v price p keeps next own_arc))
      ∙ ap (λ (b : Arc ℕ ArcId). b.tail) named_row in
      let by : IsRowOfKey v p (Wide n) = row_of_key v price p (Wide n) keeps next in
      let by_there : row_at v.net wide ≡ Some by.row = ap (row_at v.net) is_wide ∙ by.there in
      let back : Step = record { arc = wide; way = Backward } in
      let arc_is : arc_or wide (row_at v.net wide) ≡ arc_of wide by.row = ap (arc_or wide) by_there in
      let ends_at : Arc ℕ ArcId → Type 0 =
      λ (a : Arc ℕ ArcId). IsResidual (arcs_of v.net) (record { arc = a; forward = false })
      × (a.head ≡ spot_of v Hub) × (a.tail ≡ spot_of v (Task n)) × Tight price a in
      let facts : ends_at (residual_of v.net back).arc =
      subst ends_at (sym arc_is) (
        record {
          listed = keeps.laws.listed v.net wide by.row by_there;
          has_room = λ e. absurd cc;
          may_fall = λ e. omega (
            arith,
            ap (λ (b : Arc ℕ ArcId). b.flow) by.is,
            ap (λ (b : Arc ℕ ArcId). b.low) by.is,
            free_wide,
          );
        },
        sym (ap (λ (b : Arc ℕ ArcId). b.head) by.is),
        sym (ap (λ (b : Arc ℕ ArcId). b.tail) by.is),
        tight by.row by_there,
      ) in
      subst (λ (z : ℕ). IsTightPath v.net price row.head.id.place z (steps ++ back ∷ [])) tail_is
      (path_back v.net price row.head.id.place (spot_of v Hub) (spot_of v (Task n)) steps back path (only_hub one)
      head_off (apart Hub tt refl) facts.0 facts.1 facts.2 facts.3)
    where
      free_wide : low (Wide n) ≡ 0
      free_wide = ap (wide_of (demand v.case n)) (pick_past p) ∙ wide_none (demand v.case n)

      head_off : row.head.id.place ≡ spot_of v (Task n) → ⊥
      head_off e =
          (All-contains IsApart (arcs_of v.net) (arc_of arc row) (all_apart one)
          (keeps.laws.listed v.net arc row there)).0 e
