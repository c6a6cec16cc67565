-- The heads of a task's arcs.
use Rattle.std.proofs.Common.{◌≡◌, ℕ, ◌<◌, Option, Some, None, length, refl, sym, ap, subst, ◌∙◌}
use Rattle.std.specs.Prelude.{◌≢◌, IfSome, IfNone, IsSome}
use Rattle.std.proofs.lemmas.Bool.{false≢true}
use Rattle.std.proofs.lemmas.Option.{same_Some}
use Rattle.firm_net.specs.Row.{Row}
use Rattle.firm_net.specs.Net.{IsArc, IsNode, row_at, Net}
use Rattle.firm_net.specs.declared.row.NodeId.{NodeId}
use Rattle.firm_net.specs.declared.row.ArcId.{ArcId}
use Rattle.firm_paths.specs.Network.{Arc}
use Rattle.firm_paths.specs.Laws.{EachArcHasItsRow}
use Rattle.firm_graph.specs.View.{View, Shows, lows, flows, spot_of}
use Rattle.firm_graph.specs.Network.{demand, preferred_at, stay_head, IsNodeOf, IsKeyOf}
use Rattle.firm_graph.specs.declared.network.Node.{Node}
use Rattle.firm_graph.specs.declared.network.Node.TheVariants.{Sink, Hub, Machine, Owner, Task}
use Rattle.firm_graph.specs.declared.network.Key.{Key}
use Rattle.firm_graph.specs.declared.network.Key.TheVariants.{Stay, Prefer}
use Rattle.firm_canon.proofs.Shown.{arc_at, key_at, listed_at, row_shown}

-- an arc that is there has a row
pub has_row : (net shown : Net) (arc : ArcId) (found : Option Row) → shown ≡ net → found ≡ row_at shown arc
    → IsArc net arc → found ≡ None → ⊥
has_row net shown arc found same is there none =
    false≢true (subst (λ (o : Option Row). IsSome o) (ap (λ (n : Net). row_at n arc) (sym same) ∙ sym is ∙ none) there)

-- the place of a machine's node; the rest are none
number_of : Node → Option ℕ
number_of Sink = None
number_of Hub = None
number_of (Machine j) = Some j
number_of (Owner k) = None
number_of (Task i) = None

-- a task whose stay arc leads to a machine runs there
staying : (home : Option ℕ) (j : ℕ) → Machine j ≡ stay_head home → Some j ≡ home
unfolding number_of
staying None j e = ap number_of e
staying (Some h) j e = ap number_of e

module _ (v : View) (shows : Shows v) where
  -- different nodes of the network have different places
  pub one_node : (a b : Node) → IsNodeOf v.case a → IsNodeOf v.case b → spot_of v a ≡ spot_of v b → a ≡ b
  one_node a b in_a in_b same = sym (shows.role_is a in_a) ∙ ap shows.role same ∙ shows.role_is b in_b

  one_id : (a b : Node) → IsNodeOf v.case a → IsNodeOf v.case b → v.node a ≡ v.node b → a ≡ b
  one_id a b in_a in_b same = one_node a b in_a in_b (ap (λ (n : NodeId). n.id.place) same)

  -- the hub is no machine's node
  pub hub_apart : (head : NodeId) → head ≡ v.node Hub → (j : ℕ) → j < length v.case.slots → v.node (Machine j) ≢ head
  unfolding number_of
  hub_apart head hub j l same =
      let clash : Some j ≡ None = ap number_of (one_id (Machine j) Hub l tt (same ∙ hub)) in
      absurd cc

  module _ (rows : EachArcHasItsRow) where
    -- the row of the arc of a key
    pub key_row : (key : Key) → IsKeyOf v.case key → (row : Row) × (row_at v.net (v.arc key) ≡ Some row)
    key_row key k =
        let a : Arc Node Key = arc_at v.case (lows v) (flows v) key in
        let shown = row_shown v shows rows a (listed_at v.case (lows v) (flows v) key k) in (
          shown.row,
          ap (λ (z : Key). row_at v.net (v.arc z)) (sym (key_at v.case (lows v) (flows v) key)) ∙ shown.there,
        )

    pub there_key : (key : Key) (id : ArcId) → IsKeyOf v.case key → id ≡ v.arc key → IsArc v.net id
    there_key key id k e =
        subst (λ (o : Option Row). IsSome o) (sym (ap (row_at v.net) e ∙ (key_row key k).1)) refl

    head_spot : (key : Key) (row : Row) → IsKeyOf v.case key → row_at v.net (v.arc key) ≡ Some row
        → spot_of v (arc_at v.case (lows v) (flows v) key).head ≡ row.head.id.place
    head_spot key row k there =
        let a : Arc Node Key = arc_at v.case (lows v) (flows v) key in
        let shown = row_shown v shows rows a (listed_at v.case (lows v) (flows v) key k) in
        let same : shown.row ≡ row =
        same_Some shown.row row
        (sym shown.there ∙ ap (λ (z : Key). row_at v.net (v.arc z)) (key_at v.case (lows v) (flows v) key) ∙ there) in
        ap (λ (b : Arc ℕ ArcId). b.head) shown.is ∙ ap (λ (r : Row). r.head.id.place) same

    -- the arc of a key ends at the node of the network where it leads
    head_node : (key : Key) (row : Row) (head : Node) → IsKeyOf v.case key → row_at v.net (v.arc key) ≡ Some row
        → IsNode v.net row.head → IsNodeOf v.case head → (arc_at v.case (lows v) (flows v) key).head ≡ head
        → v.node head ≡ row.head
    head_node key row head k there is in_head leads =
        let found = shows.only row.head is in
        let same : found.0 ≡ head =
        sym (shows.role_is found.0 found.1)
        ∙ ap shows.role
        (ap (λ (n : NodeId). n.id.place) found.2 ∙ sym (head_spot key row k there) ∙ ap (spot_of v) leads)
        ∙ shows.role_is head in_head in
        ap v.node (sym same) ∙ found.2

    module _ (i : ℕ) (inside : i < length v.case.tasks) where
      stays : (row : Row) → row_at v.net (v.arc (Stay i)) ≡ Some row → IsNode v.net row.head
          → v.node (stay_head (demand v.case i).home) ≡ row.head
      unfolding arc_at
      stays row there is =
          head_node (Stay i) row (stay_head (demand v.case i).home) inside there is (shows.homes i inside) refl

      -- the machine where the stay arc ends is the one on which the task runs
      pub home_found : (row : Row) (j : ℕ) → row_at v.net (v.arc (Stay i)) ≡ Some row → IsNode v.net row.head
          → j < length v.case.slots → v.node (Machine j) ≡ row.head → Some j ≡ (demand v.case i).home
      home_found row j there is l same =
          staying (demand v.case i).home j
          (one_id (Machine j) (stay_head (demand v.case i).home) l (shows.homes i inside)
          (same ∙ sym (stays row there is)))

      -- where no machine is, it waits
      pub home_lacking : (row : Row) → row_at v.net (v.arc (Stay i)) ≡ Some row → IsNode v.net row.head
          → ((j : ℕ) → j < length v.case.slots → v.node (Machine j) ≢ row.head) → None ≡ (demand v.case i).home
      home_lacking row there is none =
          by (demand v.case i).home (shows.homes i inside) (stays row there is)
        where
          by : (home : Option ℕ) → IsNodeOf v.case (stay_head home) → v.node (stay_head home) ≡ row.head → None ≡ home
          by None in_home at = refl
          by (Some h) in_home at = absurd (none h in_home at)

      -- so this is the task's own machine
      pub home_is : (row : Row) (found : Option ℕ) → row_at v.net (v.arc (Stay i)) ≡ Some row → IsNode v.net row.head
          → IfSome found (λ j. (j < length v.case.slots) × (v.node (Machine j) ≡ row.head))
          → IfNone found ((j : ℕ) → j < length v.case.slots → v.node (Machine j) ≢ row.head)
          → found ≡ (demand v.case i).home
      home_is row None there is some none = home_lacking row there is none
      home_is row (Some j) there is some none = home_found row j there is some.0 some.1

      module _ (k : ℕ) (below : k < length (demand v.case i).preferred) where
        prefers : (row : Row) → row_at v.net (v.arc (Prefer i k)) ≡ Some row → IsNode v.net row.head
            → v.node (Machine (preferred_at v.case i k)) ≡ row.head
        unfolding arc_at
        prefers row there is =
            head_node (Prefer i k) row (Machine (preferred_at v.case i k)) (inside, below) there is
            (shows.preferred i k inside below) refl

        -- the machine where a preference's arc ends is the one that is preferred
        pub preferred_found : (row : Row) (j : ℕ) → row_at v.net (v.arc (Prefer i k)) ≡ Some row
            → IsNode v.net row.head → j < length v.case.slots → v.node (Machine j) ≡ row.head
            → j ≡ preferred_at v.case i k
        unfolding number_of
        preferred_found row j there is l same =
            same_Some j (preferred_at v.case i k)
            (ap number_of
            (one_id (Machine j) (Machine (preferred_at v.case i k)) l (shows.preferred i k inside below)
            (same ∙ sym (prefers row there is))))

        -- and there is one
        pub preferred_there : (row : Row) → row_at v.net (v.arc (Prefer i k)) ≡ Some row → IsNode v.net row.head
            → ((j : ℕ) → j < length v.case.slots → v.node (Machine j) ≢ row.head) → ⊥
        preferred_there row there is none =
            none (preferred_at v.case i k) (shows.preferred i k inside below) (prefers row there is)
