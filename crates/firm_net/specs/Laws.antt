-- Laws for callers about a net's rows: the list of a function's values, and the rows after a change.
use Rattle.std.specs.Prelude.{◌≡◌, ◌≢◌, ◌⊎◌, ◌==◌, true, false, ℕ, ◌+◌, ◌<◌, List, [], ◌∷◌, map, length, sum_by}
use Rattle.std.specs.Prelude.{Contains, Some, None, option_map}
use Rattle.std.proofs.Common.{refl, sym, ap, ap₂, ◌∙◌, subst, arith, inl, inr, zero, suc, get_or, eq-eqb, ne_eqb}
use Rattle.std.proofs.lemmas.Bool.{cases_eq, and_from, and_left, and_right}
use Rattle.std.proofs.lemmas.List.Sums.{sum_by-cons}
use Rattle.std.proofs.lemmas.List.{length-map}
use Rattle.std.proofs.lemmas.Simd.{map-map}
use Rattle.firm_arena.specs.Arena.{Arena, entries, held_at, capacity_of, IsVacant}
use Rattle.firm_arena.specs.Laws.{entry_held, held_entry, held_of_found, found_of_held, found_within}
use Rattle.firm_arena.specs.Laws.{length-entries_from}
use Rattle.firm_arena.specs.Changes.{some-is, find-vacant, find-changed_own, find-changed_all, changed_all-same}
use Rattle.firm_arena.specs.Changes.{changed_all-changed_all}
use Rattle.firm_arena.specs.Sums.{sum-put, sum-without, sum-changed, entries-changed_all}
use Rattle.firm_arena.specs.declared.Id.{Id}
use Rattle.firm_net.specs.Row.{Row}
use Rattle.firm_net.specs.Edits.{Span, span_of, nodes_of, spans_of}
use Rattle.firm_net.specs.Net.{Net, Lists, IsNet, IsNode, IsArc, IsListed, lists_at, row_at, end_of, arcs_on, out_list}
use Rattle.firm_net.specs.Net.{in_list, arc_count, empty_net, with_arc, without_row, with_row, with_head, with_unit}
use Rattle.firm_net.specs.Net.{without_flow, same_arc}
use Rattle.firm_net.specs.declared.links.Side.{Side}
use Rattle.firm_net.specs.declared.links.Side.TheVariants.{Out, In}
use Rattle.firm_net.specs.declared.row.NodeId.{NodeId}
use Rattle.firm_net.specs.declared.row.ArcId.{ArcId}
use Rattle.firm_net.specs.declared.row.Way.{Way}
use Rattle.firm_net.specs.declared.row.Way.TheVariants.{Forward, Backward}

-- what f makes of each row of a net, by rising place
abbrev pub each_row : {Y : Type 0} → (ArcId → Row → Y) → Net → List Y
each_row f net = map (λ e. f (record { id = e.0 }) e.1) (entries net.arcs)

-- a row without lower bound and flow
abbrev pub without_row_flow : Row → Row
without_row_flow row = record row { low = 0; flow = 0 }

-- the names of a place and a stamp
abbrev arc_named : ℕ → ℕ → ArcId
arc_named place stamp = record { id = record { place = place; stamp = stamp } }

abbrev node_named : ℕ → ℕ → NodeId
node_named place stamp = record { id = record { place = place; stamp = stamp } }

-- two names of arcs are one or not
pub same_arc_or_not : (a b : ArcId) → (a ≡ b) ⊎ (a ≢ b)
same_arc_or_not a b =
    elim (cases_eq a.id.place b.id.place) [
      | inl places ↦
          elim (cases_eq a.id.stamp b.id.stamp) [
            | inl stamps ↦ inl (ap₂ arc_named places stamps)
            | inr other ↦ inr (λ e. other (ap (λ (c : ArcId). c.id.stamp) e))
          ]
      | inr other ↦ inr (λ e. other (ap (λ (c : ArcId). c.id.place) e))
    ]

-- the test of two names of arcs
pub same_arc_self : (a : ArcId) → same_arc a a ≡ true
same_arc_self a =
    and_from (a.id.place == a.id.place) (a.id.stamp == a.id.stamp) (eq-eqb a.id.place a.id.place refl)
    (eq-eqb a.id.stamp a.id.stamp refl)

pub same_arc_other : (a b : ArcId) → a ≢ b → same_arc a b ≡ false
same_arc_other a b other =
    elim (cases_eq a.id.place b.id.place) [
      | inl places ↦
          elim (cases_eq a.id.stamp b.id.stamp) [
            | inl stamps ↦ absurd (other (ap₂ arc_named places stamps))
            | inr differ ↦
                and_right (a.id.place == b.id.place) (a.id.stamp == b.id.stamp) (ne_eqb a.id.stamp b.id.stamp differ)
          ]
      | inr differ ↦
          and_left (a.id.place == b.id.place) (a.id.stamp == b.id.stamp) (ne_eqb a.id.place b.id.place differ)
    ]

-- two names of nodes are one or not
pub same_node_or_not : (n m : NodeId) → (n ≡ m) ⊎ (n ≢ m)
same_node_or_not n m =
    elim (cases_eq n.id.place m.id.place) [
      | inl places ↦
          elim (cases_eq n.id.stamp m.id.stamp) [
            | inl stamps ↦ inl (ap₂ node_named places stamps)
            | inr other ↦ inr (λ e. other (ap (λ (c : NodeId). c.id.stamp) e))
          ]
      | inr other ↦ inr (λ e. other (ap (λ (c : NodeId). c.id.place) e))
    ]

-- a new net has no row and no node
pub empty_row : (nodes arcs : ℕ) (a : ArcId) → row_at (empty_net nodes arcs) a ≡ None
empty_row nodes arcs a = find-vacant arcs 0 a.id

pub empty_node : (nodes arcs : ℕ) (n : NodeId) → lists_at (empty_net nodes arcs) n ≡ None
empty_node nodes arcs n = find-vacant nodes 0 n.id

-- a changed row belongs to its arc
pub changed_row : (net : Net) (a : ArcId) (row : Row) (g : Row → Row) → row_at net a ≡ Some row
    → row_at (with_row net a g) a ≡ Some (g row)
changed_row net a row g there = find-changed_own net.arcs a.id row g there

pub moved_row : (net : Net) (a : ArcId) (row : Row) (n : NodeId) → row_at net a ≡ Some row
    → row_at (with_head net a row n) a ≡ Some (record row { head = n })
moved_row net a row n there = find-changed_own net.arcs a.id row (λ r. record r { head = n }) there

-- each row is there without its flow
pub cleared_row : (net : Net) (a : ArcId) → row_at (without_flow net) a ≡ option_map without_row_flow (row_at net a)
cleared_row net a = find-changed_all net.arcs without_row_flow a.id

-- apart from its flow a net stays where a change of a row leaves that apart from its flow
pub cleared_changed : (net : Net) (a : ArcId) (g : Row → Row)
    → ((row : Row) → without_row_flow (g row) ≡ without_row_flow row)
    → without_flow (with_row net a g) ≡ without_flow net
cleared_changed net a g same =
    ap (λ (arcs : Arena Row). let made : Net = record { nodes = net.nodes; arcs = arcs } in made)
    (changed_all-same net.arcs a.id.place g without_row_flow same)

-- so it does after a push, and cleared twice it is as cleared once
pub cleared_pushed : (net : Net) (a : ArcId) (way : Way)
    → without_flow (with_row net a (with_unit way)) ≡ without_flow net
cleared_pushed net a way = cleared_changed net a (with_unit way) (same way)
  where
    same : (way : Way) (row : Row) → without_row_flow (with_unit way row) ≡ without_row_flow row
    same Forward row = refl
    same Backward row = refl

pub cleared_twice : (net : Net) → without_flow (without_flow net) ≡ without_flow net
cleared_twice net =
    ap (λ (arcs : Arena Row). let made : Net = record { nodes = net.nodes; arcs = arcs } in made)
    (changed_all-changed_all net.arcs without_row_flow without_row_flow)

-- a node that is there has a place within the room, and no other node there has it; so for arcs
pub node_place : (net : Net) (n : NodeId) → IsNet net → IsNode net n → n.id.place < capacity_of net.nodes
node_place net n is there = is.node_map.places n.id there

pub arc_place : (net : Net) (a : ArcId) → IsNet net → IsArc net a → a.id.place < capacity_of net.arcs
arc_place net a is there = is.arc_map.places a.id there

pub nodes_apart : (net : Net) (n m : NodeId) → IsNet net → IsNode net n → IsNode net m → n.id.place ≡ m.id.place → n ≡ m
nodes_apart net n m is one other same =
    ap (λ (id : Id). let made : NodeId = record { id = id } in made) (is.node_map.apart n.id m.id one other same)

pub arcs_apart : (net : Net) (a b : ArcId) → IsNet net → IsArc net a → IsArc net b → a.id.place ≡ b.id.place → a ≡ b
arcs_apart net a b is one other same =
    ap (λ (id : Id). let made : ArcId = record { id = id } in made) (is.arc_map.apart a.id b.id one other same)

-- the lists of a node are empty where it is the end of no row
pub no_arcs_on : (side : Side) (net : Net) (n : NodeId) → IsListed side net
    → ((a : ArcId) (row : Row) → row_at net a ≡ Some row → end_of side row ≢ n) → arcs_on side net n ≡ []
no_arcs_on side net n listed apart = none (arcs_on side net n) refl
  where
    none : (ids : List ArcId) → arcs_on side net n ≡ ids → arcs_on side net n ≡ []
    none [] e = e
    none (a ∷ rest) e =
        let first : Contains (a ∷ rest) a = (zero, omega arith, refl) in
        let own = listed.arcs n a (subst (λ (ids : List ArcId). Contains ids a) (sym e) first) in
        absurd (apart a own.0 own.1 own.2)

pub no_arcs_out : (net : Net) (n : NodeId) → IsNet net
    → ((a : ArcId) (row : Row) → row_at net a ≡ Some row → row.tail ≢ n)
    → out_list net n ≡ []
no_arcs_out net n is apart = no_arcs_on Out net n is.outgoing apart

pub no_arcs_in : (net : Net) (n : NodeId) → IsNet net
    → ((a : ArcId) (row : Row) → row_at net a ≡ Some row → row.head ≢ n)
    → in_list net n ≡ []
no_arcs_in net n is apart = no_arcs_on In net n is.incoming apart

-- a sum over a list of images
pub sum-map : {A B : Type 0} (w : B → ℕ) (g : A → B) (xs : List A) → sum_by w (map g xs) ≡ sum_by (λ x. w (g x)) xs
sum-map w g [] = refl
sum-map w g (x ∷ xs) =
    sum_by-cons w (g x) (map g xs) ∙ ap (λ (n : ℕ). w (g x) + n) (sum-map w g xs)
    ∙ sym (sum_by-cons (λ y. w (g y)) x xs)

pub contains-mapped : {A B : Type 0} (g : A → B) (xs : List A) (x : A) → Contains xs x → Contains (map g xs) (g x)
contains-mapped g [] x has = absurd (omega (arith, has.1))
contains-mapped {A} {B} g (y ∷ xs) x has = by_index has.0 has.1 has.2 (contains-mapped g xs x)
  where
    by_index : (k : ℕ) → k < suc (length xs) → get_or (y ∷ xs) k x ≡ x → (Contains xs x → Contains (map g xs) (g x))
        → Contains (map g (y ∷ xs)) (g x)
    by_index zero below is rest = (zero, omega arith, ap g is)
    by_index (suc k) below is rest =
        let later = rest (k, omega arith, is) in (suc later.0, omega (arith, later.1), later.2)

mapped-contains : {A B : Type 0} (g : A → B) (xs : List A) (y : B) → Contains (map g xs) y
    → (x : A) × Contains xs x × (y ≡ g x)
mapped-contains g [] y has = absurd (omega (arith, has.1))
mapped-contains {A} {B} g (x ∷ xs) y has = by_index has.0 has.1 has.2 (mapped-contains g xs y)
  where
    by_index : (k : ℕ) → k < suc (length (map g xs)) → get_or (map g (x ∷ xs)) k y ≡ y
        → (Contains (map g xs) y → (z : A) × Contains xs z × (y ≡ g z)) → (z : A) × Contains (x ∷ xs) z × (y ≡ g z)
    by_index zero below is rest = (x, (zero, omega arith, refl), sym is)
    by_index (suc k) below is rest =
        let later = rest (k, omega arith, is) in
        (later.0, (suc later.1.0, omega (arith, later.1.1), later.1.2), later.2)

-- what an entry weighs as a node, and as an arc apart from its flow
abbrev pub node_weight : (NodeId → ℕ) → Id × Lists → ℕ
node_weight w e = w (record { id = e.0 })

abbrev pub span_weight : (Span → ℕ) → Id × Row → ℕ
span_weight w e = w (span_of (record { id = e.0 }) e.1)

pub nodes-sum : (w : NodeId → ℕ) (net : Net) → sum_by w (nodes_of net) ≡ sum_by (node_weight w) (entries net.nodes)
nodes-sum w net = sum-map w (λ (e : Id × Lists). let n : NodeId = record { id = e.0 } in n) (entries net.nodes)

pub spans-sum : (w : Span → ℕ) (net : Net) → sum_by w (spans_of net) ≡ sum_by (span_weight w) (entries net.arcs)
spans-sum w net = sum-map w (λ (e : Id × Row). span_of (record { id = e.0 }) e.1) (entries net.arcs)

-- an arc that is there lies within the room
pub row-below : (net : Net) (a : ArcId) (row : Row) → row_at net a ≡ Some row → a.id.place < capacity_of net.arcs
row-below net a row there = found_within net.arcs a.id (some-is (row_at net a) row there)

module _ {Y : Type 0} (f : ArcId → Row → Y) where
  -- what f makes of an entry
  abbrev of_entry : Id × Row → Y
  of_entry e = f (record { id = e.0 }) e.1

  -- each row is listed, and what is listed comes from a row
  pub row_listed : (net : Net) (a : ArcId) (row : Row) → row_at net a ≡ Some row → Contains (each_row f net) (f a row)
  row_listed net a row there =
      contains-mapped of_entry (entries net.arcs) (a.id, row)
      (held_entry 0 net.arcs.held a.id.place a.id.place a.id.stamp row (omega arith)
      (held_of_found net.arcs a.id row there))

  pub listed_row : (net : Net) (y : Y) → Contains (each_row f net) y
      → (a : ArcId) × (row : Row) × (row_at net a ≡ Some row) × (y ≡ f a row)
  listed_row net y has =
      let entry = mapped-contains of_entry (entries net.arcs) y has in
      let id : Id = entry.0.0 in
      let row : Row = entry.0.1 in
      let held = entry_held 0 net.arcs.held id row entry.1 in
      let place : held.0 ≡ id.place = omega (arith, held.1) in
      let lies : held_at net.arcs id.place ≡ Some (id.stamp, row) = ap (held_at net.arcs) (sym place) ∙ held.2 in
      (record { id = id }, row, found_of_held net.arcs id.place (id.stamp, row) lies, entry.2)

  -- as many are listed as the net counts
  pub rows_counted : (net : Net) → length (each_row f net) ≡ arc_count net
  rows_counted net = length-map (entries net.arcs) of_entry ∙ length-entries_from 0 net.arcs.held

  of_sum : (w : Y → ℕ) (net : Net) → sum_by w (each_row f net) ≡ sum_by (λ e. w (of_entry e)) (entries net.arcs)
  of_sum w net = sum-map w of_entry (entries net.arcs)

  -- sums over the rows: after one changed
  pub rows_changed : (w : Y → ℕ) (net : Net) (a : ArcId) (row : Row) (g : Row → Row) → row_at net a ≡ Some row
      → sum_by w (each_row f (with_row net a g)) + w (f a row) ≡ sum_by w (each_row f net) + w (f a (g row))
  rows_changed w net a row g there =
      omega (
        arith,
        of_sum w net,
        of_sum w (with_row net a g),
        sum-changed (λ e. w (of_entry e)) net.arcs a.id.place a.id.stamp row g (row-below net a row there)
            (held_of_found net.arcs a.id row there),
      )

  -- after the head of one moved
  pub rows_moved : (w : Y → ℕ) (net : Net) (a : ArcId) (row : Row) (n : NodeId) → row_at net a ≡ Some row
      → sum_by w (each_row f (with_head net a row n)) + w (f a row)
      ≡ sum_by w (each_row f net) + w (f a (record row { head = n }))
  rows_moved w net a row n there = rows_changed w net a row (λ r. record r { head = n }) there

  -- after one was removed
  pub rows_removed : (w : Y → ℕ) (net : Net) (a : ArcId) (row : Row) → row_at net a ≡ Some row
      → sum_by w (each_row f (without_row net a row)) + w (f a row) ≡ sum_by w (each_row f net)
  rows_removed w net a row there =
      omega (
        arith,
        of_sum w net,
        of_sum w (without_row net a row),
        sum-without (λ e. w (of_entry e)) net.arcs a.id.place a.id.stamp row (row-below net a row there)
            (held_of_found net.arcs a.id row there),
      )

  -- after one was added
  pub rows_added : (w : Y → ℕ) (net : Net) (a : ArcId) (row : Row) → IsVacant net.arcs a.id.place
      → a.id.stamp ≡ net.arcs.counter
      → sum_by w (each_row f (with_arc net a row)) ≡ sum_by w (each_row f net) + w (f a row)
  rows_added w net a row free stamp =
      let stamped : ℕ → ArcId = λ (s : ℕ). record { id = record { place = a.id.place; stamp = s } } in
      omega (
        arith,
        of_sum w net,
        of_sum w (with_arc net a row),
        ap (λ (s : ℕ). w (f (stamped s) row)) stamp,
        sum-put (λ e. w (of_entry e)) net.arcs a.id.place row free.within free.nothing,
      )

  -- after all flow was cleared
  pub rows_cleared : (net : Net) → each_row f (without_flow net) ≡ each_row (λ a row. f a (without_row_flow row)) net
  rows_cleared net =
      ap (map of_entry) (entries-changed_all net.arcs without_row_flow)
      ∙ map-map of_entry (λ (e : Id × Row). (e.0, without_row_flow e.1)) (entries net.arcs)
