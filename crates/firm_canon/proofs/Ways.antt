-- If there is no way, the arc carries more in no flow as cheap, and where it is the next task's, no
-- unit is at its head that the task could follow.
use Rattle.std.proofs.Common.{◌≡◌, ℕ, ◌+◌, ◌<◌, ◌≤◌, Bool, true, false, cond, List, [], length}
use Rattle.std.proofs.Common.{Some, Option, arith, refl, sym, ap, subst, ◌∙◌, ◌⊎◌, inl, inr, ⊎_elim}
use Rattle.std.specs.Prelude.{Contains}
use Rattle.std.specs.List.{All}
use Rattle.std.proofs.lemmas.Bool.{cases_Bool, cases_lt, both_ways}
use Rattle.std.proofs.lemmas.List.Elements.{All-contains, All-weaker}
use Rattle.std.proofs.lemmas.Option.{same_Some}
use Rattle.firm_net.specs.Row.{Row}
use Rattle.firm_net.specs.Net.{row_at, Net}
use Rattle.firm_net.specs.declared.row.ArcId.{ArcId}
use Rattle.firm_paths.specs.Network.{Arc, Tight, StaysInside}
use Rattle.firm_paths.specs.NetArcs.{arc_of}
use Rattle.firm_paths.specs.Paths.{IsTightCut}
use Rattle.firm_rules.specs.declared.rounds.Choice.{Choice}
use Rattle.firm_rules.specs.Placement.{Demand, total}
use Rattle.firm_graph.specs.declared.network.Node.{Node}
use Rattle.firm_graph.specs.declared.network.Node.TheVariants.{Hub, Machine, Task}
use Rattle.firm_graph.specs.declared.network.Key.{Key}
use Rattle.firm_graph.specs.declared.network.Key.TheVariants.{Through, Wide, Stay, Wait, Prefer}
use Rattle.firm_graph.specs.Network.{network, demand, preferred_at, stay_head, runs, IsKeyOf, IsNodeOf}
use Rattle.firm_graph.specs.View.{View, IsSameCase, flows, flow_of_row, named, spot_of, low_of_row}
use Rattle.firm_canon.specs.inner.Keys.{IsArcOf, key_of, machine_of}
use Rattle.firm_canon.specs.inner.Placed.{wide, prefer, pick, wide_at, guests}
use Rattle.firm_canon.specs.inner.Turns.{IsClosedAt, IsFullInto, IsLooseAt, IsBlocked, IsIdle}
use Rattle.firm_canon.specs.inner.Choosing.{low_of, Keeps, best, IsAsCheap, IsBare, IsSpent, StaysAtNoCost}
use Rattle.firm_canon.specs.inner.State.{root}
use Rattle.firm_canon.specs.declared.reads.TaskArc.{TaskArc}
use Rattle.firm_canon.specs.declared.reads.TaskArc.TheVariants.{Stay as StayArc, Prefer as PreferArc, Wide as WideArc}
use Rattle.firm_canon.specs.declared.reads.TaskArc.TheVariants.{Wait as WaitArc}
use Rattle.firm_canon.proofs.Totals.{term-le-total}
use Rattle.firm_canon.proofs.Nears.{prefer_none}
use Rattle.firm_canon.proofs.Placed.{by_hub, leaving, count_at}
use Rattle.firm_canon.proofs.Parts.{parts}
use Rattle.firm_canon.proofs.Read.{task_sends}
use Rattle.firm_canon.proofs.Choices.{sends_one}
use Rattle.firm_canon.proofs.First.{pick_past, wide_none}
use Rattle.firm_canon.proofs.Shown.{to_keyed, arc_at, key_at, flow_at, listed_at}
use Rattle.firm_canon.proofs.AsCheap.{shown_is, IsOther, Between, as_other, IsRowOfKey, row_of_key, loose_same}
use Rattle.firm_canon.proofs.Crossings.{Agrees, crossing}

-- what a key's arc carries, of a view of the same case
pub flows_at : (old new : View) (key : Key) (id : ArcId) → IsSameCase old new → id ≡ old.arc key
    → flows new key ≡ flow_of_row (row_at new.net id)
flows_at old new key id same is =
    ap (λ (arc : Key → ArcId). flow_of_row (row_at new.net (arc key))) same.arc
    ∙ ap (λ (a : ArcId). flow_of_row (row_at new.net a)) (sym is)

-- an arc with no surplus, as it was read, or with no unit, is idle
pub idle_read : (net shown : Net) (id : ArcId) → shown ≡ net
    → flow_of_row (row_at shown id) ≤ low_of_row (row_at shown id) → IsIdle net id
idle_read net shown id same few row there =
    subst (λ (o : Option Row). flow_of_row o ≤ low_of_row o) (ap (λ (n : Net). row_at n id) same ∙ there) few

pub idle_none : (v : View) (key : Key) (id : ArcId) → id ≡ v.arc key → flows v key ≡ 0 → IsIdle v.net id
idle_none v key id is none row there =
    omega (arith, none, ap (λ (a : ArcId). flow_of_row (row_at v.net a)) is, ap flow_of_row there)

-- a blocked arc is closed
pub closed_blocked : (net : Net) (price : ℕ → ℕ) (to : ℕ) (id : ArcId) → IsBlocked net price id
    → IsClosedAt net price to id
closed_blocked net price to id blocked row there =
    ⊎_elim (λ (full : row.cap ≤ row.flow). inl full) (λ loose. inr (inl loose)) (blocked row there)

-- so is one from whose head no way leads to the place
pub closed_cut : (net : Net) (price : ℕ → ℕ) (to : ℕ) (id : ArcId) (found : Row) (head : ℕ) (inside : ℕ → Bool)
    → row_at net id ≡ Some found → head ≡ found.head.id.place → IsTightCut net price [] head to inside
    → IsClosedAt net price to id
closed_cut net price to id found head inside is_row is_head cut row there = inr (inr (
  inside,
  subst (λ (n : ℕ). IsTightCut net price [] n to inside)
      (is_head ∙ ap (λ (r : Row). r.head.id.place) (same_Some found row (sym is_row ∙ there))) cut,
))

-- under valid prices an arc with room leads to no price above its cost, and one with more than it needs to none below
abbrev pub Prices : (Node → ℕ) → Arc Node Key → Type 0
Prices price a =
    (a.flow < a.cap → price a.head ≤ a.cost + price a.tail) × (a.low < a.flow → a.cost + price a.tail ≤ price a.head)

module _ (v : View) (price : ℕ → ℕ) (p : List Choice) (keeps : Keeps v price p)
    (next : length p < length v.case.tasks) where
  abbrev n : ℕ
  n = length p

  abbrev low : Key → ℕ
  low = low_of v.case p

  abbrev task : Demand
  task = demand v.case n

  abbrev arcs : List (Arc Node Key)
  arcs = network v.case low (flows v)

  abbrev at : Key → Arc Node Key
  at key = arc_at v.case low (flows v) key

  abbrev cost_at : Node → ℕ
  cost_at node = price (spot_of v node)

  -- the row under a key
  pub named_is : (key : Key) (arc : ArcId) (row : Row) → IsKeyOf v.case key → arc ≡ v.arc key
      → row_at v.net arc ≡ Some row → named v (at key) ≡ arc_of (v.arc key) row
  named_is key arc row own is there =
      let found : IsRowOfKey v p key = row_of_key v price p key keeps own in
      found.is
      ∙ ap (arc_of (v.arc key)) (same_Some found.row row (sym found.there ∙ (ap (row_at v.net) (sym is) ∙ there)))

  -- A SET that no tight residual arc leaves, of the nodes of the network
  pub cut_closed : (from to : ℕ) (inside : ℕ → Bool) → IsTightCut v.net price [] from to inside
      → All (StaysAtNoCost cost_at (λ m. inside (spot_of v m))) arcs
  cut_closed from to inside cut =
      subst (All (StaysAtNoCost cost_at (λ m. inside (spot_of v m)))) (shown_is v price p keeps)
      (All-weaker
      (λ (a : Arc Node Key). Contains [] (v.arc a.key) ⊎ (Tight price (named v a) → StaysInside inside (named v a)))
      (StaysAtNoCost cost_at (λ m. inside (spot_of v m)))
      (λ a either.
      ⊎_elim (λ (none : Contains [] (v.arc a.key)). absurd (omega (arith, none.1))) (λ stays. stays) either)
      _
      (to_keyed v keeps.shows
      (λ (b : Arc ℕ ArcId). Contains [] b.key ⊎ (Tight price b → StaysInside inside b)) cut.closed))

  -- the arc is full, or loose, or no way leads from its head to the place
  abbrev pub IsClosedTo : ℕ → Arc ℕ ArcId → Type 0
  IsClosedTo to b =
      (b.cap ≤ b.flow)
      ⊎ ((Tight price b → ⊥) ⊎ ((inside : ℕ → Bool) × IsTightCut v.net price [] b.head to inside))

  pub closed_at : (to : ℕ) (key : Key) (arc : ArcId) → IsKeyOf v.case key → arc ≡ v.arc key
      → IsClosedAt v.net price to arc → IsClosedTo to (named v (at key))
  closed_at to key arc own is closed =
      let row : IsRowOfKey v p key = row_of_key v price p key keeps own in
      subst (IsClosedTo to) (sym row.is) (closed row.row (ap (row_at v.net) is ∙ row.there))

  module _ (y : Key → ℕ) (flow : IsAsCheap v.case p (best v p) y) where
    sends : y (Wide n) + y (Stay n) + y (Wait n) + total (λ k. y (Prefer n k)) (count_at v.case n) ≡ 1
    sends = task_sends v.case low y n next flow.balanced

    -- what crosses such a set
    crosses : (from to : ℕ) (inside : ℕ → Bool) → IsTightCut v.net price [] from to inside
        → All (Agrees (λ m. inside (spot_of v m)) y) arcs
    crosses from to inside cut =
        crossing v price p y (λ m. inside (spot_of v m)) keeps flow (cut_closed from to inside cut)

    -- it carries no more on a closed arc than the net shows, unless the set holds the arc's tail too
    pub closed_no_more : (to : ℕ) (key : Key) → IsKeyOf v.case key
        → ((inside : ℕ → Bool) → IsTightCut v.net price [] (spot_of v (at key).head) to inside
        → inside (spot_of v (at key).tail) ≡ true → y key ≤ flows v key)
        → IsClosedTo to (named v (at key)) → y key ≤ flows v key
    closed_no_more to key own both closed =
        let a : Arc Node Key = at key in
        let there : Contains arcs a = listed_at v.case low (flows v) key own in
        let other : IsOther v p y = as_other v p y flow in
        let at_key : y a.key ≡ y key = ap y (key_at v.case low (flows v) key) in
        let flow_is : a.flow ≡ flows v key = flow_at v.case low (flows v) key in
        ⊎_elim
        (λ (full : a.cap ≤ a.flow).
        omega (arith, full, (All-contains (Between y) arcs a other.within there).1, at_key, flow_is))
        (λ rest. ⊎_elim
        (λ (loose : Tight cost_at a → ⊥). omega (arith, loose_same v price p y key keeps own loose flow))
        (λ (cut : (inside : ℕ → Bool) × IsTightCut v.net price [] (spot_of v a.head) to inside).
        let agrees = All-contains (Agrees (λ m. cut.0 (spot_of v m)) y) arcs a
        (crosses (spot_of v a.head) to cut.0 cut.1) there in
        ⊎_elim (λ (t : cut.0 (spot_of v a.tail) ≡ true). both cut.0 cut.1 t)
        (λ (f : cut.0 (spot_of v a.tail) ≡ false). omega (arith, agrees.1 cut.1.start f, at_key, flow_is))
        (cases_Bool (cut.0 (spot_of v a.tail)))) rest)
        closed

    -- where the next task's unit is at the hub in this flow too, it is on no other of its arcs
    nowhere_else : (arc : TaskArc) → IsArcOf v.case n arc → flows v (Wide n) ≡ 1 → flows v (key_of n arc) ≡ 0
        → y (Wide n) ≡ 1 → y (key_of n arc) ≡ 0
    nowhere_else StayArc is one none same = omega (arith, sends, same)
    nowhere_else (PreferArc number) is one none same =
        omega (arith, sends, same, term-le-total (λ k. y (Prefer n k)) (count_at v.case n) number is)
    nowhere_else WideArc is one none same = absurd (omega (arith, one, none))
    nowhere_else WaitArc is one none same = omega (arith, sends, same)

    -- what goes by the hub at a gain does so in this flow too
    loose_wide : IsLooseAt v.net price (v.arc (Wide n)) → y (Wide n) ≡ flows v (Wide n)
    loose_wide loose =
        let row : IsRowOfKey v p (Wide n) = row_of_key v price p (Wide n) keeps next in
        loose_same v price p y (Wide n) keeps next (λ t. loose row.row row.there (subst (Tight price) row.is t)) flow

  -- THE HUB'S ARC to a machine
  pub through_spent : (j : ℕ) → j < length v.case.slots → flows v (Through j) ≤ guests v.case p j
      → IsClosedTo (spot_of v Hub) (named v (at (Through j))) → IsSpent v.case p (best v p) (Through j)
  unfolding arc_at
  through_spent j l few closed y flow =
      omega (
        arith,
        closed_no_more y flow (spot_of v Hub) (Through j) l
            (λ inside cut t. absurd (both_ways (inside (spot_of v Hub)) cut.end t)) closed,
      )

  pub through_tail : (j : ℕ) → spot_of v (at (Through j)).tail ≡ spot_of v Hub
  unfolding arc_at
  through_tail j = refl

  -- AN ARC OF THE NEXT TASK
  pub own_key : (arc : TaskArc) → IsArcOf v.case n arc → IsKeyOf v.case (key_of n arc)
  own_key StayArc is = next
  own_key (PreferArc number) is = (next, is)
  own_key WideArc is = next
  own_key WaitArc is = next

  pub own_tail : (arc : TaskArc) → (at (key_of n arc)).tail ≡ Task n
  unfolding arc_at
  own_tail StayArc = refl
  own_tail (PreferArc number) = refl
  own_tail WideArc = refl
  own_tail WaitArc = refl

  -- it carries one unit at most
  pub own_unit : (arc : TaskArc) → IsArcOf v.case n arc → flows v (key_of n arc) ≤ 1
  own_unit StayArc is = omega (arith, sends_one v price p n keeps next)
  own_unit (PreferArc number) is = omega (
    arith,
    sends_one v price p n keeps next,
    term-le-total (λ k. flows v (Prefer n k)) (count_at v.case n) number is,
  )
  own_unit WideArc is = omega (arith, sends_one v price p n keeps next)
  own_unit WaitArc is = omega (arith, sends_one v price p n keeps next)

  -- the tail of its arc to the hub
  pub wide_from : (arc : ArcId) (row : Row) → arc ≡ v.arc (Wide n) → row_at v.net arc ≡ Some row
      → row.tail.id.place ≡ spot_of v (Task n)
  wide_from arc row is there =
      sym (ap (λ (b : Arc ℕ ArcId). b.tail) (named_is (Wide n) arc row next is there))
      ∙ ap (spot_of v) (own_tail WideArc)

  wide_head : (at (Wide n)).head ≡ Hub
  unfolding arc_at
  wide_head = refl

  -- it is closed, or, where the unit is at the hub, that is loose by which it came there
  abbrev pub IsOut : Bool → TaskArc → Type 0
  IsOut at_hub arc =
      IsClosedTo (root v n at_hub) (named v (at (key_of n arc)))
      ⊎ ((at_hub ≡ true) × IsLooseAt v.net price (v.arc (Wide n)))

  pub out_closed : (at_hub : Bool) (arc : TaskArc) (id : ArcId) → IsArcOf v.case n arc → id ≡ v.arc (key_of n arc)
      → IsClosedAt v.net price (root v n at_hub) id → IsOut at_hub arc
  out_closed at_hub arc id own is closed =
      inl (closed_at (root v n at_hub) (key_of n arc) id (own_key arc own) is closed)

  pub own_spent : (at_hub : Bool) (arc : TaskArc) → IsArcOf v.case n arc → flows v (key_of n arc) ≡ 0
      → (at_hub ≡ true → flows v (Wide n) ≡ 1) → IsOut at_hub arc → IsSpent v.case p (best v p) (key_of n arc)
  own_spent at_hub arc is none hub out y flow =
      ⊎_elim
      (λ (closed : IsClosedTo (root v n at_hub) (named v (at (key_of n arc)))).
      omega (
        arith,
        none,
        closed_no_more y flow (root v n at_hub) (key_of n arc) (own_key arc is)
            (λ inside cut t. inside_too at_hub hub inside cut.end
            (ap (λ (m : Node). inside (spot_of v m)) (sym (own_tail arc)) ∙ t) (crosses y flow _ _ inside cut)) closed,
      ))
      (λ (loose : (at_hub ≡ true) × IsLooseAt v.net price (v.arc (Wide n))).
      omega (
        arith,
        nowhere_else y flow arc is (hub loose.0) none (loose_wide y flow loose.1 ∙ hub loose.0),
      ))
      out
    where
      inside_too : (b : Bool) → (b ≡ true → flows v (Wide n) ≡ 1) → (inside : ℕ → Bool)
          → inside (root v n b) ≡ false → inside (spot_of v (Task n)) ≡ true
          → All (Agrees (λ m. inside (spot_of v m)) y) arcs → y (key_of n arc) ≤ flows v (key_of n arc)
      inside_too false one inside off t agrees = absurd (both_ways (inside (spot_of v (Task n))) off t)
      inside_too true one inside off t agrees =
          let wide = All-contains (Agrees (λ m. inside (spot_of v m)) y) arcs (at (Wide n)) agrees
          (listed_at v.case low (flows v) (Wide n) next) in
          omega (
            arith,
            nowhere_else y flow arc is (one refl) none
                (ap y (sym (key_at v.case low (flows v) (Wide n)))
                ∙ (wide.0 (ap (λ (m : Node). inside (spot_of v m)) (own_tail WideArc) ∙ t)
                (ap (λ (m : Node). inside (spot_of v m)) wide_head ∙ off)
                ∙ (flow_at v.case low (flows v) (Wide n) ∙ one refl))),
          )

  -- AN EMPTY ARC of the next task to a machine, for one unit at this cost
  pub record IsWayTo (h cost : ℕ) (key : Key) : Type 0 where
    pub own : IsKeyOf v.case key
    pub tail : (at key).tail ≡ Task n
    pub head : (at key).head ≡ Machine h
    pub cap : (at key).cap ≡ 1
    pub cost_is : (at key).cost ≡ cost
    pub none : flows v key ≡ 0

  stay_way : (h : ℕ) → task.home ≡ Some h → flows v (Stay n) ≡ 0 → IsWayTo h 0 (Stay n)
  unfolding arc_at
  stay_way h home none =
      let unit : ℕ = 1 in
      record {
        own = next;
        tail = refl;
        head = ap stay_head home;
        cap = ap (λ (o : Option ℕ). cond (runs o) unit 0) home;
        cost_is = refl;
        none = none;
      }

  prefer_way : (h k : ℕ) → k < count_at v.case n → preferred_at v.case n k ≡ h → flows v (Prefer n k) ≡ 0
      → IsWayTo h (leaving v.case task) (Prefer n k)
  unfolding arc_at
  prefer_way h k there is none = record {
    own = (next, there);
    tail = refl;
    head = ap Machine is;
    cap = refl;
    cost_is = refl;
    none = none;
  }

  -- the machine's price is no higher than by this arc
  reaches : (h cost : ℕ) (key : Key) → IsWayTo h cost key → cost_at (Machine h) ≤ cost + cost_at (Task n)
  reaches h cost key way =
      let valid : Prices cost_at (at key) =
      All-contains (Prices cost_at) arcs (at key) keeps.stands.valid (listed_at v.case low (flows v) key way.own) in
      omega (
        arith,
        valid.0 (omega (arith, flow_at v.case low (flows v) key, way.none, way.cap)),
        ap cost_at way.tail,
        ap cost_at way.head,
      )

  -- it is not closed where the machine's price is that by the arc, and an arc leads on at no cost
  not_closed : (to h cost : ℕ) (key : Key) → IsWayTo h cost key → cost + cost_at (Task n) ≤ cost_at (Machine h)
      → ((inside : ℕ → Bool) → inside (spot_of v (Machine h)) ≡ true → inside to ≡ false
      → All (StaysAtNoCost cost_at (λ m. inside (spot_of v m))) arcs → ⊥)
      → IsClosedTo to (named v (at key)) → ⊥
  not_closed to h cost key way dear leads closed =
      ⊎_elim
      (λ (full : (at key).cap ≤ (at key).flow).
      absurd (omega (arith, full, flow_at v.case low (flows v) key, way.none, way.cap)))
      (λ rest. ⊎_elim
      (λ (loose : Tight cost_at (at key) → ⊥).
      loose (omega (arith, reaches h cost key way, ap cost_at way.tail, ap cost_at way.head)))
      (λ (cut : (inside : ℕ → Bool) × IsTightCut v.net price [] (spot_of v (at key).head) to inside).
      leads cut.0 (ap (λ (m : Node). cut.0 (spot_of v m)) (sym way.head) ∙ cut.1.start) cut.1.end
      (cut_closed (spot_of v (at key).head) to cut.0 cut.1)) rest)
      closed

  -- where the hub brings the machine more than the chosen guests
  open_behind : (h cost : ℕ) (key : Key) → h < length v.case.slots → flows v (Wide n) ≡ 1
      → guests v.case p h < flows v (Through h) → IsWayTo h cost key → cost ≤ by_hub v.case task
      → IsClosedTo (spot_of v Hub) (named v (at key)) ⊎ IsLooseAt v.net price (v.arc (Wide n)) → ⊥
  unfolding arc_at
  open_behind h cost key in_range one more way cheap out =
      let valid = parts (Prices cost_at) v.case low (flows v) keeps.stands.valid in
      let held_wide : wide_at v.case p n ≡ 0 = ap (wide task) (pick_past p) ∙ wide_none task in
      let by_wide : by_hub v.case task + cost_at (Task n) ≤ cost_at Hub =
      (valid.wides n next).1 (omega (arith, held_wide, one)) in
      let by_through : 0 + cost_at Hub ≤ cost_at (Machine h) = (valid.through h in_range).1 (omega (arith, more)) in
      let by_way : cost_at (Machine h) ≤ cost + cost_at (Task n) = reaches h cost key way in
      ⊎_elim
      (λ (closed : IsClosedTo (spot_of v Hub) (named v (at key))).
      not_closed (spot_of v Hub) h cost key way (omega (arith, cheap, by_wide, by_through))
      (λ inside holds lacks stays.
      let at_parts = parts (StaysAtNoCost cost_at (λ m. inside (spot_of v m))) v.case low (flows v) stays in
      omega (
        arith,
        (at_parts.through h in_range (omega (arith, by_wide, by_through, by_way, cheap))).1 holds lacks,
      )) closed)
      (λ (loose : IsLooseAt v.net price (v.arc (Wide n))).
      let row : IsRowOfKey v p (Wide n) = row_of_key v price p (Wide n) keeps next in
      loose row.row row.there (subst (Tight price) row.is (omega (arith, by_wide, by_through, by_way, cheap))))
      out

  -- where the task comes to the machine by a preference
  open_beside : (h cost k : ℕ) (key : Key) → k < count_at v.case n → preferred_at v.case n k ≡ h
      → flows v (Prefer n k) ≡ 1 → IsWayTo h cost key → cost ≤ leaving v.case task
      → IsClosedTo (spot_of v (Task n)) (named v (at key)) → ⊥
  open_beside h cost k key there is one way cheap closed =
      let valid = parts (Prices cost_at) v.case low (flows v) keeps.stands.valid in
      let held : prefer task k (pick p n) ≡ 0 = ap (prefer task k) (pick_past p) ∙ prefer_none task k in
      let by_prefer : leaving v.case task + cost_at (Task n) ≤ cost_at (Machine (preferred_at v.case n k)) =
      (valid.prefers n k next there).1 (omega (arith, held, one)) in
      let same : cost_at (Machine (preferred_at v.case n k)) ≡ cost_at (Machine h) =
      ap (λ (j : ℕ). cost_at (Machine j)) is in
      let by_way : cost_at (Machine h) ≤ cost + cost_at (Task n) = reaches h cost key way in
      not_closed (spot_of v (Task n)) h cost key way (omega (arith, cheap, by_prefer, same))
      (λ inside holds lacks stays.
      let at_parts = parts (StaysAtNoCost cost_at (λ m. inside (spot_of v m))) v.case low (flows v) stays in
      omega (
        arith,
        (at_parts.prefers n k next there (omega (arith, by_prefer, same, by_way, cheap))).1
            (ap (λ (j : ℕ). inside (spot_of v (Machine j))) is ∙ holds) lacks,
      )) closed

  -- so the head of an arc that is out has no unit that the task could follow
  way_bare : (at_hub : Bool) (h cost : ℕ) (arc : TaskArc) → h < length v.case.slots
      → IsWayTo h cost (key_of n arc) → cost ≤ leaving v.case task → (at_hub ≡ true → flows v (Wide n) ≡ 1)
      → IsOut at_hub arc → IsBare v p at_hub h
  way_bare at_hub h cost arc in_range way cheap hub out = record {
    near = λ apart k there is. ⊎_elim
        (λ (some : 0 < flows v (Prefer n k)).
        let bounds = parts (λ (a : Arc Node Key). (a.low ≤ a.flow) × (a.flow ≤ a.cap)) v.case low (flows v)
        keeps.stands.within in
        absurd (open_beside h cost k (key_of n arc) there is
        (omega (arith, some, (bounds.prefers n k next there).1)) way cheap (closed_apart at_hub apart out)))
        (λ (none : flows v (Prefer n k) ≤ 0). omega (arith, none))
        (cases_lt 0 (flows v (Prefer n k)));
    far = λ there. ⊎_elim
        (λ (more : guests v.case p h < flows v (Through h)).
        absurd (open_behind h cost (key_of n arc) in_range (hub there) more way (omega (arith, cheap))
        (closed_hub at_hub there out)))
        (λ (few : flows v (Through h) ≤ guests v.case p h). few)
        (cases_lt (guests v.case p h) (flows v (Through h)));
  }
    where
      closed_apart : (b : Bool) → b ≡ false → IsOut b arc
          → IsClosedTo (spot_of v (Task n)) (named v (at (key_of n arc)))
      closed_apart false e out = ⊎_elim (λ closed. closed) (λ loose. absurd cc) out
      closed_apart true e out = absurd cc

      closed_hub : (b : Bool) → b ≡ true → IsOut b arc
          → IsClosedTo (spot_of v Hub) (named v (at (key_of n arc))) ⊎ IsLooseAt v.net price (v.arc (Wide n))
      closed_hub true e out = ⊎_elim (λ closed. inl closed) (λ loose. inr loose.1) out
      closed_hub false e out = absurd cc

  pub own_bare : (at_hub : Bool) (arc : TaskArc) (j : ℕ) → IsArcOf v.case n arc → machine_of v.case n arc ≡ Some j
      → flows v (key_of n arc) ≡ 0 → (at_hub ≡ true → flows v (Wide n) ≡ 1) → IsOut at_hub arc → IsBare v p at_hub j
  own_bare at_hub StayArc j is leads none hub out =
      way_bare at_hub j 0 StayArc (subst (λ (o : Option ℕ). in_case o) leads (keeps.shows.homes n next))
      (stay_way j leads none) (omega arith) hub out
    where
      in_case : Option ℕ → Type 0
      in_case o = IsNodeOf v.case (stay_head o)
  own_bare at_hub (PreferArc number) j is leads none hub out =
      let is_j : preferred_at v.case n number ≡ j = same_Some _ _ leads in
      way_bare at_hub j (leaving v.case task) (PreferArc number)
      (subst (λ (z : ℕ). z < length v.case.slots) is_j (keeps.shows.preferred n number next is))
      (prefer_way j number is is_j none) (omega arith) hub out
  own_bare at_hub WideArc j is leads none hub out = absurd cc
  own_bare at_hub WaitArc j is leads none hub out = absurd cc

  -- the next task's arc to the hub is full and leads to where the arcs to the machines begin
  pub wide_full : (j : ℕ) (arc : ArcId) → j < length v.case.slots → arc ≡ v.arc (Through j)
      → flows v (Wide n) ≡ 1 → IsFullInto v.net arc (v.arc (Wide n))
  unfolding arc_at
  wide_full j arc l is one row there =
      let wide : IsRowOfKey v p (Wide n) = row_of_key v price p (Wide n) keeps next in (
        wide.row,
        wide.there,
        omega (arith, ap (λ (b : Arc ℕ ArcId). b.cap) wide.is, ap (λ (b : Arc ℕ ArcId). b.flow) wide.is),
        sym (ap (λ (b : Arc ℕ ArcId). b.head) wide.is)
            ∙ ap (λ (b : Arc ℕ ArcId). b.tail) (named_is (Through j) arc row l is there),
      )
