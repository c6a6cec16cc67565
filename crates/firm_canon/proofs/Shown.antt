-- Facts carried over between a net and the network that it represents.
use Rattle.std.proofs.Common.{◌≡◌, ℕ, zero, suc, ◌*◌, ◌<◌, ◌≤◌, List, [], ◌∷◌, ◌++◌, length, get_or, Some, refl, sym}
use Rattle.std.proofs.Common.{ap, ap₂, ◌∙◌, arith, subst}
use Rattle.std.specs.Prelude.{map, Contains}
use Rattle.std.specs.List.{All, sum_by}
use Rattle.std.proofs.lemmas.List.{get_or-map, length-map}
use Rattle.std.proofs.lemmas.List.Sums.{sum_by-cons}
use Rattle.std.proofs.lemmas.List.Sorted.{sum_by-IsPermutation, All-permutation, IsPermutation-sym, length_permutation}
use Rattle.std.proofs.lemmas.List.Elements.{All-head, All-tail, All-nil, All-cons, All-map, All-contains}
use Rattle.std.proofs.lemmas.List.Elements.{All-contains_itself}
use Rattle.firm_net.specs.Row.{Row}
use Rattle.firm_net.specs.Laws.{sum-map}
use Rattle.firm_net.specs.Net.{row_at, arc_count}
use Rattle.firm_net.specs.declared.row.ArcId.{ArcId}
use Rattle.firm_paths.specs.Network.{Arc, AreValid, IsValidAt}
use Rattle.firm_paths.specs.NetArcs.{arc_of, arcs_of}
use Rattle.firm_paths.specs.Laws.{EachArcHasItsRow, AsManyAsCounted}
use Rattle.firm_rules.specs.ArenaUse.{arena_arcs}
use Rattle.firm_graph.specs.Graph.{Graph}
use Rattle.firm_graph.specs.Ids.{view_of}
use Rattle.firm_graph.specs.Network.{NetworksAreCounted, gather, arc, slots_of, demand, preferred_at, stay_head}
use Rattle.firm_graph.specs.Network.{machine_arcs, job_arcs, task_arcs, network, task_nodes, IsSound, IsNodeOf, IsKeyOf}
use Rattle.firm_flow.specs.Flow.{IsWithinBounds, cost_of, carried}
use Rattle.firm_flow.specs.Balance.{Balanced}
use Rattle.firm_rules.specs.Placement.{Case, slot_cost}
use Rattle.firm_graph.specs.declared.network.Node.{Node}
use Rattle.firm_graph.specs.declared.network.Node.TheVariants.{Sink, Hub, Machine, Owner, Task}
use Rattle.firm_graph.specs.declared.network.Key.{Key}
use Rattle.firm_graph.specs.declared.network.Key.TheVariants.{Through, Slot, Exit, Wide, Stay, Wait, Prefer}
use Rattle.firm_graph.specs.View.{View, Shows, lows, flows, spot_of, named}
use Rattle.firm_canon.specs.inner.Turns.{IsWhole}
use Rattle.firm_canon.proofs.Placed.{wide_arc, stay_arc, delay_arc, prefer_arc, count_at}
use Rattle.firm_canon.proofs.Parts.{OnParts, parts, whole, All-gather}

All-unmap : {A B : Type 0} (f : A → B) (P : B → Type 0) (xs : List A) → All P (map f xs) → All (λ x. P (f x)) xs
All-unmap f P xs h k d l = subst P (get_or-map f xs k d (f d) l) (h k (f d) (omega (arith, l, length-map xs f)))

sums_at : {A : Type 0} (f g : A → ℕ) (xs : List A) → All (λ x. f x ≡ g x) xs → sum_by f xs ≡ sum_by g xs
sums_at {A} f g [] h = refl
sums_at {A} f g (x ∷ xs) h =
    let P : A → Type 0 = λ (y : A). f y ≡ g y in
    omega (arith, sum_by-cons {X = A}, All-head P x xs h, sums_at f g xs (All-tail P x xs h))

-- the network reads lower bounds and flows at its own keys alone
gather_same : {A : Type 0} (f g : ℕ → List A) (n : ℕ) → ((i : ℕ) → i < n → f i ≡ g i) → gather f n ≡ gather g n
gather_same f g zero h = refl
gather_same {A} f g (suc n) h = ap₂ (λ (a b : List A). a ++ b) (gather_same f g n (λ i l. h i (omega arith)))
    (h n (omega arith))

arc_same : (low low' x x' : Key → ℕ) (key : Key) (tail head : Node) (cap cost : ℕ) → low key ≡ low' key → x key ≡ x' key
    → arc low x key tail head cap cost ≡ arc low' x' key tail head cap cost
arc_same low low' x x' key tail head cap cost e f =
    ap₂ (λ (a b : ℕ). let r : Arc Node Key = record
    { key = key; tail = tail; head = head; low = a; cap = cap; cost = cost; flow = b } in r) e f

pub network_same : (c : Case) (low low' x x' : Key → ℕ) → ((k : Key) → IsKeyOf c k → low k ≡ low' k)
    → ((k : Key) → IsKeyOf c k → x k ≡ x' k)
    → network c low x ≡ network c low' x'
network_same c low low' x x' e f =
    let same : (key : Key) (tail head : Node) (cap cost : ℕ) → IsKeyOf c key
    → arc low x key tail head cap cost ≡ arc low' x' key tail head cap cost =
    λ key tail head cap cost k. arc_same low low' x x' key tail head cap cost (e key k) (f key k) in
    ap₂ (λ (a b : List (Arc Node Key)). a ++ b)
    (gather_same (machine_arcs c low x) (machine_arcs c low' x') (length c.slots) (λ j l.
    ap₂ (λ (a : Arc Node Key) (b : List (Arc Node Key)). a ∷ b) (same (Through j) Hub (Machine j) (slots_of c j) 0 l)
    (gather_same (λ (k : ℕ). arc low x (Slot j k) (Machine j) Sink 1 (slot_cost c.spread k) ∷ [])
    (λ (k : ℕ). arc low' x' (Slot j k) (Machine j) Sink 1 (slot_cost c.spread k) ∷ []) (slots_of c j)
    (λ k m. ap (λ (a : Arc Node Key). a ∷ []) (same (Slot j k) (Machine j) Sink 1 (slot_cost c.spread k) (l, m))))))
    (ap₂ (λ (a b : List (Arc Node Key)). a ++ b)
    (gather_same (job_arcs c low x) (job_arcs c low' x') c.jobs
    (λ k l. ap (λ (a : Arc Node Key). a ∷ []) (same (Exit k) (Owner k) Sink c.limit 0 l)))
    (gather_same (task_arcs c low x) (task_arcs c low' x') (length c.tasks) (λ i l.
    ap₂ (λ (a : Arc Node Key) (b : List (Arc Node Key)). a ∷ b) (same (Wide i) (Task i) Hub 1 _ l)
    (ap₂ (λ (a : Arc Node Key) (b : List (Arc Node Key)). a ∷ b)
    (same (Stay i) (Task i) (stay_head (demand c i).home) _ 0 l)
    (ap₂ (λ (a : Arc Node Key) (b : List (Arc Node Key)). a ∷ b)
    (same (Wait i) (Task i) (Owner (demand c i).job) 1 _ l)
    (gather_same (λ (k : ℕ). prefer_arc c low x i k ∷ []) (λ (k : ℕ). prefer_arc c low' x' i k ∷ []) (count_at c i)
    (λ k m. ap (λ (a : Arc Node Key). a ∷ [])
    (same (Prefer i k) (Task i) (Machine (preferred_at c i k)) 1 _ (l, m)))))))))

-- each arc of the network has a key and ends of the case
pub record IsProper (c : Case) (a : Arc Node Key) : Type 0 where
  pub key : IsKeyOf c a.key
  pub tail : IsNodeOf c a.tail
  pub head : IsNodeOf c a.head

pub proper : (c : Case) (low x : Key → ℕ) → IsSound c
    → ((i : ℕ) → i < length c.tasks → IsNodeOf c (stay_head (demand c i).home))
    → ((i k : ℕ) → i < length c.tasks → k < count_at c i → preferred_at c i k < length c.slots)
    → All (IsProper c) (network c low x)
proper c low x sound homes preferred =
    whole (IsProper c) c low x (record {
      through = λ j l. record { key = l; tail = tt; head = l };
      slot = λ j k l r. record { key = (l, r); tail = l; head = tt };
      exit = λ k l. record { key = l; tail = l; head = tt };
      wides = λ i l. record { key = l; tail = l; head = tt };
      stays = λ i l. record { key = l; tail = l; head = homes i l };
      delays = λ i l. record { key = l; tail = l; head = sound.jobs_in i l };
      prefers = λ i k l m. record { key = (l, m); tail = l; head = preferred i k l m };
    })

module _ (v : View) (shows : Shows v) where
  abbrev arcs : List (Arc Node Key)
  arcs = network v.case (lows v) (flows v)

  pub to_keyed : (P : Arc ℕ ArcId → Type 0) → All P (arcs_of v.net) → All (λ a. P (named v a)) arcs
  to_keyed P h = All-unmap (named v) P arcs (All-permutation P (arcs_of v.net) (map (named v) arcs) shows.arcs h)

  pub to_net : (P : Arc ℕ ArcId → Type 0) → All (λ a. P (named v a)) arcs → All P (arcs_of v.net)
  to_net P h = All-permutation P (map (named v) arcs) (arcs_of v.net)
      (IsPermutation-sym (arcs_of v.net) (map (named v) arcs) shows.arcs) (All-map P (named v) arcs h)

  sums_shown : (F : Arc ℕ ArcId → ℕ) → sum_by F (arcs_of v.net) ≡ sum_by (λ a. F (named v a)) arcs
  sums_shown F = sym (sum_by-IsPermutation F (arcs_of v.net) (map (named v) arcs) shows.arcs) ∙ sum-map F (named v) arcs

  pub cost_shown : cost_of (arcs_of v.net) carried ≡ cost_of arcs carried
  cost_shown = sums_shown (λ (a : Arc ℕ ArcId). a.cost * a.flow)

  sources_in : (f : ℕ → Node) (n : ℕ) (P : Node → Type 0) → ((i : ℕ) → i < n → P (f i))
      → All P (gather (λ i. f i ∷ []) n)
  sources_in f n P h = All-gather P (λ (i : ℕ). f i ∷ []) n (λ i l. All-cons P (f i) [] (h i l) (All-nil P))

  pub whole_keyed : (price : ℕ → ℕ) → IsWhole v.net price (map (spot_of v) (task_nodes v.case)) (spot_of v Sink)
      → AreValid arcs (λ n. price (spot_of v n)) × IsWithinBounds arcs carried
      × Balanced arcs (task_nodes v.case) Sink carried
  whole_keyed price net = (
    to_keyed (IsValidAt price) net.valid,
    to_keyed (λ (a : Arc ℕ ArcId). (a.low ≤ a.flow) × (a.flow ≤ a.cap)) net.within,
    λ w.
        let ends = proper v.case (lows v) (flows v) shows.sound shows.homes shows.preferred in
        let g : ℕ → ℕ = λ (z : ℕ). w (shows.role z) in
        let heads : sum_by (λ (a : Arc ℕ ArcId). g a.head * a.flow) (arcs_of v.net)
        ≡ sum_by (λ (a : Arc Node Key). w a.head * a.flow) arcs =
        sums_shown (λ (a : Arc ℕ ArcId). g a.head * a.flow)
        ∙ sums_at (λ (a : Arc Node Key). g (spot_of v a.head) * a.flow) (λ (a : Arc Node Key). w a.head * a.flow) arcs
        (λ k d l. ap (λ n. w n * (get_or arcs k d).flow) (shows.role_is (get_or arcs k d).head (ends k d l).head)) in
        let tails : sum_by (λ (a : Arc ℕ ArcId). g a.tail * a.flow) (arcs_of v.net)
        ≡ sum_by (λ (a : Arc Node Key). w a.tail * a.flow) arcs =
        sums_shown (λ (a : Arc ℕ ArcId). g a.tail * a.flow)
        ∙ sums_at (λ (a : Arc Node Key). g (spot_of v a.tail) * a.flow) (λ (a : Arc Node Key). w a.tail * a.flow) arcs
        (λ k d l. ap (λ n. w n * (get_or arcs k d).flow) (shows.role_is (get_or arcs k d).tail (ends k d l).tail)) in
        let from : sum_by g (map (spot_of v) (task_nodes v.case)) ≡ sum_by w (task_nodes v.case) =
        sum-map g (spot_of v) (task_nodes v.case)
        ∙ sums_at (λ (s : Node). g (spot_of v s)) w (task_nodes v.case)
        (sources_in Task (length v.case.tasks) (λ (s : Node). g (spot_of v s) ≡ w s)
        (λ i l. ap w (shows.role_is (Task i) l))) in
        omega (
          arith,
          net.balanced g,
          ap (λ n. w n * length (map (spot_of v) (task_nodes v.case))) (shows.role_is Sink tt),
          ap (λ z. w Sink * z) (length-map (task_nodes v.case) (spot_of v)),
        ),
  )

  pub whole_net : (price : ℕ → ℕ) → AreValid arcs (λ n. price (spot_of v n)) → IsWithinBounds arcs carried
      → Balanced arcs (task_nodes v.case) Sink carried
      → IsWhole v.net price (map (spot_of v) (task_nodes v.case)) (spot_of v Sink)
  whole_net price valid within balanced = record {
    valid = to_net (IsValidAt price) valid;
    within = to_net (λ (a : Arc ℕ ArcId). (a.low ≤ a.flow) × (a.flow ≤ a.cap)) within;
    balanced = λ w.
        omega (
          arith,
          balanced (λ (n : Node). w (spot_of v n)),
          sums_shown (λ (a : Arc ℕ ArcId). w a.head * a.flow),
          sums_shown (λ (a : Arc ℕ ArcId). w a.tail * a.flow),
          sum-map w (spot_of v) (task_nodes v.case),
          ap (λ z. w (spot_of v Sink) * z) (length-map (task_nodes v.case) (spot_of v)),
        );
  }

  -- the row of an arc of the network
  pub record IsRowOfArc (a : Arc Node Key) : Type 0 where
    pub row : Row
    pub there : row_at v.net (v.arc a.key) ≡ Some row
    pub is : named v a ≡ arc_of (v.arc a.key) row

  pub row_shown : EachArcHasItsRow → (a : Arc Node Key) → Contains arcs a → IsRowOfArc a
  row_shown law a c =
      let listed : Contains (arcs_of v.net) (named v a) =
      All-contains (λ (b : Arc Node Key). Contains (arcs_of v.net) (named v b)) arcs a
      (to_keyed (Contains (arcs_of v.net)) (All-contains_itself (arcs_of v.net))) c in
      let found = law v.net (named v a) listed in
      record { row = found.0; there = found.1; is = found.2 }

-- the net has as many arcs as the rows take of the arena
pub arcs_counted : AsManyAsCounted → NetworksAreCounted → (g : Graph) → Shows (view_of g)
    → arc_count g.net ≡ arena_arcs g.rows
arcs_counted listed counted g shows =
    let v : View = view_of g in
    let arcs : List (Arc Node Key) = network v.case (lows v) (flows v) in
    sym (listed g.net)
    ∙ (sym (length_permutation (arcs_of g.net) (map (named v) arcs) shows.arcs)
    ∙ (length-map arcs (named v) ∙ (counted g.rows).arcs (lows v) (flows v)))

-- the arc of a key
unfoldable pub arc_at : (c : Case) (low x : Key → ℕ) → Key → Arc Node Key
arc_at c low x (Through j) = arc low x (Through j) Hub (Machine j) (slots_of c j) 0
arc_at c low x (Slot j k) = arc low x (Slot j k) (Machine j) Sink 1 (slot_cost c.spread k)
arc_at c low x (Exit k) = arc low x (Exit k) (Owner k) Sink c.limit 0
arc_at c low x (Wide i) = wide_arc c low x i
arc_at c low x (Stay i) = stay_arc c low x i
arc_at c low x (Wait i) = delay_arc c low x i
arc_at c low x (Prefer i k) = prefer_arc c low x i k

-- what the arc of a key carries
fields_at : (c : Case) (low x : Key → ℕ) (k : Key)
    → ((arc_at c low x k).key ≡ k) × ((arc_at c low x k).flow ≡ x k) × ((arc_at c low x k).low ≡ low k)
unfolding arc_at
fields_at c low x (Through j) = (refl, refl, refl)
fields_at c low x (Slot j k) = (refl, refl, refl)
fields_at c low x (Exit k) = (refl, refl, refl)
fields_at c low x (Wide i) = (refl, refl, refl)
fields_at c low x (Stay i) = (refl, refl, refl)
fields_at c low x (Wait i) = (refl, refl, refl)
fields_at c low x (Prefer i k) = (refl, refl, refl)

pub key_at : (c : Case) (low x : Key → ℕ) (k : Key) → (arc_at c low x k).key ≡ k
key_at c low x k = (fields_at c low x k).0

pub flow_at : (c : Case) (low x : Key → ℕ) (k : Key) → (arc_at c low x k).flow ≡ x k
flow_at c low x k = (fields_at c low x k).1

pub low_at : (c : Case) (low x : Key → ℕ) (k : Key) → (arc_at c low x k).low ≡ low k
low_at c low x k = (fields_at c low x k).2

pub listed_at : (c : Case) (low x : Key → ℕ) (k : Key) → IsKeyOf c k → Contains (network c low x) (arc_at c low x k)
unfolding arc_at
listed_at c low x k l = by k l
  where
    listed : OnParts (Contains (network c low x)) c low x
    listed = parts (Contains (network c low x)) c low x (All-contains_itself (network c low x))

    by : (k : Key) → IsKeyOf c k → Contains (network c low x) (arc_at c low x k)
    by (Through j) l = listed.through j l
    by (Slot j k) l = listed.slot j k l.0 l.1
    by (Exit k) l = listed.exit k l
    by (Wide i) l = listed.wides i l
    by (Stay i) l = listed.stays i l
    by (Wait i) l = listed.delays i l
    by (Prefer i k) l = listed.prefers i k l.0 l.1
