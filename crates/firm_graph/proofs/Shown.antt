-- The net of a graph shows the network of the case of its rows.
use Rattle.std.proofs.Common.{◌≡◌, ℕ, zero, suc, ◌+◌, ◌*◌, ◌<◌, ◌≤◌, ◌==◌, Bool, true, false, not, cond, ◌||◌, inl, inr}
use Rattle.std.proofs.Common.{⊎_elim, Option, Some, None, IfSome, List, [], ◌∷◌, ◌++◌, map, length, get_or, bytes_eq}
use Rattle.std.proofs.Common.{arith, refl, sym, ap, ap₂, ◌∙◌, subst, length-append}
use Rattle.std.specs.List.{sum_by, All, Contains, position_or_len, list_any}
use Rattle.std.specs.List.Sorted.{IsPermutation}
use Rattle.std.specs.Option.{option_map}
use Rattle.std.proofs.lemmas.Bool.{cases_Bool, cases_eq, cases_lt, cond_both, eqb-true, eq-eqb, not-true}
use Rattle.std.proofs.lemmas.List.{map-append, get_or-map, get_or_default, length-map}
use Rattle.std.proofs.lemmas.List.Sums.{position_or_len_is, sum_by-append, sum_by-cons, sum_by_push}
use Rattle.std.proofs.lemmas.List.Elements.{Contains-append_left, Contains-append_right}
use Rattle.firm_arena.specs.declared.Id.{Id}
use Rattle.firm_arena.specs.Changes.{find-changed_all}
use Rattle.firm_net.specs.Row.{Row}
use Rattle.firm_net.specs.Net.{Net, IsNode, row_at, without_flow}
use Rattle.firm_net.specs.Edits.{Span}
use Rattle.firm_net.specs.declared.row.NodeId.{NodeId}
use Rattle.firm_net.specs.declared.row.ArcId.{ArcId}
use Rattle.firm_paths.specs.Network.{Arc}
use Rattle.firm_paths.specs.NetArcs.{arcs_of}
use Rattle.firm_rules.specs.Book.{machine_names, job_names}
use Rattle.firm_rules.specs.Names.{is_among}
use Rattle.firm_rules.specs.Placement.{slot_cost, Case, Demand}
use Rattle.firm_rules.specs.Round.{place_of, machine_place, job_place, demand_of}
use Rattle.firm_rules.specs.declared.book.Machine.{Machine}
use Rattle.firm_rules.specs.declared.book.Job.{Job}
use Rattle.firm_rules.specs.declared.book.Task.{Task}
use Rattle.firm_graph.specs.Parts.{MachineParts}
use Rattle.firm_graph.specs.declared.ids.JobParts.{JobParts}
use Rattle.firm_graph.specs.declared.ids.TaskParts.{TaskParts}
use Rattle.firm_graph.specs.declared.network.Node.{Node}
use Rattle.firm_graph.specs.declared.network.Node.TheVariants.{Sink, Hub, Machine as MachineAt, Owner as JobAt}
use Rattle.firm_graph.specs.declared.network.Node.TheVariants.{Task as TaskAt}
use Rattle.firm_graph.specs.declared.network.Key.{Key}
use Rattle.firm_graph.specs.declared.network.Key.TheVariants.{Through, Slot, Exit, Wide, Stay, Wait, Prefer}
use Rattle.firm_graph.specs.Network.{gather, arc, slots_of, demand, runs, stay_head, preferred_at, leaving, away}
use Rattle.firm_graph.specs.Network.{machine_arcs, job_arcs, preferred_arcs, task_arcs}
use Rattle.firm_graph.specs.Network.{network, nodes, task_nodes as case_tasks, IsNodeOf, IsKeyOf, IsSound}
use Rattle.firm_graph.specs.View.{View, Shows, IsAtRest, lows, flows, low_of_row, flow_of_row, named, spot_of}
use Rattle.firm_graph.specs.Graph.{Graph, IsGraph, Mirrors, graph_nodes, machine_nodes, job_nodes, task_nodes}
use Rattle.firm_graph.specs.Ids.{node_id, arc_id, view_of}
use Rattle.firm_graph.specs.inner.Steps.{no_task}
use Rattle.firm_net.specs.Laws.{sum-map, contains-mapped, nodes-sum, spans-sum}
use Rattle.firm_graph.proofs.Found.{ones, ones-true, same_id, same_id-refl, same_id-true, node-there, node-weighs}
use Rattle.firm_graph.proofs.Drops.{once-from, id-once, preferred-paired}
use Rattle.firm_graph.proofs.Lookups.{at-first, at-later}
use Rattle.firm_graph.proofs.Cuts.{two}
use Rattle.firm_graph.proofs.Bridge.{from, gather_from, fill, rows_network, network_is}
use Rattle.firm_graph.proofs.Networks.{shown, graph-shown}
use Rattle.firm_graph.proofs.Permutes.{is-network}
use Rattle.firm_graph.proofs.Reflows.{cleared}

-- gathered lists
gather-map : {A B : Type 0} (g : A → B) (f : ℕ → List A) (n : ℕ) → map g (gather f n) ≡ gather (λ i. map g (f i)) n
gather-map g f zero = refl
gather-map {A} {B} g f (suc n) =
    map-append g (gather f n) (f n) ∙ ap (λ (l : List B). l ++ map g (f n)) (gather-map g f n)

from-list : {X : Type 0} (h : ℕ → X) (j : ℕ) (xs : List X) (d : X)
    → ((i : ℕ) → i < length xs → h (j + i) ≡ get_or xs i d) → from (λ i. h i ∷ []) j (length xs) ≡ xs
unfolding from
from-list h j [] d at = refl
from-list {X} h j (x ∷ xs) d at =
    let P : ℕ → X → Type 0 = λ (i : ℕ) (y : X). h i ≡ y in
    ap₂ (λ (y : X) (l : List X). y ∷ l) (at-first P d j x xs at) (from-list h (j + 1) xs d (at-later P d j x xs at))

pub gather-list : {X : Type 0} (xs : List X) (d : X) → gather (λ i. get_or xs i d ∷ []) (length xs) ≡ xs
gather-list {X} xs d =
    gather_from (λ (i : ℕ). get_or xs i d ∷ []) (length xs)
    ∙ from-list (λ (i : ℕ). get_or xs i d) 0 xs d
    (λ i below. ap (λ (k : ℕ). get_or xs k d) (let z : 0 + i ≡ i = omega arith in z))

contains-gather : {X : Type 0} (f : ℕ → List X) (n i : ℕ) (x : X) → i < n → Contains (f i) x → Contains (gather f n) x
contains-gather f zero i x below c = absurd (omega arith)
contains-gather {X} f (suc n) i x below c =
    elim (cases_lt i n) [
      | inl earlier ↦ Contains-append_left (gather f n) (f n) x (contains-gather f n i x earlier c)
      | inr last ↦
          let e : i ≡ n = omega (arith, below, last) in
          Contains-append_right (gather f n) (f n) x (subst (λ (k : ℕ). Contains (f k) x) e c)
    ]

pub gather-count : {X : Type 0} (h : ℕ → X) (n : ℕ) → length (gather (λ i. h i ∷ []) n) ≡ n
gather-count h zero = refl
gather-count h (suc n) = omega (arith, length-append (gather (λ i. h i ∷ []) n) (h n ∷ []), gather-count h n)

first-of : {X : Type 0} (x : X) (xs : List X) → Contains (x ∷ xs) x
first-of x xs = (0, omega arith, refl)

second-of : {X : Type 0} (y x : X) (xs : List X) → Contains (y ∷ x ∷ xs) x
second-of y x xs = (1, omega arith, refl)

third-of : {X : Type 0} (z y x : X) (xs : List X) → Contains (z ∷ y ∷ x ∷ xs) x
third-of z y x xs = (2, omega arith, refl)

-- where the weights come to 1 at most, two elements that weigh something are one
apart : {X : Type 0} (w : X → ℕ) (xs : List X) (i j : ℕ) (d : X) → sum_by w xs ≤ 1 → i < length xs → j < length xs
    → 0 < w (get_or xs i d) → 0 < w (get_or xs j d) → i ≡ j
apart w xs i j d few below_i below_j heavy_i heavy_j =
    elim (cases_lt i j) [
      | inl before ↦ absurd (omega (arith, few, heavy_i, heavy_j, two w xs i j d before below_j))
      | inr rest ↦
          elim (cases_lt j i) [
            | inl before ↦ absurd (omega (arith, few, heavy_i, heavy_j, two w xs j i d before below_i))
            | inr other ↦ let e : i ≡ j = omega (arith, rest, other) in e
          ]
    ]

-- a name that is there has a place
among-below : (names : List (List ℕ)) (name : List ℕ) → is_among names name ≡ true
    → position_or_len (bytes_eq name) names < length names
among-below [] name h = let clash : false ≡ true = h in absurd cc
among-below (m ∷ names) name h =
    cond_both (not (bytes_eq name m)) (1 + position_or_len (bytes_eq name) names) 0
    (λ (n : ℕ). n < length (m ∷ names))
    (λ t. omega (
      arith,
      among-below names name
          (sym (ap (λ (b : Bool). b || list_any (bytes_eq name) names) (not-true (bytes_eq name m) t)) ∙ h),
    ))
    (λ _. omega arith)

module _ (c : Case) where
  abbrev machine_places : List Node
  machine_places = gather (λ j. MachineAt j ∷ []) (length c.slots)

  abbrev job_places : List Node
  job_places = gather (λ k. JobAt k ∷ []) c.jobs

  -- each node of a case is that of the network
  pub node-listed : (n : Node) → IsNodeOf c n → Contains (nodes c) n
  node-listed Sink h = second-of Hub Sink (machine_places ++ (job_places ++ case_tasks c))
  node-listed Hub h = first-of Hub (Sink ∷ machine_places ++ (job_places ++ case_tasks c))
  node-listed (MachineAt j) h =
      Contains-append_right (Hub ∷ Sink ∷ []) (machine_places ++ (job_places ++ case_tasks c)) (MachineAt j)
      (Contains-append_left machine_places (job_places ++ case_tasks c) (MachineAt j)
      (contains-gather (λ j. MachineAt j ∷ []) (length c.slots) j (MachineAt j) h (first-of (MachineAt j) [])))
  node-listed (JobAt k) h =
      Contains-append_right (Hub ∷ Sink ∷ machine_places) (job_places ++ case_tasks c) (JobAt k)
      (Contains-append_left job_places (case_tasks c) (JobAt k)
      (contains-gather (λ k. JobAt k ∷ []) c.jobs k (JobAt k) h (first-of (JobAt k) [])))
  node-listed (TaskAt i) h =
      Contains-append_right (Hub ∷ Sink ∷ machine_places) (job_places ++ case_tasks c) (TaskAt i)
      (Contains-append_right job_places (case_tasks c) (TaskAt i)
      (contains-gather (λ i. TaskAt i ∷ []) (length c.tasks) i (TaskAt i) h (first-of (TaskAt i) [])))

-- where gathered elements weigh something, one of them does
heavy-gathered : {X : Type 0} (w : X → ℕ) (h : ℕ → X) (n : ℕ) → 0 < sum_by w (gather (λ i. h i ∷ []) n)
    → (i : ℕ) × (i < n) × (0 < w (h i))
heavy-gathered w h zero some = absurd (omega (arith, some))
heavy-gathered w h (suc n) some =
    elim (cases_eq (w (h n)) 0) [
      | inl none ↦
          let earlier = heavy-gathered w h n (omega (arith, some, none, sum_by_push w (gather (λ i. h i ∷ []) n) (h n)))
          in
          (earlier.0, omega (arith, earlier.1), earlier.2)
      | inr own ↦ (n, omega arith, omega (arith, own))
    ]

-- where the nodes of the network weigh something, one of them does
heavy-node : (c : Case) (w : Node → ℕ) → 0 < sum_by w (nodes c) → (n : Node) × IsNodeOf c n × (0 < w n)
heavy-node c w some =
    let ms : List Node = gather (λ j. MachineAt j ∷ []) (length c.slots) in
    let js : List Node = gather (λ k. JobAt k ∷ []) c.jobs in
    let ts : List Node = case_tasks c in
    let whole : sum_by w (nodes c) ≡ w Hub + (w Sink + (sum_by w ms + (sum_by w js + sum_by w ts))) =
    omega (arith, sum_by-cons {X = Node}, sum_by-append {X = Node}) in
    elim (cases_eq (w Hub) 0) [
      | inr own ↦ (Hub, tt, omega (arith, own))
      | inl no_hub ↦
          elim (cases_eq (w Sink) 0) [
            | inr own ↦ (Sink, tt, omega (arith, own))
            | inl no_sink ↦
                elim (cases_eq (sum_by w ms) 0) [
                  | inr own ↦
                      let at = heavy-gathered w (λ j. MachineAt j) (length c.slots) (omega (arith, own)) in
                      (MachineAt at.0, at.1, at.2)
                  | inl no_machine ↦
                      elim (cases_eq (sum_by w js) 0) [
                        | inr own ↦
                            let at = heavy-gathered w (λ k. JobAt k) c.jobs (omega (arith, own)) in
                            (JobAt at.0, at.1, at.2)
                        | inl no_job ↦
                            let at = heavy-gathered w (λ i. TaskAt i) (length c.tasks)
                            (omega (arith, some, whole, no_hub, no_sink, no_machine, no_job)) in
                            (TaskAt at.0, at.1, at.2)
                      ]
                ]
          ]
    ]

record HasArc (c : Case) (low x : Key → ℕ) (key : Key) : Type 0 where
  its : Arc Node Key
  listed : Contains (network c low x) its
  keyed : its.key ≡ key

module _ (c : Case) (low x : Key → ℕ) where
  abbrev machines : List (Arc Node Key)
  machines = gather (machine_arcs c low x) (length c.slots)

  abbrev jobs : List (Arc Node Key)
  jobs = gather (job_arcs c low x) c.jobs

  abbrev tasks : List (Arc Node Key)
  tasks = gather (task_arcs c low x) (length c.tasks)

  of-machine : (j : ℕ) (a : Arc Node Key) (key : Key) → j < length c.slots → Contains (machine_arcs c low x j) a →
      a.key ≡ key → HasArc c low x key
  of-machine j a key below has is =
      record {
        its = a;
        listed = Contains-append_left machines (jobs ++ tasks) a
            (contains-gather (machine_arcs c low x) (length c.slots) j a below has);
        keyed = is;
      }

  of-task : (i : ℕ) (a : Arc Node Key) (key : Key) → i < length c.tasks → Contains (task_arcs c low x i) a → a.key ≡
      key → HasArc c low x key
  of-task i a key below has is =
      record {
        its = a;
        listed = Contains-append_right machines (jobs ++ tasks) a
            (Contains-append_right jobs tasks a (contains-gather (task_arcs c low x) (length c.tasks) i a below has));
        keyed = is;
      }

  abbrev wide_arc : ℕ → Arc Node Key
  wide_arc i = arc low x (Wide i) (TaskAt i) Hub 1 (leaving c i + away c.remote (demand c i).preferred)

  abbrev stay_arc : ℕ → Arc Node Key
  stay_arc i = arc low x (Stay i) (TaskAt i) (stay_head (demand c i).home) (cond (runs (demand c i).home) 1 0) 0

  abbrev delay_arc : ℕ → Arc Node Key
  delay_arc i = arc low x (Wait i) (TaskAt i) (JobAt (demand c i).job) 1 ((demand c i).delay + leaving c i)

  abbrev preferred_arc : ℕ → ℕ → Arc Node Key
  preferred_arc i k = arc low x (Prefer i k) (TaskAt i) (MachineAt (preferred_at c i k)) 1 (leaving c i)

  key-listed : (key : Key) → IsKeyOf c key → HasArc c low x key
  key-listed (Through j) h =
      of-machine j (arc low x (Through j) Hub (MachineAt j) (slots_of c j) 0) (Through j) h
      (first-of (arc low x (Through j) Hub (MachineAt j) (slots_of c j) 0)
      (gather (λ k. arc low x (Slot j k) (MachineAt j) Sink 1 (slot_cost c.spread k) ∷ []) (slots_of c j))) refl
  key-listed (Slot j k) h =
      let a : Arc Node Key = arc low x (Slot j k) (MachineAt j) Sink 1 (slot_cost c.spread k) in
      of-machine j a (Slot j k) h.0
      (Contains-append_right (arc low x (Through j) Hub (MachineAt j) (slots_of c j) 0 ∷ [])
      (gather (λ k. arc low x (Slot j k) (MachineAt j) Sink 1 (slot_cost c.spread k) ∷ []) (slots_of c j)) a
      (contains-gather (λ k. arc low x (Slot j k) (MachineAt j) Sink 1 (slot_cost c.spread k) ∷ []) (slots_of c j) k a
      h.1 (first-of a []))) refl
  key-listed (Exit k) h =
      let a : Arc Node Key = arc low x (Exit k) (JobAt k) Sink c.limit 0 in
      record {
        its = a;
        listed = Contains-append_right machines (jobs ++ tasks) a
            (Contains-append_left jobs tasks a (contains-gather (job_arcs c low x) c.jobs k a h (first-of a [])));
        keyed = refl;
      }
  key-listed (Wide i) h =
      of-task i (wide_arc i) (Wide i) h
      (first-of (wide_arc i) (stay_arc i ∷ delay_arc i ∷ preferred_arcs c low x i)) refl
  key-listed (Stay i) h =
      of-task i (stay_arc i) (Stay i) h
      (second-of (wide_arc i) (stay_arc i) (delay_arc i ∷ preferred_arcs c low x i)) refl
  key-listed (Wait i) h =
      of-task i (delay_arc i) (Wait i) h
      (third-of (wide_arc i) (stay_arc i) (delay_arc i) (preferred_arcs c low x i)) refl
  key-listed (Prefer i k) h =
      let a : Arc Node Key = preferred_arc i k in
      of-task i a (Prefer i k) h.0
      (Contains-append_right (wide_arc i ∷ stay_arc i ∷ delay_arc i ∷ []) (preferred_arcs c low x i) a
      (contains-gather (λ k. preferred_arc i k ∷ []) (length (demand c i).preferred) k a h.1 (first-of a []))) refl

module _ (g : Graph) (is : IsGraph g) where
  abbrev v : View
  v = view_of g

  -- the nodes of the network are the graph's, one by one
  abbrev machine_count : length v.case.slots ≡ length (machine_nodes g)
  machine_count =
      length-map g.rows.machines (λ (m : Machine). m.slots) ∙ sym is.mirrors.machines ∙ sym
      (length-map g.machines (λ (p : MachineParts). p.node))

  abbrev job_count : v.case.jobs ≡ length (job_nodes g)
  job_count = sym is.mirrors.jobs ∙ sym (length-map g.jobs (λ (p : JobParts). p.node))

  abbrev task_count : length v.case.tasks ≡ length (task_nodes g)
  task_count =
      length-map g.rows.tasks (demand_of g.rows)
      ∙ sym is.mirrors.tasks ∙ sym (length-map g.tasks (λ (p : TaskParts). p.node))

  pub task-count : length v.case.tasks ≡ length (task_nodes g)
  task-count = task_count

  pub sources-named : map (node_id g) (case_tasks v.case) ≡ task_nodes g
  sources-named =
      gather-map (node_id g) (λ i. TaskAt i ∷ []) (length v.case.tasks)
      ∙ ap (gather (λ i. get_or (task_nodes g) i g.hub ∷ [])) task_count
      ∙ gather-list (task_nodes g) g.hub

  pub nodes-named : map (node_id g) (nodes v.case) ≡ graph_nodes g
  nodes-named =
      let ms : List Node = gather (λ j. MachineAt j ∷ []) (length v.case.slots) in
      let js : List Node = gather (λ k. JobAt k ∷ []) v.case.jobs in
      let machines : map (node_id g) ms ≡ machine_nodes g =
      gather-map (node_id g) (λ j. MachineAt j ∷ []) (length v.case.slots)
      ∙ ap (gather (λ i. get_or (machine_nodes g) i g.hub ∷ [])) machine_count
      ∙ gather-list (machine_nodes g) g.hub in
      let jobs : map (node_id g) js ≡ job_nodes g =
      gather-map (node_id g) (λ k. JobAt k ∷ []) v.case.jobs
      ∙ ap (gather (λ i. get_or (job_nodes g) i g.hub ∷ [])) job_count
      ∙ gather-list (job_nodes g) g.hub in
      ap (λ (l : List NodeId). g.hub ∷ g.sink ∷ l)
      (map-append (node_id g) ms (js ++ case_tasks v.case)
      ∙ ap₂ (λ (a b : List NodeId). a ++ b) machines
      (map-append (node_id g) js (case_tasks v.case) ∙ ap₂ (λ (a b : List NodeId). a ++ b) jobs sources-named))

  pub node-of : (n : Node) → IsNodeOf v.case n → IsNode g.net (node_id g n)
  node-of n h =
      node-there g.net (graph_nodes g) (node_id g n) is.mirrors.nodes
      (subst (λ (l : List NodeId). Contains l (node_id g n)) nodes-named
      (contains-mapped (node_id g) (nodes v.case) n (node-listed v.case n h)))

  -- a node of the net is one of the network's
  pub only-these : (id : NodeId) → IsNode g.net id → (n : Node) × IsNodeOf v.case n × (node_id g n ≡ id)
  only-these id there =
      let w : NodeId → ℕ = λ (m : NodeId). ones (same_id m.id id.id) in
      let at = heavy-node v.case (λ (n : Node). w (node_id g n))
      (omega (
        arith,
        node-weighs g.net id is.mirrors.net there,
        is.mirrors.nodes.weighs w,
        ap (λ (l : List NodeId). sum_by w l) nodes-named,
        sum-map w (node_id g) (nodes v.case),
      )) in
      let e : (node_id g at.0).id ≡ id.id = same_id-true (node_id g at.0).id id.id
      (ones-true (same_id (node_id g at.0).id id.id) at.2) in
      (at.0, at.1, ap (λ (i : Id). let m : NodeId = record { id = i } in m) e)

  -- the node at a place of the net
  abbrev at_spot : ℕ → Node → Bool
  at_spot p n = spot_of v n == p

  abbrev pub role : ℕ → Node
  role p = get_or (nodes v.case) (position_or_len (at_spot p) (nodes v.case)) Hub

  spots-once : (p : ℕ) → sum_by (λ n. ones (at_spot p n)) (nodes v.case) ≤ 1
  spots-once p =
      let w : NodeId → ℕ = λ (n : NodeId). ones (n.id.place == p) in
      omega (
        arith,
        sum-map w (node_id g) (nodes v.case),
        ap (λ (l : List NodeId). sum_by w l) nodes-named,
        is.mirrors.nodes.weighs w,
        nodes-sum w g.net,
        (once-from (λ (i : Id). i.place == p) p (λ i t. eqb-true i.place p t) 0 g.net.nodes.held).1,
      )

  pub role-is : (n : Node) → IsNodeOf v.case n → role (spot_of v n) ≡ n
  role-is n h =
      let p : ℕ = spot_of v n in
      let q : Node → Bool = at_spot p in
      let w : Node → ℕ = λ (m : Node). ones (q m) in
      let c = node-listed v.case n h in
      let all : List Node = nodes v.case in
      let own : get_or all c.0 n ≡ n = c.2 in
      let own_hub : get_or all c.0 Hub ≡ n = get_or_default all c.0 Hub n c.1 ∙ own in
      let yes : q (get_or all c.0 Hub) ≡ true = ap q own_hub ∙ eq-eqb p p refl in
      let heavy : w (get_or all c.0 Hub) ≡ ones true = ap ones yes in
      let first : position_or_len q all ≡ c.0 =
      position_or_len_is q all c.0 Hub (omega (arith, c.1))
      (λ k before. ⊎_elim
      (λ (t : q (get_or all k Hub) ≡ true).
      let other : w (get_or all k Hub) ≡ ones true = ap ones t in
      absurd (omega (
        arith,
        apart w all k c.0 Hub (spots-once p) (omega (arith, before, c.1)) c.1
            (omega (arith, other)) (omega (arith, heavy)),
      )))
      (λ (f : q (get_or all k Hub) ≡ false). f)
      (cases_Bool (q (get_or all k Hub))))
      (λ _. yes) in
      ap (λ (k : ℕ). get_or all k Hub) first ∙ own_hub

  -- different keys have different arcs
  ids-once : (i : Id) → sum_by (λ a. ones (same_id (arc_id g a.key).id i)) (network v.case (lows v) (flows v)) ≤ 1
  ids-once i =
      let w : Span → ℕ = λ (s : Span). ones (same_id s.arc.id i) in
      let u : Arc Node Key → ℕ = λ (a : Arc Node Key). ones (same_id (arc_id g a.key).id i) in
      omega (
        arith,
        ap (λ (l : List (Arc Node Key)). sum_by u l) (sym (network_is g.rows (lows v) (flows v))),
        sum-map u (fill (lows v) (flows v)) (rows_network g.rows),
        sum-map w (shown (node_id g) (arc_id g)) (rows_network g.rows),
        ap (λ (l : List Span). sum_by w l) (graph-shown g is.mirrors),
        is.mirrors.spans.weighs w,
        spans-sum w g.net,
        id-once i g.net.arcs.held,
      )

  pub arcs-apart : (a b : Key) → IsKeyOf v.case a → IsKeyOf v.case b → arc_id g a ≡ arc_id g b → a ≡ b
  arcs-apart a b ha hb same =
      let low : Key → ℕ = lows v in
      let x : Key → ℕ = flows v in
      let i : Id = (arc_id g a).id in
      let all : List (Arc Node Key) = network v.case low x in
      let u : Arc Node Key → ℕ = λ (r : Arc Node Key). ones (same_id (arc_id g r.key).id i) in
      let one = key-listed v.case low x a ha in
      let other = key-listed v.case low x b hb in
      let read_one : get_or all one.listed.0 one.its ≡ one.its = one.listed.2 in
      let read_other : get_or all other.listed.0 one.its ≡ other.its = get_or_default all other.listed.0 one.its
      other.its other.listed.1 ∙ other.listed.2 in
      let at_one : u (get_or all one.listed.0 one.its) ≡ ones true =
      ap u read_one ∙ ap (λ (k : Key). ones (same_id (arc_id g k).id i)) one.keyed ∙ ap ones (same_id-refl i) in
      let at_other : u (get_or all other.listed.0 one.its) ≡ ones true =
      ap u read_other ∙ ap (λ (k : Key). ones (same_id (arc_id g k).id i)) other.keyed
      ∙ ap (λ (m : ArcId). ones (same_id m.id i)) (sym same) ∙ ap ones (same_id-refl i) in
      let e : one.listed.0 ≡ other.listed.0 =
      apart u all one.listed.0 other.listed.0 one.its (ids-once i) one.listed.1 other.listed.1 (omega (arith, at_one))
      (omega (arith, at_other)) in
      let its : one.its ≡ other.its = sym read_one ∙ ap (λ (k : ℕ). get_or all k one.its) e ∙ read_other in
      sym one.keyed ∙ ap (λ (r : Arc Node Key). r.key) its ∙ other.keyed

  -- each task's job is there, and so is its machine
  read-demand : (i : ℕ) → i < length v.case.tasks → (i < length g.rows.tasks) ×
      (demand v.case i ≡ demand_of g.rows (get_or g.rows.tasks i no_task))
  read-demand i below =
      let here : i < length g.rows.tasks = omega (arith, below, length-map g.rows.tasks (demand_of g.rows)) in (
        here,
        get_or-map (demand_of g.rows) g.rows.tasks i no_task
            (record { home = None; preferred = []; delay = 0; job = 0 }) here,
      )

  job-below : (i : ℕ) → i < length v.case.tasks → (demand v.case i).job < v.case.jobs
  job-below i below =
      let r = read-demand i below in
      let job : (demand v.case i).job ≡ job_place g.rows (get_or g.rows.tasks i no_task) = ap (λ (d : Demand). d.job)
      r.1 in
      omega (
        arith,
        among-below (job_names g.rows) (get_or g.rows.tasks i no_task).job (is.sound.jobs_there i no_task r.0),
        length-map g.rows.jobs (λ (j : Job). j.name),
      )

  home-below : (home : Option (List ℕ)) → IfSome home (λ name. is_among (machine_names g.rows) name ≡ true) → IsNodeOf
      v.case (stay_head (machine_place g.rows home))
  home-below None h = tt
  home-below (Some name) h =
      omega (
        arith,
        among-below (machine_names g.rows) name h,
        length-map g.rows.machines (λ (m : Machine). m.name),
        length-map g.rows.machines (λ (m : Machine). m.slots),
      )

  home-there : (i : ℕ) → i < length v.case.tasks → IsNodeOf v.case (stay_head (demand v.case i).home)
  home-there i below =
      let r = read-demand i below in
      subst (λ (d : Demand). IsNodeOf v.case (stay_head d.home)) (sym r.1)
      (home-below (get_or g.rows.tasks i no_task).machine (is.sound.machines_there i no_task r.0))

  preferred-below : (task : Task) (k : ℕ) → k < length task.preferred
      → All (λ name. is_among (machine_names g.rows) name ≡ true) task.preferred
      → get_or (map (place_of g.rows) task.preferred) k 0 < length v.case.slots
  preferred-below task k below there =
      omega (
        arith,
        get_or-map (place_of g.rows) task.preferred k [] 0 below,
        among-below (machine_names g.rows) (get_or task.preferred k []) (there k [] below),
        length-map g.rows.machines (λ (m : Machine). m.name),
        length-map g.rows.machines (λ (m : Machine). m.slots),
      )

  preferred-there : (i k : ℕ) → i < length v.case.tasks → k < length (demand v.case i).preferred
      → preferred_at v.case i k < length v.case.slots
  preferred-there i k below_i below_k =
      let r = read-demand i below_i in
      let task : Task = get_or g.rows.tasks i no_task in
      let names : (demand v.case i).preferred ≡ map (place_of g.rows) task.preferred = ap (λ (d : Demand). d.preferred)
      r.1 in
      let below : k < length task.preferred = omega
      (arith, below_k, ap (λ (l : List ℕ). length l) names, length-map task.preferred (place_of g.rows)) in
      subst (λ (l : List ℕ). get_or l k 0 < length v.case.slots) (sym names)
      (preferred-below task k below (is.sound.preferred_there i no_task r.0))

  pub case-sound : IsSound v.case
  case-sound = record {
    jobs_in = job-below;
    limit_fits = omega (arith, length-map g.rows.tasks (demand_of g.rows));
  }

  pub graph-shows : Shows (view_of g)
  graph-shows =
      record {
        net = is.mirrors.net;
        arcs = is-network g is.mirrors;
        nodes = node-of;
        only = only-these;
        role = role;
        role_is = role-is;
        arcs_apart = arcs-apart;
        sound = case-sound;
        homes = home-there;
        preferred = preferred-there;
      }

-- a task has as many arcs to machines that it prefers as it brings preferences to a round
pub preferences-counted : (g : Graph) (place : ℕ) (parts : TaskParts) → Mirrors g → place < length g.rows.tasks
    → parts ≡ get_or g.tasks place parts
    → length parts.arcs.preferred ≡ length (demand (view_of g).case place).preferred
preferences-counted g place parts is below at =
    let task : Task = get_or g.rows.tasks place no_task in
    let none : Demand = record { home = None; preferred = []; delay = 0; job = 0 } in
    let brought : demand (view_of g).case place ≡ demand_of g.rows task = get_or-map (demand_of g.rows) g.rows.tasks
    place no_task none below in
    preferred-paired g place parts is (omega (arith, below, is.tasks)) at
    ∙ sym (length-map task.preferred (place_of g.rows))
    ∙ ap (λ (d : Demand). length d.preferred) (sym brought)

-- an arc of a net whose flow was cleared has neither lower bound nor flow
at-rest : (net : Net) (a : ArcId) → (low_of_row (row_at (without_flow net) a) ≡ 0) ×
    (flow_of_row (row_at (without_flow net) a) ≡ 0)
at-rest net a =
    let found : row_at (without_flow net) a ≡ option_map cleared (row_at net a) =
    find-changed_all net.arcs cleared a.id in
    let none = no-flow (row_at net a) in
    (ap low_of_row found ∙ none.0, ap flow_of_row found ∙ none.1)
  where
    no-flow : (o : Option Row) → (low_of_row (option_map cleared o) ≡ 0) × (flow_of_row (option_map cleared o) ≡ 0)
    no-flow None = (refl, refl)
    no-flow (Some row) = (refl, refl)

same-fill : (low x low' x' : Key → ℕ) (arcs : List (Arc Node Key)) → ((key : Key) → low key ≡ low' key)
    → ((key : Key) → x key ≡ x' key) → map (fill low x) arcs ≡ map (fill low' x') arcs
same-fill low x low' x' [] lows_same flows_same = refl
same-fill low x low' x' (a ∷ arcs) lows_same flows_same =
    ap₂ (λ (b : Arc Node Key) (l : List (Arc Node Key)). b ∷ l)
    (ap₂ (λ (m n : ℕ). let b : Arc Node Key = record a { low = m; flow = n } in b) (lows_same a.key) (flows_same a.key))
    (same-fill low x low' x' arcs lows_same flows_same)

-- a graph whose net was cleared is the network of its rows, and nothing flows
pub cleared-rests : (g : Graph) (net : Net) → Mirrors g → g.net ≡ without_flow net → IsAtRest (view_of g)
cleared-rests g net is clear =
    let v : View = view_of g in
    let none : Key → ℕ = λ (key : Key). 0 in
    let low : (key : Key) → lows v key ≡ 0 =
    λ key. ap (λ (n : Net). low_of_row (row_at n (v.arc key))) clear ∙ (at-rest net (v.arc key)).0 in
    let flow : (key : Key) → flows v key ≡ 0 =
    λ key. ap (λ (n : Net). flow_of_row (row_at n (v.arc key))) clear ∙ (at-rest net (v.arc key)).1 in
    let same : network v.case (lows v) (flows v) ≡ network v.case none none =
    sym (network_is g.rows (lows v) (flows v))
    ∙ same-fill (lows v) (flows v) none none (rows_network g.rows) low flow
    ∙ network_is g.rows none none in
    subst (λ (l : List (Arc Node Key)). IsPermutation (arcs_of v.net) (map (named v) l)) same (is-network g is)
