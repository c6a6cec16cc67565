-- A placement gives a flow of the same cost.
use Rattle.std.proofs.Common.{◌≡◌, ℕ, zero, suc, ◌+◌, ◌*◌, ◌<◌, ◌≤◌, Bool, true, false, not, ◌&&◌, cond, eqb, ltb, List}
use Rattle.std.proofs.Common.{[], ◌∷◌, ◌++◌, length, get_or, arith, refl, sym, ap, subst, ◌∙◌, inl, inr, ◌⊎◌, ⊎_elim}
use Rattle.std.proofs.Common.{Option, Some, None}
use Rattle.std.specs.List.{All, sum_by}
use Rattle.std.proofs.lemmas.List.Sums.{sum_by-cons, sum_by-append}
use Rattle.std.proofs.lemmas.List.{length-append}
use Rattle.std.proofs.lemmas.List.Elements.{All-head, All-tail}
use Rattle.std.proofs.lemmas.Bool.{cases_Bool, cases_lt, cond-true, cond-false, eqb-true, lt-ltb, le-ltb}
use Rattle.std.proofs.Math.Nat.{mul-add, mul-zero}
use Rattle.firm_rules.specs.declared.rounds.Choice.{Choice}
use Rattle.firm_rules.specs.declared.rounds.Choice.TheVariants.{On, Wait}
use Rattle.firm_rules.specs.Placement.{Demand, Case, total, load, load_cost, goes_to, task_cost, tasks_cost, leaves}
use Rattle.firm_rules.specs.Placement.{runs_at, prefers, IsLegal, placement_cost as cost, IsPlace, slot_cost}
use Rattle.firm_rules.specs.SlotCosts.{LoadsAreSumsOfSlots}
use Rattle.firm_paths.specs.Network.{Arc}
use Rattle.firm_flow.specs.Flow.{cost_of}
use Rattle.firm_graph.specs.Network.{runs, gather, arc, slots_of, demand, preferred_at, stay_head, machine_arcs}
use Rattle.firm_graph.specs.Network.{job_arcs, task_arcs, network, task_nodes, IsSound}
use Rattle.firm_graph.specs.declared.network.Node.{Node}
use Rattle.firm_graph.specs.declared.network.Node.TheVariants.{Sink, Hub, Machine, Owner, Task}
use Rattle.firm_graph.specs.declared.network.Key.{Key}
use Rattle.firm_graph.specs.declared.network.Key.TheVariants.{Through, Slot, Exit, Wide, Stay, Wait as WaitArc, Prefer}
use Rattle.firm_canon.proofs.Totals.{staircase, total_zero, total_same, total-add, total-mul, total_front}
use Rattle.firm_canon.proofs.Totals.{total_regroup, sum_gather}
use Rattle.firm_flow.specs.Balance.{Balanced}
use Rattle.firm_canon.specs.inner.Placed.{pick, wide, stay, waits, near, prefer, spot, wide_at, stay_at, near_at}
use Rattle.firm_canon.specs.inner.Placed.{prefer_at, guests, stayers, comers, placed}
use Rattle.firm_canon.proofs.Nears.{one_way, prefer_weighed, prefer_all, stay_none, wait_stay}

pub pick_some : (q : List Choice) (i : ℕ) → i < length q → (o : Choice) × (pick q i ≡ Some o)
pick_some [] i l = absurd (omega arith)
pick_some (o ∷ q) zero l = (o, refl)
pick_some (o ∷ q) (suc i) l = pick_some q i (omega arith)

-- a fact on each option choice that is there, at a place of the placement
pub at_pick : (q : List Choice) (i : ℕ) (P : Option Choice → Type 0) → i < length q → ((o : Choice) → P (Some o))
    → P (pick q i)
at_pick q i P l h = let s = pick_some q i l in subst P (sym s.1) (h s.0)

-- a sum over a placement, by place
sum_pick : (F : Choice → ℕ) (G : Option Choice → ℕ) (q : List Choice) → ((o : Choice) → G (Some o) ≡ F o)
    → sum_by F q ≡ total (λ i. G (pick q i)) (length q)
sum_pick F G [] h = refl
sum_pick F G (o ∷ q) h = omega (
  arith,
  sum_by-cons F o q,
  sum_pick F G q h,
  h o,
  total_front (λ (i : ℕ). G (pick (o ∷ q) i)) (length q),
)

on_is : (j : ℕ) (t : Demand) (o : Choice)
    → cond (goes_to j o) 1 0 ≡ cond (eqb (spot (Some o)) j) (wide t (Some o)) 0
    + cond (eqb (spot (Some o)) j) (stay t.home (Some o)) 0 + cond (eqb (spot (Some o)) j) (near t (Some o)) 0
on_is j t Wait =
    let sides : (b : Bool) (x : ℕ) → x ≡ 0 → 0 ≡ cond b 0 0 + cond b x 0 + cond b 0 0 =
    λ b x z. elim b as (λ b. 0 ≡ cond b 0 0 + cond b x 0 + cond b 0 0) [ true ↦ omega (arith, z) | false ↦ refl ] in
    sides (eqb 0 j) (stay t.home (Some Wait)) (omega (arith, one_way t Wait))
on_is j t (On k) =
    let sides : (b : Bool) (x y z : ℕ) → x + y + 0 + z ≡ 1 → cond b 1 0 ≡ cond b x 0 + cond b y 0 + cond b z 0 =
    λ b x y z e. elim b as (λ b. cond b 1 0 ≡ cond b x 0 + cond b y 0 + cond b z 0)
    [ true ↦ omega (arith, e) | false ↦ refl ] in
    sides (eqb k j) (wide t (Some (On k))) (stay t.home (Some (On k))) (near t (Some (On k))) (one_way t (On k))

-- a machine's load is its guests, those that stay and those that come as they prefer it
pub load_is : (c : Case) (q : List Choice) (j : ℕ) → length q ≡ length c.tasks
    → load q j ≡ guests c q j + stayers c q j + comers c q j
load_is c q j e =
    let is : Option Choice → ℕ = λ (o : Option Choice).
    elim o as (λ o. ℕ) [ None ↦ 0 | Some x ↦ cond (goes_to j x) 1 0 ] in
    let guest : ℕ → ℕ = λ (i : ℕ). cond (eqb (spot (pick q i)) j) (wide_at c q i) 0 in
    let stayer : ℕ → ℕ = λ (i : ℕ). cond (eqb (spot (pick q i)) j) (stay_at c q i) 0 in
    let comer : ℕ → ℕ = λ (i : ℕ). cond (eqb (spot (pick q i)) j) (near_at c q i) 0 in
    sum_pick (λ (o : Choice). cond (goes_to j o) 1 0) is q (λ o. refl)
    ∙ (ap (λ n. total (λ i. is (pick q i)) n) e
    ∙ (total_same (λ (i : ℕ). is (pick q i)) (λ (i : ℕ). guest i + stayer i + comer i) (length c.tasks)
    (λ i l. at_pick q i (λ o. is o ≡ cond (eqb (spot o) j) (wide (demand c i) o) 0
    + cond (eqb (spot o) j) (stay (demand c i).home o) 0 + cond (eqb (spot o) j) (near (demand c i) o) 0)
    (omega (arith, l, e)) (λ o. on_is j (demand c i) o))
    ∙ (total-add (λ (i : ℕ). guest i + stayer i) comer (length c.tasks)
    ∙ ap (λ (n : ℕ). n + total comer (length c.tasks)) (total-add guest stayer (length c.tasks)))))

-- the first n slots are filled
total_below : (n s : ℕ) → n ≤ s → total (λ k. cond (ltb k n) 1 0) s ≡ n
total_below n zero l = omega arith
total_below n (suc s) l =
    ⊎_elim (λ (h : s < n).
    omega (arith, cond-true {A = ℕ} (ltb s n) 1 0 (lt-ltb s n h), total_all n s (omega arith)))
    (λ (h : n ≤ s). omega (arith, cond-false {A = ℕ} (ltb s n) 1 0 (le-ltb s n h), total_below n s h))
    (cases_lt s n)
  where
    total_all : (n s : ℕ) → s ≤ n → total (λ k. cond (ltb k n) 1 0) s ≡ s
    total_all n zero l = refl
    total_all n (suc s) l = omega (
      arith,
      total_all n s (omega arith),
      cond-true {A = ℕ} (ltb s n) 1 0 (lt-ltb s n (omega arith)),
    )

-- the costs of the tasks, by place
pub tasks_cost_is : (c : Case) (G : Demand → Option Choice → ℕ) (d : Demand) (ts : List Demand) (q : List Choice)
    → length q ≡ length ts
    → ((t : Demand) (o : Choice) → G t (Some o) ≡ task_cost c t o)
    → tasks_cost c ts q ≡ total (λ i. G (get_or ts i d) (pick q i)) (length ts)
tasks_cost_is c G d [] q e h = refl
tasks_cost_is c G d (t ∷ ts) [] e h = absurd (omega arith)
tasks_cost_is c G d (t ∷ ts) (o ∷ q) e h =
    omega (
      arith,
      tasks_cost_is c G d ts q (omega arith) h,
      h t o,
      total_front (λ (i : ℕ). G (get_or (t ∷ ts) i d) (pick (o ∷ q) i)) (length ts),
    )

-- what a task's way by the hub costs, and what takes a running task from its machine
abbrev pub leaving : Case → Demand → ℕ
leaving c t = cond (runs t.home) c.churn 0

abbrev pub by_hub : Case → Demand → ℕ
by_hub c t = leaving c t + cond (ltb 0 (length t.preferred)) c.remote 0

abbrev pub task_arcs_cost : Case → Demand → Option Choice → ℕ
task_arcs_cost c t o = by_hub c t * wide t o + (t.delay + leaving c t) * waits o + leaving c t * near t o

runs_away : (c : Case) (home : Option ℕ) (j : ℕ) → runs_at home j ≡ false
    → cond (leaves home (On j)) c.churn 0 ≡ cond (runs home) c.churn 0
runs_away c None j other = refl
runs_away c (Some h) j other = cond-true {A = ℕ} (not (eqb h j)) c.churn 0 (ap not other)

stays_there : (c : Case) (home : Option ℕ) (j : ℕ) → runs_at home j ≡ true → cond (leaves home (On j)) c.churn 0 ≡ 0
stays_there c None j own = absurd cc
stays_there c (Some h) j own = cond-false {A = ℕ} (not (eqb h j)) c.churn 0 (ap not own)

waits_there : (c : Case) (home : Option ℕ) → cond (leaves home Wait) c.churn 0 ≡ cond (runs home) c.churn 0
waits_there c None = refl
waits_there c (Some h) = refl

-- what the way to a machine costs: the task's own, one that it prefers or another
way_cost : (own close has : Bool) (remote away hub delay churn : ℕ) → (own ≡ true → away ≡ 0)
    → (own ≡ false → away ≡ churn) → hub ≡ churn + cond has remote 0
    → hub * cond own 0 (cond close 0 1) + (delay + churn) * 0 + churn * cond own 0 (cond close 1 0)
    ≡ away + cond (has && not close && not own) remote 0
way_cost own close has remote away hub delay churn here there e = grind arith

pub task_cost_is : (c : Case) (t : Demand) (o : Choice) → task_arcs_cost c t (Some o) ≡ task_cost c t o
task_cost_is c t Wait = omega (
  arith,
  waits_there c t.home,
  mul-zero (by_hub c t),
  mul-zero (leaving c t),
)
task_cost_is c t (On j) =
    way_cost (runs_at t.home j) (prefers t j) (ltb 0 (length t.preferred)) c.remote
    (cond (leaves t.home (On j)) c.churn 0) (by_hub c t) t.delay (leaving c t) (stays_there c t.home j)
    (runs_away c t.home j) refl

-- the arcs of a task, as the network has them
abbrev pub wide_arc : Case → (Key → ℕ) → (Key → ℕ) → ℕ → Arc Node Key
wide_arc c low x i = arc low x (Wide i) (Task i) Hub 1 (by_hub c (demand c i))

abbrev pub stay_arc : Case → (Key → ℕ) → (Key → ℕ) → ℕ → Arc Node Key
stay_arc c low x i =
    arc low x (Stay i) (Task i) (stay_head (demand c i).home) (cond (runs (demand c i).home) 1 0) 0

abbrev pub delay_arc : Case → (Key → ℕ) → (Key → ℕ) → ℕ → Arc Node Key
delay_arc c low x i =
    arc low x (WaitArc i) (Task i) (Owner (demand c i).job) 1 ((demand c i).delay + leaving c (demand c i))

abbrev pub prefer_arc : Case → (Key → ℕ) → (Key → ℕ) → ℕ → ℕ → Arc Node Key
prefer_arc c low x i k =
    arc low x (Prefer i k) (Task i) (Machine (preferred_at c i k)) 1 (leaving c (demand c i))

-- how many preferences a task has
abbrev pub count_at : Case → ℕ → ℕ
count_at c i = length (demand c i).preferred

-- a sum over the network, by its parts
pub sum_network : (F : Arc Node Key → ℕ) (c : Case) (low x : Key → ℕ)
    → sum_by F (network c low x)
    ≡ total (λ j. F (arc low x (Through j) Hub (Machine j) (slots_of c j) 0)
    + total (λ k. F (arc low x (Slot j k) (Machine j) Sink 1 (slot_cost c.spread k))) (slots_of c j)) (length c.slots)
    + (total (λ k. F (arc low x (Exit k) (Owner k) Sink c.limit 0)) c.jobs
    + total (λ i. F (wide_arc c low x i) + F (stay_arc c low x i) + F (delay_arc c low x i)
    + total (λ k. F (prefer_arc c low x i k)) (count_at c i)) (length c.tasks))
sum_network F c low x =
    let machines : List (Arc Node Key) = gather (machine_arcs c low x) (length c.slots) in
    let jobs : List (Arc Node Key) = gather (job_arcs c low x) c.jobs in
    let tasks : List (Arc Node Key) = gather (task_arcs c low x) (length c.tasks) in
    let slot : ℕ → ℕ → Arc Node Key = λ (j k : ℕ). arc low x (Slot j k) (Machine j) Sink 1 (slot_cost c.spread k) in
    let one : (j : ℕ) → j < length c.slots → sum_by F (machine_arcs c low x j)
    ≡ F (arc low x (Through j) Hub (Machine j) (slots_of c j) 0) + total (λ k. F (slot j k)) (slots_of c j) =
    λ j l. omega (arith, sum_by-cons {X = Arc Node Key}, sum_ones F (slot j) (slots_of c j)) in
    let each : (i : ℕ) → i < length c.tasks → sum_by F (task_arcs c low x i)
    ≡ F (wide_arc c low x i) + F (stay_arc c low x i) + F (delay_arc c low x i)
    + total (λ k. F (prefer_arc c low x i k)) (count_at c i) =
    λ i l. omega (arith, sum_by-cons {X = Arc Node Key}, sum_ones F (prefer_arc c low x i) (count_at c i)) in
    omega (
      arith,
      sum_by-append F machines (jobs ++ tasks),
      sum_by-append F jobs tasks,
      sum_gather F (machine_arcs c low x) (length c.slots),
      sum_ones F (λ (k : ℕ). arc low x (Exit k) (Owner k) Sink c.limit 0) c.jobs,
      sum_gather F (task_arcs c low x) (length c.tasks),
      total_same (λ (j : ℕ). sum_by F (machine_arcs c low x j))
          (λ (j : ℕ). F (arc low x (Through j) Hub (Machine j) (slots_of c j) 0)
          + total (λ k. F (slot j k)) (slots_of c j)) (length c.slots)
          one,
      total_same (λ (i : ℕ). sum_by F (task_arcs c low x i))
          (λ (i : ℕ). F (wide_arc c low x i) + F (stay_arc c low x i) + F (delay_arc c low x i)
          + total (λ k. F (prefer_arc c low x i k)) (count_at c i)) (length c.tasks) each,
    )
  where
    sum_ones : (F : Arc Node Key → ℕ) (f : ℕ → Arc Node Key) (n : ℕ)
        → sum_by F (gather (λ k. f k ∷ []) n) ≡ total (λ k. F (f k)) n
    sum_ones F f n =
        sum_gather F (λ (k : ℕ). f k ∷ []) n
        ∙ total_same (λ (k : ℕ). sum_by F (f k ∷ [])) (λ (k : ℕ). F (f k)) n (λ k l. omega arith)

-- what a task puts on the arcs of its preferences
pub prefer_sum : (c : Case) (q : List Choice) (i : ℕ) → i < length q
    → total (prefer_at c q i) (count_at c i) ≡ near_at c q i
prefer_sum c q i l =
    at_pick q i (λ o. total (λ k. prefer (demand c i) k o) (count_at c i) ≡ near (demand c i) o) l
    (prefer_all (demand c i))

-- THE COST of the flow is the placement's
pub cost_placed : LoadsAreSumsOfSlots → (c : Case) (q : List Choice) (low x : Key → ℕ) → IsLegal c q
    → cost_of (network c low x) (λ a. placed c q a.key) ≡ cost c q
cost_placed sums c q low x legal =
    let m : ℕ = length c.slots in
    let t : ℕ = length c.tasks in
    let machines : total (λ j. 0 * guests c q j
    + total (λ k. slot_cost c.spread k * cond (ltb k (load q j)) 1 0) (slots_of c j)) m
    ≡ total (λ j. load_cost c.spread (load q j)) m =
    total_same (λ (j : ℕ). 0 * guests c q j
    + total (λ k. slot_cost c.spread k * cond (ltb k (load q j)) 1 0) (slots_of c j))
    (λ (j : ℕ). load_cost c.spread (load q j)) m
    (λ j l. omega (arith, staircase sums c.spread (load q j) (slots_of c j) (legal.room j l))) in
    let exits : total (λ k. 0 * placed c q (Exit k)) c.jobs ≡ 0 =
    total_zero (λ (k : ℕ). 0 * placed c q (Exit k)) c.jobs (λ k l. omega arith) in
    let task : ℕ → ℕ = λ (i : ℕ). by_hub c (demand c i) * wide_at c q i + 0 * stay_at c q i
    + ((demand c i).delay + leaving c (demand c i)) * waits (pick q i)
    + total (λ k. leaving c (demand c i) * prefer_at c q i k) (count_at c i) in
    let tasks : total task t ≡ tasks_cost c c.tasks q =
    total_same task (λ (i : ℕ). task_arcs_cost c (demand c i) (pick q i)) t
    (λ i l. omega (
      arith,
      total-mul (leaving c (demand c i)) (prefer_at c q i) (count_at c i),
      ap (λ z. leaving c (demand c i) * z) (prefer_sum c q i (omega (arith, l, legal.one_each))),
    ))
    ∙ sym (tasks_cost_is c (task_arcs_cost c) (record { home = None; preferred = []; delay = 0; job = 0 })
    c.tasks q legal.one_each (task_cost_is c)) in
    omega (arith, sum_network (λ (a : Arc Node Key). a.cost * placed c q a.key) c low x, machines, exits, tasks)

-- what a choice puts somewhere is 0 at no choice and at waiting: so it is at a machine that is there
spot_in : (F : Option Choice → ℕ) (m : ℕ) (q : List Choice) (i : ℕ) → All (IsPlace m) q → F None ≡ 0 → F (Some Wait) ≡ 0
    → (spot (pick q i) < m) ⊎ (F (pick q i) ≡ 0)
spot_in F m [] i places none waits = inr none
spot_in F m (Wait ∷ q) zero places none waits = inr waits
spot_in F m (On j ∷ q) zero places none waits = inl (All-head (IsPlace m) (On j) q places)
spot_in F m (o ∷ q) (suc i) places none waits = spot_in F m q i (All-tail (IsPlace m) o q places) none waits

-- a task that stays is at its own machine
pub stay_there : (w : Node → ℕ) (home : Option ℕ) (o : Choice)
    → w (stay_head home) * stay home (Some o) ≡ w (Machine (spot (Some o))) * stay home (Some o)
stay_there w home Wait = mul-zero (w (stay_head home)) ∙ sym (mul-zero (w (Machine 0)))
stay_there w None (On j) = mul-zero (w Hub) ∙ sym (mul-zero (w (Machine j)))
stay_there w (Some h) (On j) =
    ⊎_elim (λ (e : eqb h j ≡ true). ap (λ z. w (Machine z) * cond (eqb h j) 1 0) (eqb-true h j e))
    (λ (e : eqb h j ≡ false).
    let z : cond (eqb h j) 1 0 ≡ 0 = cond-false {A = ℕ} (eqb h j) 1 0 e in
    ap (λ y. w (Machine h) * y) z ∙ mul-zero (w (Machine h))
    ∙ sym (ap (λ y. w (Machine j) * y) z ∙ mul-zero (w (Machine j))))
    (cases_Bool (eqb h j))

length_nodes : (n : ℕ) → length (gather (λ i. Task i ∷ []) n) ≡ n
length_nodes zero = refl
length_nodes (suc n) = omega (arith, length-append (gather (λ i. Task i ∷ []) n) (Task n ∷ []), length_nodes n)

total_ones : (f : ℕ → ℕ) (n : ℕ) → ((i : ℕ) → i < n → f i ≡ 1) → total f n ≡ n
total_ones f zero h = refl
total_ones f (suc n) h = omega (arith, total_ones f n (λ i l. h i (omega arith)), h n (omega arith))

plain_regroup : (e g : ℕ → ℕ) (m n : ℕ) → ((i : ℕ) → i < n → (e i < m) ⊎ (g i ≡ 0))
    → total g n ≡ total (λ j. total (λ i. cond (eqb (e i) j) (g i) 0) n) m
plain_regroup e g m n h =
    omega (
      arith,
      total_regroup (λ (j : ℕ). 1) e g m n h,
      total-mul 1 g n,
      total-mul 1 (λ (j : ℕ). total (λ i. cond (eqb (e i) j) (g i) 0) n) m,
    )

-- the tasks that come by the hub are the guests of the machines
pub guests_in_all : (c : Case) (q : List Choice) → All (IsPlace (length c.slots)) q
    → total (wide_at c q) (length c.tasks) ≡ total (guests c q) (length c.slots)
guests_in_all c q places =
    plain_regroup (λ (i : ℕ). spot (pick q i)) (wide_at c q) (length c.slots) (length c.tasks)
    (λ i l. spot_in (wide (demand c i)) (length c.slots) q i places refl refl)

-- THE FLOW of a placement is balanced
pub balanced_placed : (c : Case) (q : List Choice) (low x : Key → ℕ) → IsSound c → IsLegal c q
    → Balanced (network c low x) (task_nodes c) Sink (λ a. placed c q a.key)
balanced_placed c q low x sound legal w =
    let m : ℕ = length c.slots in
    let t : ℕ = length c.tasks in
    let exits : ℕ → ℕ = λ (k : ℕ). total (λ i. cond (eqb (demand c i).job k) (waits (pick q i)) 0) (length c.tasks) in
    let filled : (a j : ℕ) → j < m → total (λ k. a * cond (ltb k (load q j)) 1 0) (slots_of c j) ≡ a * load q j =
    λ a j l. total-mul a (λ (k : ℕ). cond (ltb k (load q j)) 1 0) (slots_of c j)
    ∙ ap (λ z. a * z) (total_below (load q j) (slots_of c j) (legal.room j l)) in
    let heads_m : total (λ j. w (Machine j) * guests c q j
    + total (λ k. w Sink * cond (ltb k (load q j)) 1 0) (slots_of c j)) m
    ≡ total (λ j. w (Machine j) * guests c q j) m + w Sink * total (λ j. load q j) m =
    total_same (λ (j : ℕ). w (Machine j) * guests c q j
    + total (λ k. w Sink * cond (ltb k (load q j)) 1 0) (slots_of c j))
    (λ (j : ℕ). w (Machine j) * guests c q j + w Sink * load q j) m (λ j l. omega (arith, filled (w Sink) j l))
    ∙ (total-add (λ (j : ℕ). w (Machine j) * guests c q j) (λ (j : ℕ). w Sink * load q j) m
    ∙ ap (λ z. total (λ j. w (Machine j) * guests c q j) m + z) (total-mul (w Sink) (λ (j : ℕ). load q j) m)) in
    let visits : ℕ → ℕ = λ (j : ℕ). w (Machine j) * guests c q j in
    let keeps : ℕ → ℕ = λ (j : ℕ). w (Machine j) * stayers c q j in
    let comes : ℕ → ℕ = λ (j : ℕ). w (Machine j) * comers c q j in
    let tails_m : total (λ j. w Hub * guests c q j
    + total (λ k. w (Machine j) * cond (ltb k (load q j)) 1 0) (slots_of c j)) m
    ≡ w Hub * total (guests c q) m + (total visits m + total keeps m + total comes m) =
    total_same (λ (j : ℕ). w Hub * guests c q j
    + total (λ k. w (Machine j) * cond (ltb k (load q j)) 1 0) (slots_of c j))
    (λ (j : ℕ). w Hub * guests c q j + (visits j + keeps j + comes j)) m
    (λ j l. omega (
      arith,
      filled (w (Machine j)) j l,
      ap (λ z. w (Machine j) * z) (load_is c q j legal.one_each),
      mul-add (w (Machine j)) (guests c q j + stayers c q j) (comers c q j),
      mul-add (w (Machine j)) (guests c q j) (stayers c q j),
    ))
    ∙ (total-add (λ (j : ℕ). w Hub * guests c q j) (λ (j : ℕ). visits j + keeps j + comes j) m
    ∙ omega (
      arith,
      total-mul (w Hub) (guests c q) m,
      total-add (λ (j : ℕ). visits j + keeps j) comes m,
      total-add visits keeps m,
    )) in
    let leads : (i : ℕ) → i < t → total (λ k. w (Machine (preferred_at c i k)) * prefer_at c q i k) (count_at c i)
    ≡ w (Machine (spot (pick q i))) * near_at c q i =
    λ i l. at_pick q i (λ o. total (λ k. w (Machine (preferred_at c i k)) * prefer (demand c i) k o) (count_at c i)
    ≡ w (Machine (spot o)) * near (demand c i) o)
    (omega (arith, l, legal.one_each)) (prefer_weighed (λ (j : ℕ). w (Machine j)) (demand c i)) in
    let to_hub : ℕ → ℕ = λ (i : ℕ). w Hub * wide_at c q i in
    let to_own : ℕ → ℕ = λ (i : ℕ). w (stay_head (demand c i).home) * stay_at c q i in
    let to_job : ℕ → ℕ = λ (i : ℕ). w (Owner (demand c i).job) * waits (pick q i) in
    let to_near : ℕ → ℕ = λ (i : ℕ). w (Machine (spot (pick q i))) * near_at c q i in
    let heads_t : total (λ i. to_hub i + to_own i + to_job i
    + total (λ k. w (Machine (preferred_at c i k)) * prefer_at c q i k) (count_at c i)) t
    ≡ w Hub * total (wide_at c q) t + total to_own t + total to_job t + total to_near t =
    total_same (λ (i : ℕ). to_hub i + to_own i + to_job i
    + total (λ k. w (Machine (preferred_at c i k)) * prefer_at c q i k) (count_at c i))
    (λ (i : ℕ). to_hub i + to_own i + to_job i + to_near i) t (λ i l. omega (arith, leads i l))
    ∙ omega (
      arith,
      total-add (λ (i : ℕ). to_hub i + to_own i + to_job i) to_near t,
      total-add (λ (i : ℕ). to_hub i + to_own i) to_job t,
      total-add to_hub to_own t,
      total-mul (w Hub) (wide_at c q) t,
    ) in
    let one : (i : ℕ) → i < t → wide_at c q i + stay_at c q i + waits (pick q i) + near_at c q i ≡ 1 =
    λ i l. at_pick q i (λ o. wide (demand c i) o + stay (demand c i).home o + waits o + near (demand c i) o ≡ 1)
    (omega (arith, l, legal.one_each)) (one_way (demand c i)) in
    let tails_t : total (λ i. w (Task i) * wide_at c q i + w (Task i) * stay_at c q i + w (Task i) * waits (pick q i)
    + total (λ k. w (Task i) * prefer_at c q i k) (count_at c i)) t
    ≡ total (λ i. w (Task i)) t =
    total_same (λ (i : ℕ). w (Task i) * wide_at c q i + w (Task i) * stay_at c q i + w (Task i) * waits (pick q i)
    + total (λ k. w (Task i) * prefer_at c q i k) (count_at c i))
    (λ (i : ℕ). w (Task i)) t
    (λ i l. omega (
      arith,
      total-mul (w (Task i)) (prefer_at c q i) (count_at c i),
      ap (λ z. w (Task i) * z) (prefer_sum c q i (omega (arith, l, legal.one_each))),
      ap (λ z. w (Task i) * z) (one i l),
      mul-add (w (Task i)) (wide_at c q i + stay_at c q i + waits (pick q i)) (near_at c q i),
      mul-add (w (Task i)) (wide_at c q i + stay_at c q i) (waits (pick q i)),
      mul-add (w (Task i)) (wide_at c q i) (stay_at c q i),
    )) in
    let stays_in : (i : ℕ) → i < t → (spot (pick q i) < m) ⊎ (stay_at c q i ≡ 0) =
    λ i l. spot_in (stay (demand c i).home) m q i legal.places (stay_none (demand c i).home)
    (wait_stay (demand c i).home) in
    let comes_in : (i : ℕ) → i < t → (spot (pick q i) < m) ⊎ (near_at c q i ≡ 0) =
    λ i l. spot_in (near (demand c i)) m q i legal.places refl refl in
    let stays : total to_own t ≡ total keeps m =
    total_same to_own (λ (i : ℕ). w (Machine (spot (pick q i))) * stay_at c q i) t
    (λ i l. at_pick q i (λ o. w (stay_head (demand c i).home) * stay (demand c i).home o
    ≡ w (Machine (spot o)) * stay (demand c i).home o)
    (omega (arith, l, legal.one_each)) (stay_there w (demand c i).home))
    ∙ total_regroup (λ (j : ℕ). w (Machine j)) (λ (i : ℕ). spot (pick q i)) (stay_at c q) m t
    stays_in in
    let closes : total to_near t ≡ total comes m =
    total_regroup (λ (j : ℕ). w (Machine j)) (λ (i : ℕ). spot (pick q i)) (near_at c q) m t comes_in in
    let delays : total to_job t ≡ total (λ k. w (Owner k) * exits k) c.jobs =
    total_regroup (λ (k : ℕ). w (Owner k)) (λ (i : ℕ). (demand c i).job) (λ (i : ℕ). waits (pick q i)) c.jobs t
    (λ i l. inl (sound.jobs_in i l)) in
    let wides : total (wide_at c q) t ≡ total (guests c q) m = guests_in_all c q legal.places in
    let staying : total (stay_at c q) t ≡ total (stayers c q) m =
    plain_regroup (λ (i : ℕ). spot (pick q i)) (stay_at c q) m t stays_in in
    let coming : total (near_at c q) t ≡ total (comers c q) m =
    plain_regroup (λ (i : ℕ). spot (pick q i)) (near_at c q) m t comes_in in
    let holding : total (λ i. waits (pick q i)) t ≡ total exits c.jobs =
    plain_regroup (λ (i : ℕ). (demand c i).job) (λ (i : ℕ). waits (pick q i)) c.jobs t (λ i l. inl (sound.jobs_in i l))
    in
    let loads : total (λ j. load q j) m ≡ total (guests c q) m + total (stayers c q) m + total (comers c q) m =
    total_same (λ (j : ℕ). load q j) (λ (j : ℕ). guests c q j + stayers c q j + comers c q j) m
    (λ j l. load_is c q j legal.one_each)
    ∙ (total-add (λ (j : ℕ). guests c q j + stayers c q j) (comers c q) m
    ∙ ap (λ (n : ℕ). n + total (comers c q) m) (total-add (guests c q) (stayers c q) m)) in
    let all : total (wide_at c q) t + total (stay_at c q) t + total (λ i. waits (pick q i)) t + total (near_at c q) t
    ≡ t =
    omega (
      arith,
      total_ones (λ (i : ℕ). wide_at c q i + stay_at c q i + waits (pick q i) + near_at c q i) t one,
      total-add (λ (i : ℕ). wide_at c q i + stay_at c q i + waits (pick q i)) (near_at c q) t,
      total-add (λ (i : ℕ). wide_at c q i + stay_at c q i) (λ (i : ℕ). waits (pick q i)) t,
      total-add (wide_at c q) (stay_at c q) t,
    ) in
    let units : total (λ j. load q j) m + total exits c.jobs ≡ t =
    omega (arith, all, loads, wides, staying, coming, holding) in
    let ends : w Sink * total (λ j. load q j) m + w Sink * total exits c.jobs ≡ w Sink * t =
    sym (mul-add (w Sink) (total (λ j. load q j) m) (total exits c.jobs)) ∙ ap (λ z. w Sink * z) units in
    let hub : w Hub * total (wide_at c q) t ≡ w Hub * total (guests c q) m = ap (λ z. w Hub * z) wides in
    let sources : sum_by w (task_nodes c) ≡ total (λ i. w (Task i)) t =
    sum_gather w (λ (i : ℕ). Task i ∷ []) t ∙ total_same (λ (i : ℕ). sum_by w (Task i ∷ [])) (λ (i : ℕ). w (Task i)) t
    (λ i l. omega arith) in
    omega (
      arith,
      sum_network (λ (a : Arc Node Key). w a.head * placed c q a.key) c low x,
      sum_network (λ (a : Arc Node Key). w a.tail * placed c q a.key) c low x,
      total-mul (w Sink) exits c.jobs,
      ap (λ z. w Sink * z) (length_nodes t),
    )
