-- A flow whose lower bounds hold every task to its choice gives a placement that costs no more.
use Rattle.std.proofs.Common.{◌≡◌, ℕ, ◌+◌, ◌*◌, ◌<◌, ◌≤◌, Bool, true, false, cond, eqb, List, [], ◌∷◌, length, arith}
use Rattle.std.proofs.Common.{sym, ap, ◌∙◌, Option, Some, None}
use Rattle.std.specs.List.{All, sum_by}
use Rattle.firm_rules.specs.declared.rounds.Choice.{Choice}
use Rattle.firm_paths.specs.Network.{Arc}
use Rattle.firm_flow.specs.Flow.{IsWithinBounds, cost_of, carried}
use Rattle.firm_rules.specs.Placement.{Case, total, load, load_cost, tasks_cost, IsLegal, placement_cost as cost}
use Rattle.firm_rules.specs.Placement.{IsPlace, slot_cost}
use Rattle.firm_rules.specs.SlotCosts.{LoadsAreSumsOfSlots, LaterSlotsCostNoLess}
use Rattle.firm_graph.specs.Network.{runs, slots_of, demand, preferred_at, stay_head, network, task_nodes}
use Rattle.firm_graph.specs.declared.network.Node.{Node}
use Rattle.firm_graph.specs.declared.network.Node.TheVariants.{Sink, Hub, Machine, Owner, Task}
use Rattle.firm_graph.specs.declared.network.Key.{Key}
use Rattle.firm_graph.specs.declared.network.Key.TheVariants.{Through, Slot, Exit, Wide, Stay, Wait, Prefer}
use Rattle.firm_canon.proofs.Totals.{total_zero, total_same, total-add, total-le, total-mul, total_at, total_tight}
use Rattle.firm_canon.proofs.Totals.{staircase_least, sum_gather}
use Rattle.firm_canon.specs.inner.Placed.{pick, wide, stay, waits, near, prefer, spot, wide_at, stay_at, near_at}
use Rattle.firm_canon.specs.inner.Placed.{prefer_at, guests, aside}
use Rattle.firm_canon.proofs.Nears.{one_way, prefer_weighed}
use Rattle.firm_canon.proofs.Placed.{load_is, sum_network, at_pick, guests_in_all, stay_there, prefer_sum}
use Rattle.firm_canon.proofs.Placed.{leaving, by_hub, count_at, task_arcs_cost, tasks_cost_is}
use Rattle.firm_canon.proofs.Placed.{task_cost_is}
use Rattle.firm_canon.proofs.Parts.{parts}
use Rattle.firm_flow.specs.Balance.{Balanced}

-- the weight that marks one node
abbrev task_mark : ℕ → Node → ℕ
task_mark e Sink = 0
task_mark e Hub = 0
task_mark e (Machine j) = 0
task_mark e (Owner k) = 0
task_mark e (Task i) = cond (eqb e i) 1 0

abbrev hub_mark : Node → ℕ
hub_mark Sink = 0
hub_mark Hub = 1
hub_mark (Machine j) = 0
hub_mark (Owner k) = 0
hub_mark (Task i) = 0

abbrev machine_mark : ℕ → Node → ℕ
machine_mark e Sink = 0
machine_mark e Hub = 0
machine_mark e (Machine j) = cond (eqb e j) 1 0
machine_mark e (Owner k) = 0
machine_mark e (Task i) = 0

cond_times : (b : Bool) (x : ℕ) → cond b 1 0 * x ≡ cond b x 0
cond_times b x = grind arith

no_task_stays : (e : ℕ) (home : Option ℕ) (x : ℕ) → task_mark e (stay_head home) * x ≡ 0
no_task_stays e None x = omega arith
no_task_stays e (Some h) x = omega arith

-- a task sends out one unit
pub task_sends : (c : Case) (low x : Key → ℕ) (e : ℕ) → e < length c.tasks
    → Balanced (network c low x) (task_nodes c) Sink carried → x (Wide e) + x (Stay e) + x (Wait e) + aside c x e ≡ 1
task_sends c low x e l balanced =
    let m : ℕ = length c.slots in
    let t : ℕ = length c.tasks in
    let w : Node → ℕ = task_mark e in
    let out : ℕ → ℕ = λ (i : ℕ). x (Wide i) + x (Stay i) + x (Wait i) + aside c x i in
    omega (
      arith,
      balanced w,
      sum_network (λ (a : Arc Node Key). w a.head * a.flow) c low x,
      sum_network (λ (a : Arc Node Key). w a.tail * a.flow) c low x,
      total_zero (λ (j : ℕ). 0 * x (Through j) + total (λ k. 0 * x (Slot j k)) (slots_of c j)) m
          (λ j l. omega (arith, total_zero (λ (k : ℕ). 0 * x (Slot j k)) (slots_of c j) (λ k r. omega arith))),
      total_zero (λ (k : ℕ). 0 * x (Exit k)) c.jobs (λ k r. omega arith),
      total_zero (λ (i : ℕ). 0 * x (Wide i) + task_mark e (stay_head (demand c i).home) * x (Stay i) + 0 * x (Wait i)
          + total (λ k. 0 * x (Prefer i k)) (count_at c i))
          t
          (λ i r. omega (
            arith,
            no_task_stays e (demand c i).home (x (Stay i)),
            total_zero (λ (k : ℕ). 0 * x (Prefer i k)) (count_at c i) (λ k l. omega arith),
          )),
      total_same (λ (i : ℕ). cond (eqb e i) 1 0 * x (Wide i) + cond (eqb e i) 1 0 * x (Stay i)
          + cond (eqb e i) 1 0 * x (Wait i) + total (λ k. cond (eqb e i) 1 0 * x (Prefer i k)) (count_at c i))
          (λ (i : ℕ). cond (eqb e i) (out i) 0) t
          (λ i r. omega (
            arith,
            total-mul (cond (eqb e i) 1 0) (λ (k : ℕ). x (Prefer i k)) (count_at c i),
            (elim (eqb e i) as (λ b. cond b 1 0 * x (Wide i) + cond b 1 0 * x (Stay i) + cond b 1 0 * x (Wait i)
                + cond b 1 0 * aside c x i
                ≡ cond b (out i) 0) [ true ↦ omega arith | false ↦ omega arith ]),
          )),
      total_at out t e l,
      sum_gather w (λ (i : ℕ). Task i ∷ []) t,
      total_same (λ (i : ℕ). sum_by w (Task i ∷ [])) (λ (i : ℕ). cond (eqb e i) 1 0) t (λ i l. omega arith),
      total_at (λ (i : ℕ). 1) t e l,
    )

no_stay_by_hub : (home : Option ℕ) (y : ℕ) → y ≤ cond (runs home) 1 0 → hub_mark (stay_head home) * y ≡ 0
no_stay_by_hub None y h = omega arith
no_stay_by_hub (Some k) y h = omega arith

-- a weight that marks no task
no_tails : (c : Case) (x : Key → ℕ) → total (λ i. 0 * x (Wide i) + 0 * x (Stay i) + 0 * x (Wait i)
    + total (λ k. 0 * x (Prefer i k)) (count_at c i)) (length c.tasks) ≡ 0
no_tails c x =
    total_zero (λ (i : ℕ). 0 * x (Wide i) + 0 * x (Stay i) + 0 * x (Wait i)
    + total (λ k. 0 * x (Prefer i k)) (count_at c i)) (length c.tasks)
    (λ i r. omega (arith, total_zero (λ (k : ℕ). 0 * x (Prefer i k)) (count_at c i) (λ k l. omega arith)))

-- what comes to the hub goes on to the machines
pub hub_passes : (c : Case) (low x : Key → ℕ) → IsWithinBounds (network c low x) carried
    → Balanced (network c low x) (task_nodes c) Sink carried
    → total (λ i. x (Wide i)) (length c.tasks) ≡ total (λ j. x (Through j)) (length c.slots)
hub_passes c low x within balanced =
    let m : ℕ = length c.slots in
    let t : ℕ = length c.tasks in
    let w : Node → ℕ = hub_mark in
    let bounds = parts (λ (a : Arc Node Key). (a.low ≤ a.flow) × (a.flow ≤ a.cap)) c low x within in
    omega (
      arith,
      balanced w,
      sum_network (λ (a : Arc Node Key). w a.head * a.flow) c low x,
      sum_network (λ (a : Arc Node Key). w a.tail * a.flow) c low x,
      total_zero (λ (j : ℕ). 0 * x (Through j) + total (λ k. 0 * x (Slot j k)) (slots_of c j)) m
          (λ j l. omega (arith, total_zero (λ (k : ℕ). 0 * x (Slot j k)) (slots_of c j) (λ k r. omega arith))),
      total_same (λ (j : ℕ). 1 * x (Through j) + total (λ k. 0 * x (Slot j k)) (slots_of c j))
          (λ (j : ℕ). x (Through j)) m
          (λ j l. omega (arith, total_zero (λ (k : ℕ). 0 * x (Slot j k)) (slots_of c j) (λ k r. omega arith))),
      total_zero (λ (k : ℕ). 0 * x (Exit k)) c.jobs (λ k r. omega arith),
      total_same (λ (i : ℕ). 1 * x (Wide i) + hub_mark (stay_head (demand c i).home) * x (Stay i) + 0 * x (Wait i)
          + total (λ k. 0 * x (Prefer i k)) (count_at c i))
          (λ (i : ℕ). x (Wide i)) t
          (λ i r. omega (
            arith,
            no_stay_by_hub (demand c i).home (x (Stay i)) ((bounds.stays i r).1),
            total_zero (λ (k : ℕ). 0 * x (Prefer i k)) (count_at c i) (λ k l. omega arith),
          )),
      no_tails c x,
      sum_gather w (λ (i : ℕ). Task i ∷ []) t,
      total_zero (λ (i : ℕ). sum_by w (Task i ∷ [])) t (λ i l. omega arith),
    )

-- what comes to a machine, but by the hub
abbrev pub comes : Case → (Key → ℕ) → ℕ → ℕ → ℕ
comes c x e i =
    machine_mark e (stay_head (demand c i).home) * x (Stay i)
    + total (λ k. machine_mark e (Machine (preferred_at c i k)) * x (Prefer i k)) (count_at c i)

-- what comes to a machine fills its slots
pub machine_passes : (c : Case) (low x : Key → ℕ) (e : ℕ) → e < length c.slots
    → Balanced (network c low x) (task_nodes c) Sink carried
    → x (Through e) + total (comes c x e) (length c.tasks) ≡ total (λ k. x (Slot e k)) (slots_of c e)
machine_passes c low x e l balanced =
    let m : ℕ = length c.slots in
    let t : ℕ = length c.tasks in
    let w : Node → ℕ = machine_mark e in
    omega (
      arith,
      balanced w,
      sum_network (λ (a : Arc Node Key). w a.head * a.flow) c low x,
      sum_network (λ (a : Arc Node Key). w a.tail * a.flow) c low x,
      total_same (λ (j : ℕ). cond (eqb e j) 1 0 * x (Through j) + total (λ k. 0 * x (Slot j k)) (slots_of c j))
          (λ (j : ℕ). cond (eqb e j) (x (Through j)) 0) m
          (λ j l. omega (
            arith,
            cond_times (eqb e j) (x (Through j)),
            total_zero (λ (k : ℕ). 0 * x (Slot j k)) (slots_of c j) (λ k r. omega arith),
          )),
      total_at (λ (j : ℕ). x (Through j)) m e l,
      total_same (λ (j : ℕ). 0 * x (Through j) + total (λ k. cond (eqb e j) 1 0 * x (Slot j k)) (slots_of c j))
          (λ (j : ℕ). cond (eqb e j) (total (λ k. x (Slot j k)) (slots_of c j)) 0) m
          (λ j l. omega (
            arith,
            total-mul (cond (eqb e j) 1 0) (λ (k : ℕ). x (Slot j k)) (slots_of c j),
            cond_times (eqb e j) (total (λ k. x (Slot j k)) (slots_of c j)),
          )),
      total_at (λ (j : ℕ). total (λ k. x (Slot j k)) (slots_of c j)) m e l,
      total_zero (λ (k : ℕ). 0 * x (Exit k)) c.jobs (λ k r. omega arith),
      total_same (λ (i : ℕ). 0 * x (Wide i) + machine_mark e (stay_head (demand c i).home) * x (Stay i)
          + 0 * x (Wait i)
          + total (λ k. machine_mark e (Machine (preferred_at c i k)) * x (Prefer i k)) (count_at c i))
          (comes c x e) t (λ i r. omega arith),
      no_tails c x,
      sum_gather w (λ (i : ℕ). Task i ∷ []) t,
      total_zero (λ (i : ℕ). sum_by w (Task i ∷ [])) t (λ i l. omega arith),
    )

eqb_sym : (a b : ℕ) → eqb a b ≡ eqb b a
eqb_sym a b = grind arith

-- the flow is held to the placement
pub record IsHeld (c : Case) (p : List Choice) (x : Key → ℕ) : Type 0 where
  pub at_through : (j : ℕ) → j < length c.slots → guests c p j ≤ x (Through j)
  pub at_wide : (i : ℕ) → i < length c.tasks → wide_at c p i ≤ x (Wide i)
  pub at_stay : (i : ℕ) → i < length c.tasks → stay_at c p i ≤ x (Stay i)
  pub at_delay : (i : ℕ) → i < length c.tasks → waits (pick p i) ≤ x (Wait i)
  pub at_prefer : (i k : ℕ) → i < length c.tasks → k < count_at c i → prefer_at c p i k ≤ x (Prefer i k)

-- so it carries what the placement asks of each task's arcs
record IsOne (c : Case) (p : List Choice) (x : Key → ℕ) (i : ℕ) : Type 0 where
  pub wide : x (Wide i) ≡ wide_at c p i
  pub stay : x (Stay i) ≡ stay_at c p i
  pub delay : x (Wait i) ≡ waits (pick p i)
  pub prefers : (k : ℕ) → k < count_at c i → x (Prefer i k) ≡ prefer_at c p i k

held_one : (c : Case) (p : List Choice) (low x : Key → ℕ) → length p ≡ length c.tasks → IsHeld c p x
    → Balanced (network c low x) (task_nodes c) Sink carried → (i : ℕ) → i < length c.tasks → IsOne c p x i
held_one c p low x e held balanced i l =
    let n : ℕ = count_at c i in
    let one : wide_at c p i + stay_at c p i + waits (pick p i) + near_at c p i ≡ 1 =
    at_pick p i (λ o. wide (demand c i) o + stay (demand c i).home o + waits o + near (demand c i) o ≡ 1)
    (omega (arith, l, e)) (one_way (demand c i)) in
    let sends : x (Wide i) + x (Stay i) + x (Wait i) + aside c x i ≡ 1 = task_sends c low x i l balanced in
    let prefers_sum : total (prefer_at c p i) n ≡ near_at c p i = prefer_sum c p i (omega (arith, l, e)) in
    let more : total (prefer_at c p i) n ≤ aside c x i =
    total-le (prefer_at c p i) (λ (k : ℕ). x (Prefer i k)) n (λ k m. held.at_prefer i k l m) in
    let above_wide : wide_at c p i ≤ x (Wide i) = held.at_wide i l in
    let above_stay : stay_at c p i ≤ x (Stay i) = held.at_stay i l in
    let above_delay : waits (pick p i) ≤ x (Wait i) = held.at_delay i l in
    record {
      wide = omega arith;
      stay = omega arith;
      delay = omega arith;
      prefers = λ k m. sym (total_tight (prefer_at c p i) (λ (k : ℕ). x (Prefer i k)) n
          (λ k m. held.at_prefer i k l m) (omega arith) k m);
    }

-- READING: the placement is legal, and costs no more than the flow
pub read : LoadsAreSumsOfSlots → LaterSlotsCostNoLess → (c : Case) (p : List Choice) (low x : Key → ℕ)
    → length p ≡ length c.tasks → All (IsPlace (length c.slots)) p → IsHeld c p x
    → IsWithinBounds (network c low x) carried → Balanced (network c low x) (task_nodes c) Sink carried
    → IsLegal c p × (cost c p ≤ cost_of (network c low x) carried)
read sums rises c p low x e places held within balanced =
    let m : ℕ = length c.slots in
    let t : ℕ = length c.tasks in
    let bounds = parts (λ (a : Arc Node Key). (a.low ≤ a.flow) × (a.flow ≤ a.cap)) c low x within in
    let is_one : (i : ℕ) → i < t → IsOne c p x i = λ i l. held_one c p low x e held balanced i l in
    let is_through : (j : ℕ) → j < m → guests c p j ≡ x (Through j) =
    total_tight (guests c p) (λ (j : ℕ). x (Through j)) m held.at_through
    (omega (
      arith,
      guests_in_all c p places,
      hub_passes c low x within balanced,
      total_same (λ (i : ℕ). x (Wide i)) (wide_at c p) t (λ i l. (is_one i l).wide),
    )) in
    let stayer : ℕ → ℕ → ℕ = λ (j i : ℕ). cond (eqb (spot (pick p i)) j) (stay_at c p i) 0 in
    let comer : ℕ → ℕ → ℕ = λ (j i : ℕ). cond (eqb (spot (pick p i)) j) (near_at c p i) 0 in
    let keeps : (j i : ℕ) → i < t → machine_mark j (stay_head (demand c i).home) * x (Stay i) ≡ stayer j i =
    λ j i r. ap (λ z. machine_mark j (stay_head (demand c i).home) * z) (is_one i r).stay
    ∙ (at_pick p i (λ o. machine_mark j (stay_head (demand c i).home) * stay (demand c i).home o
    ≡ machine_mark j (Machine (spot o)) * stay (demand c i).home o)
    (omega (arith, r, e)) (stay_there (machine_mark j) (demand c i).home)
    ∙ (cond_times (eqb j (spot (pick p i))) (stay_at c p i)
    ∙ ap (λ b. cond b (stay_at c p i) 0) (eqb_sym j (spot (pick p i))))) in
    let closes : (j i : ℕ) → i < t
    → total (λ k. machine_mark j (Machine (preferred_at c i k)) * x (Prefer i k)) (count_at c i) ≡ comer j i =
    λ j i r. total_same (λ (k : ℕ). machine_mark j (Machine (preferred_at c i k)) * x (Prefer i k))
    (λ (k : ℕ). machine_mark j (Machine (preferred_at c i k)) * prefer_at c p i k) (count_at c i)
    (λ k s. ap (λ z. machine_mark j (Machine (preferred_at c i k)) * z) ((is_one i r).prefers k s))
    ∙ (at_pick p i
    (λ o. total (λ k. machine_mark j (Machine (preferred_at c i k)) * prefer (demand c i) k o) (count_at c i)
    ≡ machine_mark j (Machine (spot o)) * near (demand c i) o)
    (omega (arith, r, e)) (prefer_weighed (λ (z : ℕ). machine_mark j (Machine z)) (demand c i))
    ∙ (cond_times (eqb j (spot (pick p i))) (near_at c p i)
    ∙ ap (λ b. cond b (near_at c p i) 0) (eqb_sym j (spot (pick p i))))) in
    let is_load : (j : ℕ) → j < m → total (λ k. x (Slot j k)) (slots_of c j) ≡ load p j =
    λ j l. omega (
      arith,
      machine_passes c low x j l balanced,
      is_through j l,
      load_is c p j e,
      total_same (comes c x j) (λ (i : ℕ). stayer j i + comer j i) t (λ i r. omega (arith, keeps j i r, closes j i r)),
      total-add (stayer j) (comer j) t,
    ) in
    let in_slots : (j : ℕ) → j < m → (load p j ≤ slots_of c j)
    × (load_cost c.spread (load p j) ≤ total (λ k. slot_cost c.spread k * x (Slot j k)) (slots_of c j)) =
    λ j l. staircase_least sums rises c.spread (λ (k : ℕ). x (Slot j k)) (slots_of c j) (load p j)
    (λ k r. (bounds.slot j k l r).1) (is_load j l) in
    let machines : total (λ j. load_cost c.spread (load p j)) m
    ≤ total (λ j. 0 * x (Through j) + total (λ k. slot_cost c.spread k * x (Slot j k)) (slots_of c j)) m =
    total-le (λ (j : ℕ). load_cost c.spread (load p j))
    (λ (j : ℕ). 0 * x (Through j) + total (λ k. slot_cost c.spread k * x (Slot j k)) (slots_of c j)) m
    (λ j l. omega (arith, (in_slots j l).1)) in
    let task : ℕ → ℕ = λ (i : ℕ). by_hub c (demand c i) * x (Wide i) + 0 * x (Stay i)
    + ((demand c i).delay + leaving c (demand c i)) * x (Wait i)
    + total (λ k. leaving c (demand c i) * x (Prefer i k)) (count_at c i) in
    let tasks : total task t ≡ tasks_cost c c.tasks p =
    total_same task (λ (i : ℕ). task_arcs_cost c (demand c i) (pick p i)) t
    (λ i l. omega (
      arith,
      ap (λ z. by_hub c (demand c i) * z) (is_one i l).wide,
      ap (λ z. ((demand c i).delay + leaving c (demand c i)) * z) (is_one i l).delay,
      total-mul (leaving c (demand c i)) (λ (k : ℕ). x (Prefer i k)) (count_at c i),
      ap (λ z. leaving c (demand c i) * z) (total_same (λ (k : ℕ). x (Prefer i k)) (prefer_at c p i) (count_at c i)
          (is_one i l).prefers ∙ prefer_sum c p i (omega (arith, l, e))),
    ))
    ∙ sym (tasks_cost_is c (task_arcs_cost c) (record { home = None; preferred = []; delay = 0; job = 0 }) c.tasks p e
    (task_cost_is c)) in (
      record {
        one_each = e;
        places = places;
        room = λ j l. (in_slots j l).0;
      },
      omega (arith, sum_network (λ (a : Arc Node Key). a.cost * a.flow) c low x, machines, tasks),
    )
