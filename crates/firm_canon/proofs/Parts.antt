-- Properties of every arc of the network, arc by arc.
use Rattle.std.proofs.Common.{◌≡◌, ℕ, zero, suc, ◌*◌, ◌<◌, ◌≤◌, true, false, cond, eqb, ltb, List, [], ◌∷◌, ◌++◌}
use Rattle.std.proofs.Common.{length, arith, sym, subst, ⊎_elim, Option, Some, None}
use Rattle.std.specs.List.{All}
use Rattle.std.proofs.lemmas.List.Elements.{All-head, All-tail, All-nil, All-cons, All-append}
use Rattle.std.proofs.lemmas.Bool.{cases_eq}
use Rattle.firm_rules.specs.declared.rounds.Choice.{Choice}
use Rattle.firm_rules.specs.declared.rounds.Choice.TheVariants.{On, Wait}
use Rattle.firm_paths.specs.Network.{Arc}
use Rattle.firm_flow.specs.Flow.{IsWithinBounds}
use Rattle.firm_rules.specs.Placement.{Case, total, load, IsLegal, slot_cost}
use Rattle.firm_graph.specs.Network.{runs, gather, arc, slots_of, demand, machine_arcs, job_arcs, task_arcs, network}
use Rattle.firm_graph.specs.Network.{IsSound}
use Rattle.firm_graph.specs.declared.network.Node.{Node}
use Rattle.firm_graph.specs.declared.network.Node.TheVariants.{Sink, Hub, Machine, Owner}
use Rattle.firm_graph.specs.declared.network.Key.{Key}
use Rattle.firm_graph.specs.declared.network.Key.TheVariants.{Through, Slot, Exit, Wide, Stay, Wait as WaitArc, Prefer}
use Rattle.firm_canon.specs.inner.Placed.{pick, stay, waits, placed}
use Rattle.firm_canon.proofs.Nears.{cond_le, wide_le_one, prefer_le_one}
use Rattle.firm_canon.proofs.Placed.{load_is, wide_arc, stay_arc, delay_arc, prefer_arc, count_at}

pub All-halves : {A : Type 0} (P : A → Type 0) (xs ys : List A) → All P (xs ++ ys) → All P xs × All P ys
All-halves {A} P [] ys h = (All-nil P, h)
All-halves {A} P (x ∷ xs) ys h =
    let rest : All P xs × All P ys = All-halves P xs ys (All-tail P x (xs ++ ys) h) in
    (All-cons P x xs (All-head P x (xs ++ ys) h) rest.0, rest.1)

pub All-gather : {A : Type 0} (P : A → Type 0) (f : ℕ → List A) (n : ℕ) → ((i : ℕ) → i < n → All P (f i))
    → All P (gather f n)
All-gather {A} P f zero h = All-nil P
All-gather {A} P f (suc n) h = All-append P (gather f n) (f n) (All-gather P f n (λ i l. h i (omega arith)))
    (h n (omega arith))

pub All-gather_at : {A : Type 0} (P : A → Type 0) (f : ℕ → List A) (n i : ℕ) → All P (gather f n) → i < n → All P (f i)
All-gather_at {A} P f zero i h l = absurd (omega arith)
All-gather_at {A} P f (suc n) i h l =
    let halves : All P (gather f n) × All P (f n) = All-halves P (gather f n) (f n) h in
    ⊎_elim (λ (e : i ≡ n). subst (λ k. All P (f k)) (sym e) halves.1)
    (λ (ne : i ≡ n → ⊥). All-gather_at P f n i halves.0 (omega arith))
    (cases_eq i n)

pub record OnParts (P : Arc Node Key → Type 0) (c : Case) (low x : Key → ℕ) : Type 0 where
  pub through : (j : ℕ) → j < length c.slots → P (arc low x (Through j) Hub (Machine j) (slots_of c j) 0)
  pub slot : (j k : ℕ) → j < length c.slots → k < slots_of c j
      → P (arc low x (Slot j k) (Machine j) Sink 1 (slot_cost c.spread k))
  pub exit : (k : ℕ) → k < c.jobs → P (arc low x (Exit k) (Owner k) Sink c.limit 0)
  pub wides : (i : ℕ) → i < length c.tasks → P (wide_arc c low x i)
  pub stays : (i : ℕ) → i < length c.tasks → P (stay_arc c low x i)
  pub delays : (i : ℕ) → i < length c.tasks → P (delay_arc c low x i)
  pub prefers : (i k : ℕ) → i < length c.tasks → k < count_at c i → P (prefer_arc c low x i k)

pub whole : (P : Arc Node Key → Type 0) (c : Case) (low x : Key → ℕ) → OnParts P c low x → All P (network c low x)
whole P c low x h =
    All-append P (gather (machine_arcs c low x) (length c.slots))
    (gather (job_arcs c low x) c.jobs ++ gather (task_arcs c low x) (length c.tasks))
    (All-gather P (machine_arcs c low x) (length c.slots) (λ j l.
    All-cons P (arc low x (Through j) Hub (Machine j) (slots_of c j) 0)
    (gather (λ k. arc low x (Slot j k) (Machine j) Sink 1 (slot_cost c.spread k) ∷ []) (slots_of c j))
    (h.through j l)
    (All-gather P (λ (k : ℕ). arc low x (Slot j k) (Machine j) Sink 1 (slot_cost c.spread k) ∷ []) (slots_of c j)
    (λ k r.
    All-cons P (arc low x (Slot j k) (Machine j) Sink 1 (slot_cost c.spread k)) [] (h.slot j k l r) (All-nil P)))))
    (All-append P (gather (job_arcs c low x) c.jobs) (gather (task_arcs c low x) (length c.tasks))
    (All-gather P (job_arcs c low x) c.jobs (λ k l.
    All-cons P (arc low x (Exit k) (Owner k) Sink c.limit 0) [] (h.exit k l) (All-nil P)))
    (All-gather P (task_arcs c low x) (length c.tasks) (λ i l.
    let wide : Arc Node Key = wide_arc c low x i in
    let stay : Arc Node Key = stay_arc c low x i in
    let waits : Arc Node Key = delay_arc c low x i in
    let rest : List (Arc Node Key) = gather (λ k. prefer_arc c low x i k ∷ []) (count_at c i) in
    All-cons P wide (stay ∷ waits ∷ rest) (h.wides i l)
    (All-cons P stay (waits ∷ rest) (h.stays i l) (All-cons P waits rest (h.delays i l)
    (All-gather P (λ (k : ℕ). prefer_arc c low x i k ∷ []) (count_at c i) (λ k m.
    All-cons P (prefer_arc c low x i k) [] (h.prefers i k l m) (All-nil P))))))))

pub parts : (P : Arc Node Key → Type 0) (c : Case) (low x : Key → ℕ) → All P (network c low x) → OnParts P c low x
parts P c low x h =
    let one : All P (gather (machine_arcs c low x) (length c.slots))
    × All P (gather (job_arcs c low x) c.jobs ++ gather (task_arcs c low x) (length c.tasks)) =
    All-halves P (gather (machine_arcs c low x) (length c.slots))
    (gather (job_arcs c low x) c.jobs ++ gather (task_arcs c low x) (length c.tasks)) h in
    let two : All P (gather (job_arcs c low x) c.jobs) × All P (gather (task_arcs c low x) (length c.tasks)) =
    All-halves P (gather (job_arcs c low x) c.jobs) (gather (task_arcs c low x) (length c.tasks)) one.1 in
    let machine : (j : ℕ) → j < length c.slots
    → All P (machine_arcs c low x j) = λ j l. All-gather_at P (machine_arcs c low x) (length c.slots) j one.0 l in
    let task : (i : ℕ) → i < length c.tasks → All P (task_arcs c low x i) =
    λ i l. All-gather_at P (task_arcs c low x) (length c.tasks) i two.1 l in
    record {
      through = λ j l. machine j l 0 (arc low x (Through j) Hub (Machine j) (slots_of c j) 0) (omega arith);
      slot = λ j k l r. All-gather_at P (λ (k : ℕ). arc low x (Slot j k) (Machine j) Sink 1 (slot_cost c.spread k) ∷ [])
          (slots_of c j) k
          (All-tail P (arc low x (Through j) Hub (Machine j) (slots_of c j) 0)
          (gather (λ k. arc low x (Slot j k) (Machine j) Sink 1 (slot_cost c.spread k) ∷ []) (slots_of c j))
          (machine j l)) r
          0 (arc low x (Slot j k) (Machine j) Sink 1 (slot_cost c.spread k)) (omega arith);
      exit = λ k l. All-gather_at P (job_arcs c low x) c.jobs k two.0 l 0 (arc low x (Exit k) (Owner k) Sink c.limit 0)
          (omega arith);
      wides = λ i l. task i l 0 (wide_arc c low x i) (omega arith);
      stays = λ i l. task i l 1 (wide_arc c low x i) (omega arith);
      delays = λ i l. task i l 2 (wide_arc c low x i) (omega arith);
      prefers = λ i k l m. All-gather_at P (λ (k : ℕ). prefer_arc c low x i k ∷ []) (count_at c i) k
          (All-tail P (delay_arc c low x i) (gather (λ k. prefer_arc c low x i k ∷ []) (count_at c i))
          (All-tail P (stay_arc c low x i)
          (delay_arc c low x i ∷ gather (λ k. prefer_arc c low x i k ∷ []) (count_at c i))
          (All-tail P (wide_arc c low x i)
          (stay_arc c low x i ∷ delay_arc c low x i ∷ gather (λ k. prefer_arc c low x i k ∷ []) (count_at c i))
          (task i l))))
          m
          0 (prefer_arc c low x i k) (omega arith);
    }

guest_le_load : (home : Option ℕ) (o : Option Choice) → stay home o ≤ cond (runs home) 1 0
guest_le_load None None = omega arith
guest_le_load (Some h) None = omega arith
guest_le_load None (Some Wait) = omega arith
guest_le_load (Some h) (Some Wait) = omega arith
guest_le_load None (Some (On j)) = omega arith
guest_le_load (Some h) (Some (On j)) = elim (eqb h j) as (λ b. cond b 1 0 ≤ 1)
    [ true ↦ omega arith | false ↦ omega arith ]

waits_le_one : (o : Option Choice) → waits o ≤ 1
waits_le_one None = omega arith
waits_le_one (Some Wait) = omega arith
waits_le_one (Some (On j)) = omega arith

pub total_le_count : (f : ℕ → ℕ) (n : ℕ) → ((i : ℕ) → i < n → f i ≤ 1) → total f n ≤ n
total_le_count f zero h = omega arith
total_le_count f (suc n) h = omega (arith, total_le_count f n (λ i l. h i (omega arith)), h n (omega arith))

-- THE BOUNDS of a placement's flow
pub within_placed : (c : Case) (q : List Choice) (low x : Key → ℕ) → IsSound c → IsLegal c q
    → ((k : Key) → low k ≤ placed c q k)
    → IsWithinBounds (network c low x) (λ a. placed c q a.key)
within_placed c q low x sound legal above =
    whole (λ (a : Arc Node Key). (a.low ≤ placed c q a.key) × (placed c q a.key ≤ a.cap)) c low x (record {
      through = λ j l. (above (Through j), omega (arith, load_is c q j legal.one_each, legal.room j l));
      slot = λ j k l r. (above (Slot j k), cond_le (ltb k (load q j)) 1 1 (omega arith));
      exit = λ k l. (
        above (Exit k),
        omega (
          arith,
          total_le_count (λ (i : ℕ). cond (eqb (demand c i).job k) (waits (pick q i)) 0) (length c.tasks)
              (λ i l. cond_le (eqb (demand c i).job k) (waits (pick q i)) 1 (waits_le_one (pick q i))),
        ),
      );
      wides = λ i l. (above (Wide i), wide_le_one (demand c i) (pick q i));
      stays = λ i l. (above (Stay i), guest_le_load (demand c i).home (pick q i));
      delays = λ i l. (above (WaitArc i), waits_le_one (pick q i));
      prefers = λ i k l m. (above (Prefer i k), prefer_le_one (demand c i) k (pick q i));
    })
