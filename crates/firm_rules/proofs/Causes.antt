-- A round preempts a task only for another, or where its machine's load would cost more than its wait.
use Rattle.std.proofs.Common.{◌≡◌, ℕ, zero, suc, ◌+◌, ◌<◌, ◌≤◌, Bool, true, false, not, cond, eqb, List}
use Rattle.std.proofs.Common.{[], ◌∷◌, ◌||◌, IfSome, length, set, get_or, count_by, refl, sym, ap, subst}
use Rattle.std.proofs.Common.{◌∙◌, arith}
use Rattle.std.proofs.Common.{⊎_elim, inl, inr, ◌⊎◌, is_some, Option, Some, None, true≢false, bytes_eq}
use Rattle.std.specs.Prelude.{slice_get, slice_index}
use Rattle.std.specs.List.{list_any, position_or_len}
use Rattle.std.specs.Option.{unwrap_or}
use Rattle.std.proofs.lemmas.Bool.{cases_Bool, cases_eq, cases_lt, cond-true, eq-eqb, eqb-true, ne_eqb, both_ways}
use Rattle.std.proofs.lemmas.List.{length-set, take-set-le, get_or-set_same, length-map, get_or-map}
use Rattle.std.proofs.lemmas.List.Elements.{All-set}
use Rattle.std.proofs.lemmas.List.Sums.{sum_by-set, sum_by-cons}
use Rattle.std.proofs.lemmas.Option.{slice_get_within, get_or_from_slice_get}
use Rattle.std.proofs.lemmas.Slice.Eq.{bytes_eq-Decides}
use Rattle.firm_rules.specs.Book.{TenantRows, machine_names, name_at, is_on, running_on}
use Rattle.firm_rules.specs.Names.{is_among}
use Rattle.firm_rules.specs.Sound.{AreSound}
use Rattle.firm_rules.specs.Placement.{Demand, Case, IsPlace, IsLegal, goes_to, load, load_cost, total, runs_at, rank}
use Rattle.firm_rules.specs.Placement.{comes_before, task_cost, placement_cost, slot_cost}
use Rattle.firm_rules.specs.Order.{home_at}
use Rattle.firm_rules.specs.Round.{IsRound, case_of, demand_of, machine_place, place_of}
use Rattle.firm_rules.specs.Preemption.{IsPreempted, PreemptionsHaveCauses}
use Rattle.firm_rules.specs.declared.book.Machine.{Machine}
use Rattle.firm_rules.specs.declared.book.Task.{Task}
use Rattle.firm_rules.specs.declared.rounds.Choice.{Choice}
use Rattle.firm_rules.specs.declared.rounds.Choice.TheVariants.{On, Wait}
use Rattle.firm_rules.proofs.Firsts.{rank_own}
use Rattle.firm_rules.proofs.Orders.{decided}
use Rattle.firm_rules.proofs.NamedRows.{stands-at, sum_by-map, sum_by-le-each, bytes_eq-other}
use Rattle.firm_rules.proofs.SoundRows.{one_if}
use Rattle.firm_rules.proofs.SlotCosts.{load-step}
use Rattle.firm_rules.proofs.Exchanges.{cost-set, home-at, own-cost, preempted-cost, at-place, fresh}

-- one term of a total grows
pub total_same-below : (f g : ℕ → ℕ) (n : ℕ) → ((j : ℕ) → j < n → f j ≡ g j) → total f n ≡ total g n
total_same-below f g zero same = refl
total_same-below f g (suc n) same =
    omega (arith, total_same-below f g n (λ j l. same j (omega arith)), same n (omega arith))

pub total_one : (f g : ℕ → ℕ) (n at more : ℕ) → at < n → f at ≡ g at + more → ((j : ℕ) → (j ≡ at → ⊥) → f j ≡ g j)
    → total f n ≡ total g n + more
total_one f g zero at more below grown same = absurd (omega (arith, below))
total_one f g (suc n) at more below grown same =
    ⊎_elim
    (λ (e : n ≡ at). let here : f n ≡ g n + more = subst (λ j. f j ≡ g j + more) (sym e) grown in
    omega (arith, here, total_same-below f g n (λ j l. same j (λ (q : j ≡ at). absurd (omega (arith, l, e, q))))))
    (λ (other : n ≡ at → ⊥). let low : at < n =
    ⊎_elim (λ (l : at < n). l) (λ (l : n ≤ at). absurd (other (omega (arith, l, below)))) (cases_lt at n) in
    omega (arith, total_one f g n at more low grown same, same n other))
    (cases_eq n at)

-- how many of the tasks run on a machine
abbrev homes : List Demand → ℕ → ℕ
homes tasks j = count_by (λ task. runs_at task.home j) tasks

-- one of the tasks is brought to the machine
record Found (tasks : List Demand) (p : List Choice) (machine : ℕ) : Type 0 where
  place : ℕ
  task : Demand
  there : slice_get tasks place ≡ Some task
  elsewhere : runs_at task.home machine ≡ false
  placed : slice_get p place ≡ Some (On machine)

later : (task : Demand) (tasks : List Demand) (choice : Choice) (p : List Choice) (machine : ℕ) → Found tasks p machine
    → Found (task ∷ tasks) (choice ∷ p) machine
later task tasks choice p machine f =
    record { place = suc f.place; task = f.task; there = f.there; elsewhere = f.elsewhere; placed = f.placed }

going : (machine : ℕ) (choice : Choice) → goes_to machine choice ≡ true → choice ≡ On machine
going machine (On k) goes = ap On (eqb-true k machine goes)
going machine Wait goes = absurd cc

-- no task is brought to the machine, or no more tasks are placed on it than run there
at_home : (tasks : List Demand) (p : List Choice) (machine : ℕ) → length p ≡ length tasks
    → (load p machine ≤ homes tasks machine) ⊎ Found tasks p machine
at_home [] [] machine same = inl (omega arith)
at_home [] (choice ∷ p) machine same = absurd (omega (arith, same))
at_home (task ∷ tasks) [] machine same = absurd (omega (arith, same))
at_home (task ∷ tasks) (choice ∷ p) machine same =
    let goes : Choice → ℕ = λ c. cond (goes_to machine c) 1 0 in
    let runs : Demand → ℕ = λ t. cond (runs_at t.home machine) 1 0 in
    ⊎_elim
    (λ (few : load p machine ≤ homes tasks machine).
    ⊎_elim
    (λ (to : goes_to machine choice ≡ true).
    ⊎_elim
    (λ (own : runs_at task.home machine ≡ true).
    inl (omega (
      arith,
      few,
      sum_by-cons goes choice p,
      sum_by-cons runs task tasks,
      ap one_if to,
      ap one_if own,
    )))
    (λ (other : runs_at task.home machine ≡ false).
    inr (record {
      place = 0;
      task = task;
      there = refl;
      elsewhere = other;
      placed = ap (λ (c : Choice). Some c) (going machine choice to);
    }))
    (cases_Bool (runs_at task.home machine)))
    (λ (away : goes_to machine choice ≡ false).
    inl (omega (
      arith,
      few,
      sum_by-cons goes choice p,
      sum_by-cons runs task tasks,
      ap one_if away,
    )))
    (cases_Bool (goes_to machine choice)))
    (λ (found : Found tasks p machine). inr (later task tasks choice p machine found))
    (at_home tasks p machine (omega (arith, same)))

-- where one that runs there waits, fewer are
fewer : (tasks : List Demand) (p : List Choice) (machine i : ℕ) (task : Demand) → length p ≡ length tasks
    → slice_get tasks i ≡ Some task → task.home ≡ Some machine → slice_get p i ≡ Some Wait
    → (load p machine < homes tasks machine) ⊎ Found tasks p machine
fewer [] p machine i task same there home waits = absurd (true≢false (ap is_some (sym there)))
fewer (t ∷ tasks) [] machine i task same there home waits = absurd (omega (arith, same))
fewer (t ∷ tasks) (choice ∷ p) machine zero task same there home waits =
    let goes : Choice → ℕ = λ c. cond (goes_to machine c) 1 0 in
    let runs : Demand → ℕ = λ t. cond (runs_at t.home machine) 1 0 in
    let own : runs t ≡ 1 =
    ap (λ (x : Demand). runs x) (get_or_from_slice_get (t ∷ tasks) 0 task t there)
    ∙ ap (λ (h : Option ℕ). cond (runs_at h machine) 1 0) home ∙ cond-true {A = ℕ} (eqb machine machine) 1 0
    (eq-eqb machine machine refl) in
    let none : goes choice ≡ 0 = ap goes (get_or_from_slice_get (choice ∷ p) 0 Wait choice waits) in
    ⊎_elim
    (λ (few : load p machine ≤ homes tasks machine).
    inl (omega (arith, few, own, none, sum_by-cons goes choice p, sum_by-cons runs t tasks)))
    (λ (found : Found tasks p machine). inr (later t tasks choice p machine found))
    (at_home tasks p machine (omega (arith, same)))
fewer (t ∷ tasks) (choice ∷ p) machine (suc i) task same there home waits =
    let goes : Choice → ℕ = λ c. cond (goes_to machine c) 1 0 in
    let runs : Demand → ℕ = λ t. cond (runs_at t.home machine) 1 0 in
    ⊎_elim
    (λ (few : load p machine < homes tasks machine).
    ⊎_elim
    (λ (to : goes_to machine choice ≡ true).
    ⊎_elim
    (λ (own : runs_at t.home machine ≡ true).
    inl (omega (
      arith,
      few,
      sum_by-cons goes choice p,
      sum_by-cons runs t tasks,
      ap one_if to,
      ap one_if own,
    )))
    (λ (other : runs_at t.home machine ≡ false).
    inr (record {
      place = 0;
      task = t;
      there = refl;
      elsewhere = other;
      placed = ap (λ (c : Choice). Some c) (going machine choice to);
    }))
    (cases_Bool (runs_at t.home machine)))
    (λ (away : goes_to machine choice ≡ false).
    inl (omega (
      arith,
      few,
      sum_by-cons goes choice p,
      sum_by-cons runs t tasks,
      ap one_if away,
    )))
    (cases_Bool (goes_to machine choice)))
    (λ (found : Found tasks p machine). inr (later t tasks choice p machine found))
    (fewer tasks p machine i task (omega (arith, same)) there home waits)

-- a task that waits takes a free slot of a machine
module _ (case : Case) (p : List Choice) (kept : IsLegal case p) (machine from : ℕ) (out : Demand)
    (out-there : slice_get case.tasks from ≡ Some out) (out-waits : slice_get p from ≡ Some Wait)
    (there : machine < length case.slots) (room : load p machine < slice_index case.slots machine) where
  abbrev pub placed : List Choice
  placed = set p from (On machine)

  low : from < length p
  low = slice_get_within p from Wait out-waits

  waits : get_or p from Wait ≡ Wait
  waits = get_or_from_slice_get p from Wait Wait out-waits

  loads : (j : ℕ) → load placed j ≡ load p j + cond (eqb machine j) 1 0
  loads j =
      let goes : Choice → ℕ = λ (c : Choice). cond (goes_to j c) 1 0 in
      omega (arith, sum_by-set goes p from (On machine) Wait low, ap goes waits)

  own-load : load placed machine ≡ suc (load p machine)
  own-load = omega (arith, loads machine, cond-true {A = ℕ} (eqb machine machine) 1 0 (eq-eqb machine machine refl))

  other-load : (j : ℕ) → (j ≡ machine → ⊥) → load placed j ≡ load p j
  other-load j apart =
      omega (
        arith,
        loads j,
        ap one_if (ne_eqb machine j (λ (e : machine ≡ j). apart (sym e))),
      )

  pub placed-legal : IsLegal case placed
  placed-legal =
      record {
        one_each = length-set p from (On machine) ∙ kept.one_each;
        places = All-set (IsPlace (length case.slots)) p from (On machine) there kept.places;
        room = λ j l.
            ⊎_elim
            (λ (e : j ≡ machine). subst (λ (k : ℕ). load placed k ≤ slice_index case.slots k) (sym e)
            (omega (arith, own-load, room)))
            (λ (apart : j ≡ machine → ⊥). omega (arith, other-load j apart, kept.room j l))
            (cases_eq j machine);
      }

  pub placed-cost : placement_cost case placed + task_cost case out Wait
      ≡ placement_cost case p + task_cost case out (On machine) + slot_cost case.spread (load p machine)
  placed-cost =
      omega (
        arith,
        total_one (λ j. load_cost case.spread (load placed j)) (λ j. load_cost case.spread (load p j))
            (length case.slots) machine (slot_cost case.spread (load p machine)) there
            (ap (load_cost case.spread) own-load ∙ load-step case.spread (load p machine))
            (λ j apart. ap (load_cost case.spread) (other-load j apart)),
        cost-set case case.tasks p from out (On machine) kept.one_each out-there,
        ap (task_cost case out) waits,
      )

  -- where it runs there, the placement with it comes before
  placed-before : out.home ≡ Some machine → comes_before (length case.slots) case.tasks placed p ≡ true
  placed-before home =
      decided (length case.slots) case.tasks placed p from (length-set p from (On machine) ∙ kept.one_each)
      kept.one_each (omega (arith, low, kept.one_each))
      (take-set-le from p from (On machine) (omega arith))
      (omega (
        arith,
        there,
        ap (λ (c : Choice). rank (length case.slots) (home_at case.tasks from) c)
            (get_or-set_same p from (On machine) Wait low),
        ap (λ (c : Choice). rank (length case.slots) (home_at case.tasks from) c) waits,
        rank_own (length case.slots) (home_at case.tasks from) machine
            (ap (λ (h : Option ℕ). runs_at h machine) (home-at case.tasks from out out-there ∙ home)
            ∙ eq-eqb machine machine refl),
      ))

-- a preempted task would cost more on its machine, if there is room
dear : (case : Case) (p : List Choice) → IsRound case p → (machine from : ℕ) (out : Demand)
    → IsPreempted case p machine from out
    → machine < length case.slots → load p machine < slice_index case.slots machine
    → out.delay + case.churn < slot_cost case.spread (load p machine)
dear case p round machine from out preempted there room =
    let other = placed case p round.legal machine from out preempted.there preempted.waits there room in
    let legal = placed-legal case p round.legal machine from out preempted.there preempted.waits there room in
    let changed : placement_cost case other + out.delay + case.churn
    ≡ placement_cost case p + slot_cost case.spread (load p machine) =
    omega (
      arith,
      placed-cost case p round.legal machine from out preempted.there preempted.waits there room,
      own-cost case out machine preempted.home,
      preempted-cost case out machine preempted.home,
    ) in
    ⊎_elim (λ (l : out.delay + case.churn < slot_cost case.spread (load p machine)). l)
    (λ (l : slot_cost case.spread (load p machine) ≤ out.delay + case.churn).
    absurd (both_ways (comes_before (length case.slots) case.tasks other p)
    (round.first other legal (omega (arith, changed, l, round.least other legal)))
    (placed-before case p round.legal machine from out preempted.there preempted.waits there room preempted.home)))
    (cases_lt (out.delay + case.churn) (slot_cost case.spread (load p machine)))

-- a name that is among the names has a place there
pub position-below : {X : Type 0} (p : X → Bool) (xs : List X) → list_any p xs ≡ true → position_or_len p xs < length xs
position-below p [] some = absurd cc
position-below p (x ∷ xs) some =
    elim (p x) as (λ b. (b || list_any p xs) ≡ true → cond (not b) (1 + position_or_len p xs) 0 < suc (length xs)) [
      | true ↦ λ h. omega arith
      | false ↦ λ h. omega (arith, position-below p xs h)
    ] some

-- no machine of sound rows runs more tasks than it has slots
module _ (rows : TenantRows) (sound : AreSound rows) where
  bytes_eq-swapped : (xs ys : List ℕ) → bytes_eq xs ys ≡ bytes_eq ys xs
  bytes_eq-swapped xs ys =
      ⊎_elim
      (λ (e : bytes_eq ys xs ≡ true).
      (bytes_eq-Decides xs ys).1 (sym ((bytes_eq-Decides ys xs).0 e)) ∙ sym e)
      (λ (e : bytes_eq ys xs ≡ false). bytes_eq-other ys xs e ∙ sym e) (cases_Bool (bytes_eq ys xs))

  pub at_machine : (j : ℕ) → j < length (machine_names rows) → (home : Option (List ℕ))
      → runs_at (machine_place rows home) j ≡ is_on (name_at (machine_names rows) j) home
  at_machine j below None = refl
  at_machine j below (Some name) =
      stands-at (machine_names rows) name j sound.machine_names_differ below
      ∙ bytes_eq-swapped name (name_at (machine_names rows) j)

  fits : (j : ℕ) → j < length (case_of rows).slots
      → homes (case_of rows).tasks j ≤ slice_index (case_of rows).slots j
  fits j l =
      let counted : length (case_of rows).slots ≡ length rows.machines =
      length-map rows.machines (λ (m : Machine). m.slots) in
      let named : length (machine_names rows) ≡ length rows.machines =
      length-map rows.machines (λ (m : Machine). m.name) in
      let below : j < length rows.machines = omega (arith, l, counted) in
      let any : Machine = record { name = []; slots = 0 } in
      let runs : Task → ℕ = λ t. cond (runs_at (machine_place rows t.machine) j) 1 0 in
      let on : Task → ℕ = λ t. cond (is_on (name_at (machine_names rows) j) t.machine) 1 0 in
      omega (
        arith,
        sum_by-map (λ (d : Demand). cond (runs_at d.home j) 1 0) (demand_of rows) rows.tasks,
        sum_by-le-each runs on rows.tasks (λ t. let same : runs t ≡ on t =
            ap one_if (at_machine j (omega (arith, below, named)) t.machine) in
            omega (arith, same)),
        ap (λ (n : List ℕ). running_on rows n) (get_or-map (λ (m : Machine). m.name) rows.machines j any [] below),
        get_or-map (λ (m : Machine). m.slots) rows.machines j any 0 below,
        sound.room j any below,
      )

  -- the machine that a task of the rows runs on is there
  home-there : (home : Option (List ℕ)) (machine : ℕ) → machine_place rows home ≡ Some machine
      → IfSome home (λ name. is_among (machine_names rows) name ≡ true) → machine < length (case_of rows).slots
  home-there None machine runs among = absurd (true≢false (ap is_some (sym runs)))
  home-there (Some name) machine runs among =
      let is : place_of rows name ≡ machine = ap (λ (found : Option ℕ). unwrap_or found 0) runs in
      omega (
        arith,
        is,
        position-below (bytes_eq name) (machine_names rows) among,
        length-map rows.machines (λ (m : Machine). m.name),
        length-map rows.machines (λ (m : Machine). m.slots),
      )

pub caused : PreemptionsHaveCauses
caused rows p sound form round machine from task task-there preempted =
    let case : Case = case_of rows in
    let out : Demand = demand_of rows task in
    let there : machine < length case.slots =
    home-there rows sound task.machine machine preempted.home
    (at-place (λ (t : Task). IfSome t.machine (λ name. is_among (machine_names rows) name ≡ true)) rows.tasks from task
    sound.machines_there task-there) in
    let none : task.waited ≡ 0 =
    fresh rows task.machine machine task.waited preempted.home
    (at-place (λ (t : Task). IfSome t.machine (λ _. t.waited ≡ 0)) rows.tasks from task form.running task-there) in
    ⊎_elim (λ (room : load p machine < slice_index case.slots machine).
    inl (omega (arith, none, dear case p round machine from out preempted there room)))
    (λ (full : slice_index case.slots machine ≤ load p machine).
    ⊎_elim (λ (few : load p machine < homes case.tasks machine).
    absurd (omega (arith, few, full, fits rows sound machine there)))
    (λ (found : Found case.tasks p machine).
    inr (record {
      place = found.place;
      task = found.task;
      brought = record { there = found.there; elsewhere = found.elsewhere; placed = found.placed };
    }))
    (fewer case.tasks p machine from out round.legal.one_each preempted.there preempted.home preempted.waits))
    (cases_lt (load p machine) (slice_index case.slots machine))
