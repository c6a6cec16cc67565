-- Each task stays where some round may have left it.
use Rattle.std.proofs.Common.{◌≡◌, ℕ, zero, suc, ◌+◌, ◌-◌, ◌<◌, ◌≤◌, Bool, true, false, not, cond, eqb, ltb, ◌&&◌, ◌||◌}
use Rattle.std.proofs.Common.{List, [], ◌∷◌, ◌++◌, map, filter, length, set, take, get_or, All, IfSome, Option, Some}
use Rattle.std.proofs.Common.{None}
use Rattle.std.proofs.Common.{is_some, bytes_eq, true≢false, refl, sym, ap, subst, ◌∙◌, arith, ⊎_elim, inl, inr, ◌⊎◌}
use Rattle.std.specs.Prelude.{count_by, min, nat_le, slice_get, slice_index, slice_index_or}
use Rattle.std.specs.List.{list_all, list_any, position_or_len}
use Rattle.std.proofs.lemmas.Bool.{cases_Bool, and_from, and_left, and_parts, and_right, or_left, or_right, le-leb}
use Rattle.std.proofs.lemmas.Bool.{leb-true, cases_eq, eqb-true, eq-eqb, lt-ltb, ne_eqb}
use Rattle.std.proofs.lemmas.List.{length-map, length-set, get_or-map, get_or-set_same, get_or-set_other, set-get_or}
use Rattle.std.proofs.lemmas.List.Elements.{All-push, All-map, All-filter, All-set}
use Rattle.std.proofs.lemmas.List.Sums.{count_by_more_no, count_by_more_yes, sum_by-set, sum_by_push}
use Rattle.std.proofs.lemmas.List.Folds.{list_all_more}
use Rattle.std.proofs.lemmas.Option.{slice_get-get_or, slice_get_within, get_or_from_slice_get}
use Rattle.std.proofs.lemmas.Slice.Eq.{bytes_eq-Decides}
use Rattle.firm_rules.specs.Names.{is_among}
use Rattle.firm_rules.specs.Limits.{TenantLimits}
use Rattle.firm_rules.specs.Preferences.{without_preference}
use Rattle.firm_rules.specs.Book.{TenantRows, machine_names, name_at, is_on, evicted, forgetting, running_on}
use Rattle.firm_rules.specs.Book.{with_machine, with_job, with_task, without_machine, without_job, without_task}
use Rattle.firm_rules.specs.Book.{has_tasks, new_task}
use Rattle.firm_rules.specs.Sound.{AreSound}
use Rattle.firm_rules.specs.SoundBook.{MayStand, may_pay, may_stand, may_start, may_stay, last_slot_cost, start_cost}
use Rattle.firm_rules.specs.SoundBook.{bid_on, cost_of_wait, highest, rounds_shown, slot_price}
use Rattle.firm_rules.specs.Keeping.{AreSoundInForm}
use Rattle.firm_rules.specs.Standing.{StayStanding, TasksStayStanding}
use Rattle.firm_rules.specs.Placement.{Demand, Case, IsLegal, IsPlace, goes_to, load, slot_cost, task_cost}
use Rattle.firm_rules.specs.Placement.{placement_cost, runs_at, prefers, is_remote, home_choice}
use Rattle.firm_rules.specs.Round.{IsRound, case_of, demand_of, machine_place, place_of, job_place, weight_at}
use Rattle.firm_rules.specs.Round.{rows_after, task_after, zipped}
use Rattle.firm_rules.specs.declared.book.Machine.{Machine}
use Rattle.firm_rules.specs.declared.book.Job.{Job}
use Rattle.firm_rules.specs.declared.book.Task.{Task}
use Rattle.firm_rules.specs.declared.rounds.Choice.{Choice}
use Rattle.firm_rules.specs.declared.rounds.Choice.TheVariants.{On, Wait}
use Rattle.firm_rules.proofs.NamedRows.{bytes_eq-other, sum_by-map, sum_by-le-each, sum_by-filter-le}
use Rattle.firm_rules.proofs.NamedRows.{is_other, stands-at}
use Rattle.firm_rules.proofs.SoundRows.{evicted-cases, on-evicted-le, all-fail, load-after, one_each, length-zipped}
use Rattle.firm_rules.proofs.Bids.{bid-evicted, bid-kept, highest-filter, highest-least, highest-less, highest-push}
use Rattle.firm_rules.proofs.Bids.{highest-same, preferred-same}
use Rattle.firm_rules.proofs.SlotCosts.{rises}
use Rattle.firm_rules.proofs.Waits.{if-most, yields}
use Rattle.firm_rules.proofs.Exchanges.{own-cost, preempted-cost, brought-cost}
use Rattle.firm_rules.proofs.Causes.{at_machine, placed, placed-cost}

-- the test in words: the last round placed the task there, or kept it there
abbrev Stands : TenantRows → ℕ → Task → List ℕ → ℕ → Type 0
Stands rows rounds task machine price =
    (price + start_cost rows task machine ≤ cost_of_wait rows task (rounds - 1))
    ⊎ ((2 ≤ rounds)
    × (price ≤ cost_of_wait rows task 0 + rows.limits.churn)
    × (start_cost rows task machine ≤ cost_of_wait rows task (rounds - 2)))

told : (rows : TenantRows) (rounds : ℕ) (task : Task) (machine : List ℕ) (price : ℕ)
    → may_pay rows rounds task machine price ≡ true → Stands rows rounds task machine price
told rows rounds task machine price =
    let stays : Bool = may_stay rows rounds task machine price in
    let slot : Bool = nat_le price (cost_of_wait rows task 0 + rows.limits.churn) in
    let start : Bool = nat_le (start_cost rows task machine) (cost_of_wait rows task (rounds - 2)) in
    elim (may_start rows rounds task machine price) as (λ b. may_start rows rounds task machine price ≡ b
    → (b || stays) ≡ true → Stands rows rounds task machine price) [
      | true ↦ λ e _. inl (leb-true _ _ e)
      | false ↦ λ _ e. let both = and_parts (nat_le 2 rounds && slot) start e in
          let first = and_parts (nat_le 2 rounds) slot both.0 in
          inr (leb-true _ _ first.0, leb-true _ _ first.1, leb-true _ _ both.1)
    ] refl

passes : (rows : TenantRows) (rounds : ℕ) (task : Task) (machine : List ℕ) (price : ℕ)
    → Stands rows rounds task machine price → may_pay rows rounds task machine price ≡ true
passes rows rounds task machine price stands =
    let starts : Bool = may_start rows rounds task machine price in
    let stays : Bool = may_stay rows rounds task machine price in
    let slot : Bool = nat_le price (cost_of_wait rows task 0 + rows.limits.churn) in
    let start : Bool = nat_le (start_cost rows task machine) (cost_of_wait rows task (rounds - 2)) in
    ⊎_elim
    (λ (l : price + start_cost rows task machine ≤ cost_of_wait rows task (rounds - 1)).
    or_left starts stays (le-leb _ _ l))
    (λ (s : (2 ≤ rounds)
    × (price ≤ cost_of_wait rows task 0 + rows.limits.churn)
    × (start_cost rows task machine ≤ cost_of_wait rows task (rounds - 2))).
    or_right starts stays (and_from (nat_le 2 rounds && slot) start
    (and_from (nat_le 2 rounds) slot (le-leb _ _ s.0) (le-leb _ _ s.1)) (le-leb _ _ s.2)))
    stands

-- what a task must be worth on the machine as the rows are
abbrev price_there : TenantRows → List ℕ → ℕ
price_there rows machine = slot_price rows machine (running_on rows machine)

-- a task of other rows has as much weight there, and costs no more on the machine
record Eases (was now : TenantRows) (before after : Task) (machine : List ℕ) : Type 0 where
  load : running_on now machine ≤ running_on was machine
  bids : highest (bid_on now machine) now.tasks ≤ highest (bid_on was machine) was.tasks
  start : start_cost now after machine ≤ start_cost was before machine
  weight : weight_at now (job_place now after) ≡ weight_at was (job_place was before)

-- then it may stand where it did
module _ (was now : TenantRows) (rounds more : ℕ) (same : now.limits ≡ was.limits) (later : rounds ≤ more) where
  patience : now.limits.patience ≡ was.limits.patience
  patience = ap (λ (l : TenantLimits). l.patience) same

  churn : now.limits.churn ≡ was.limits.churn
  churn = ap (λ (l : TenantLimits). l.churn) same

  slot-eased : (fewer load : ℕ) → fewer ≤ load → last_slot_cost now fewer ≤ last_slot_cost was load
  slot-eased fewer load less =
      subst (λ (spread : ℕ). slot_cost spread (fewer - 1) ≤ last_slot_cost was load)
      (sym (ap (λ (l : TenantLimits). l.spread) same))
      (rises was.limits.spread (fewer - 1) (load - 1) (omega (arith, less)))

  eased : (before after : Task) (machine : List ℕ) → Eases was now before after machine
      → Stands was rounds before machine (price_there was machine)
      → Stands now more after machine (price_there now machine)
  eased before after machine eases =
      let price : price_there now machine ≤ price_there was machine =
      omega (
        arith,
        slot-eased (running_on now machine) (running_on was machine) eases.load,
        eases.bids,
      ) in
      ⊎_elim
      (λ (l : price_there was machine + start_cost was before machine ≤ cost_of_wait was before (rounds - 1)).
      inl (omega (arith, l, price, eases.start, eases.weight, patience, later)))
      (λ (s : (2 ≤ rounds)
      × (price_there was machine ≤ cost_of_wait was before 0 + was.limits.churn)
      × (start_cost was before machine ≤ cost_of_wait was before (rounds - 2))).
      inr (
        omega (arith, s.0, later),
        omega (arith, s.1, price, eases.weight, patience, churn),
        omega (arith, s.2, eases.start, eases.weight, patience, later),
      ))

  carried : (before after : Task) (home : Option (List ℕ))
      → ((machine : List ℕ) → home ≡ Some machine → Eases was now before after machine)
      → may_stand was rounds before home ≡ true → may_stand now more after home ≡ true
  carried before after None eases may = refl
  carried before after (Some machine) eases may =
      passes now more after machine (price_there now machine)
      (eased before after machine (eases machine refl) (told was rounds before machine (price_there was machine) may))

  all-carried : ((k : ℕ) (d : Task) → k < length was.tasks → (machine : List ℕ)
      → Eases was now (slice_index_or was.tasks k d) (slice_index_or was.tasks k d) machine)
      → MayStand rounds was → All (λ task. may_stand now more task task.machine ≡ true) was.tasks
  all-carried eases may = λ k d l.
      let task : Task = slice_index_or was.tasks k d in
      carried task task task.machine (λ machine _. eases k d l machine) (may k d l)

-- the weight of the job of this name
abbrev weight_in : List Job → List ℕ → ℕ
weight_in jobs name =
    slice_index_or (map (λ job. job.weight) jobs) (position_or_len (bytes_eq name) (map (λ job. job.name) jobs)) 0

-- read behind the first
behind : (first : ℕ) (weights : List ℕ) (place : ℕ)
    → slice_index_or (first ∷ weights) (1 + place) 0 ≡ slice_index_or weights place 0
behind first weights place =
    ap (λ (n : ℕ). slice_index_or (first ∷ weights) n 0) (let e : 1 + place ≡ suc place = omega arith in e)

-- stays as others come
weight-appended : (jobs more : List Job) (name : List ℕ) → is_among (map (λ job. job.name) jobs) name ≡ true
    → weight_in (jobs ++ more) name ≡ weight_in jobs name
weight-appended [] more name there = absurd (true≢false (sym there))
weight-appended (job ∷ jobs) more name there =
    elim (bytes_eq name job.name) as (λ b. (b || is_among (map (λ job. job.name) jobs) name) ≡ true
    → slice_index_or (job.weight ∷ map (λ job. job.weight) (jobs ++ more))
    (cond (not b) (1 + position_or_len (bytes_eq name) (map (λ job. job.name) (jobs ++ more))) 0) 0
    ≡ slice_index_or (job.weight ∷ map (λ job. job.weight) jobs)
    (cond (not b) (1 + position_or_len (bytes_eq name) (map (λ job. job.name) jobs)) 0) 0) [
      | true ↦ λ _. refl
      | false ↦ λ h. behind job.weight (map (λ job. job.weight) (jobs ++ more))
          (position_or_len (bytes_eq name) (map (λ job. job.name) (jobs ++ more)))
          ∙ weight-appended jobs more name h
          ∙ sym (behind job.weight (map (λ job. job.weight) jobs)
          (position_or_len (bytes_eq name) (map (λ job. job.name) jobs)))
    ] there

-- and as others go
weight-left : (jobs : List Job) (gone name : List ℕ) → bytes_eq gone name ≡ false
    → weight_in (filter (is_other (λ (job : Job). job.name) gone) jobs) name ≡ weight_in jobs name
weight-left [] gone name other = refl
weight-left (job ∷ jobs) gone name other =
    let left : List Job = filter (is_other (λ (job : Job). job.name) gone) jobs in
    let further : List Job → Bool → ℕ = λ jobs b. slice_index_or (job.weight ∷ map (λ job. job.weight) jobs)
    (cond (not b) (1 + position_or_len (bytes_eq name) (map (λ job. job.name) jobs)) 0) 0 in
    let later : (jobs : List Job) → further jobs false ≡ weight_in jobs name = λ jobs.
    behind job.weight (map (λ job. job.weight) jobs)
    (position_or_len (bytes_eq name) (map (λ job. job.name) jobs)) in
    elim (bytes_eq gone job.name) as (λ g. bytes_eq gone job.name ≡ g
    → weight_in (cond (not g) (job ∷ left) left) name ≡ weight_in (job ∷ jobs) name) [
      | true ↦ λ e. weight-left jobs gone name other ∙ sym (later jobs)
          ∙ sym (ap (further jobs) (bytes_eq-other job.name name
          (subst (λ (n : List ℕ). bytes_eq n name ≡ false) ((bytes_eq-Decides gone job.name).0 e) other)))
      | false ↦ λ _. elim (bytes_eq name job.name) as (λ b. further left b ≡ further jobs b) [
        | true ↦ refl
        | false ↦ later left ∙ weight-left jobs gone name other ∙ sym (later jobs)
      ]
    ] refl

-- it costs no more to start on a machine once another is gone
start-left : (remote : ℕ) (preferred : List (List ℕ)) (gone name : List ℕ) → bytes_eq gone name ≡ false
    → cond (ltb 0 (length (without_preference gone preferred))
    && not (is_among (without_preference gone preferred) name)) remote 0
    ≤ cond (ltb 0 (length preferred) && not (is_among preferred name)) remote 0
start-left remote [] gone name other = omega arith
start-left remote (first ∷ preferred) gone name other =
    elim (is_among (first ∷ preferred) name) as (λ b. is_among (first ∷ preferred) name ≡ b
    → cond (ltb 0 (length (without_preference gone (first ∷ preferred)))
    && not (is_among (without_preference gone (first ∷ preferred)) name)) remote 0
    ≤ cond (ltb 0 (length (first ∷ preferred)) && not b) remote 0) [
      | true ↦ λ e. omega (arith, none e)
      | false ↦ λ _. some (ltb 0 (length (without_preference gone (first ∷ preferred)))
          && not (is_among (without_preference gone (first ∷ preferred)) name))
    ] refl
  where
    most : (b : Bool) → cond b remote 0 ≤ remote
    most true = omega arith
    most false = omega arith

    some : (b : Bool) → cond b remote 0 ≤ cond (ltb 0 (length (first ∷ preferred)) && true) remote 0
    some b =
        subst (λ (many : Bool). cond b remote 0 ≤ cond (many && true) remote 0)
        (sym (lt-ltb 0 (length (first ∷ preferred)) (omega arith))) (most b)

    none : is_among (first ∷ preferred) name ≡ true
        → cond (ltb 0 (length (without_preference gone (first ∷ preferred)))
        && not (is_among (without_preference gone (first ∷ preferred)) name)) remote 0 ≡ 0
    none e =
        ap (λ (b : Bool). cond b remote 0)
        (and_right (ltb 0 (length (without_preference gone (first ∷ preferred))))
        (not (is_among (without_preference gone (first ∷ preferred)) name))
        (ap not (preferred-same (first ∷ preferred) gone name other ∙ e)))

-- an element of what a function makes of two lists
zipped-at : {X Y Z : Type 0} (f : X → Y → Z) (xs : List X) (ys : List Y) (k : ℕ) (x : X) (y : Y) (z : Z)
    → length ys ≡ length xs → k < length xs
    → slice_index_or (zipped f xs ys) k z ≡ f (slice_index_or xs k x) (slice_index_or ys k y)
zipped-at f [] ys k x y z same below = absurd (omega (arith, below))
zipped-at f (a ∷ xs) [] k x y z same below = absurd (omega (arith, same))
zipped-at f (a ∷ xs) (b ∷ ys) zero x y z same below = refl
zipped-at f (a ∷ xs) (b ∷ ys) (suc k) x y z same below =
    zipped-at f xs ys k x y z (omega (arith, same)) (omega (arith, below))

-- what is written twice at a place
set-twice : {X : Type 0} (xs : List X) (i : ℕ) (x y : X) → set (set xs i x) i y ≡ set xs i y
set-twice [] i x y = refl
set-twice (a ∷ xs) zero x y = refl
set-twice {X} (a ∷ xs) (suc i) x y = ap (λ (l : List X). a ∷ l) (set-twice xs i x y)

-- in a round no task costs more on its machine than its wait would
module _ (case : Case) (p : List Choice) (round : IsRound case p) (machine from : ℕ) (task : Demand)
    (there : slice_get case.tasks from ≡ Some task) (inside : from < length p)
    (runs : get_or p from Wait ≡ On machine) where
  abbrev other : List Choice
  other = set p from Wait

  fewer : (j : ℕ) → load other j + cond (eqb machine j) 1 0 ≡ load p j
  fewer j =
      let goes : Choice → ℕ = λ (c : Choice). cond (goes_to j c) 1 0 in
      omega (arith, sum_by-set goes p from Wait Wait inside, ap goes runs)

  below : machine < length case.slots
  below = subst (IsPlace (length case.slots)) runs (round.legal.places from Wait inside)

  one-less : load other machine + 1 ≡ load p machine
  one-less =
      subst (λ (b : Bool). load other machine + cond b 1 0 ≡ load p machine) (eq-eqb machine machine refl)
      (fewer machine)

  legal : IsLegal case other
  legal =
      record {
        one_each = length-set p from Wait ∙ round.legal.one_each;
        places = All-set (IsPlace (length case.slots)) p from Wait tt round.legal.places;
        room = λ j l. omega (arith, fewer j, round.legal.room j l);
      }

  waits : slice_get other from ≡ Some Wait
  waits =
      slice_get-get_or other from Wait (omega (arith, inside, length-set p from Wait))
      ∙ ap Some (get_or-set_same p from Wait Wait inside)

  room : load other machine < slice_index case.slots machine
  room = omega (arith, one-less, round.legal.room machine below)

  again : placed case other legal machine from task there waits below room ≡ p
  again =
      set-twice p from Wait (On machine) ∙ ap (set p from) (sym runs) ∙ set-get_or p from Wait

  pub worth : slot_cost case.spread (load p machine - 1) + task_cost case task (On machine) ≤ task_cost case task Wait
  worth =
      let last : slot_cost case.spread (load other machine) ≡ slot_cost case.spread (load p machine - 1) =
      ap (slot_cost case.spread) (omega (arith, one-less)) in
      omega (
        arith,
        placed-cost case other legal machine from task there waits below room,
        ap (placement_cost case) again,
        round.least other legal,
        last,
      )

-- what a task prefers, by place and by name
module _ (rows : TenantRows) (sound : AreSound rows) (j : ℕ) (below : j < length (machine_names rows)) where
  abbrev name : List ℕ
  name = name_at (machine_names rows) j

  pub prefers-named : (preferred : List (List ℕ))
      → list_any (λ k. eqb k j) (map (place_of rows) preferred) ≡ is_among preferred name
  prefers-named [] = refl
  prefers-named (first ∷ preferred) =
      ap (λ (b : Bool). b || list_any (λ k. eqb k j) (map (place_of rows) preferred))
      (stands-at (machine_names rows) first j sound.machine_names_differ below ∙ swapped first name)
      ∙ ap (λ (b : Bool). bytes_eq name first || b) (prefers-named preferred)
    where
      swapped : (xs ys : List ℕ) → bytes_eq xs ys ≡ bytes_eq ys xs
      swapped xs ys = elim (bytes_eq xs ys) as (λ b. bytes_eq xs ys ≡ b → b ≡ bytes_eq ys xs) [
        | true ↦ λ e. sym ((bytes_eq-Decides ys xs).1 (sym ((bytes_eq-Decides xs ys).0 e)))
        | false ↦ λ e. sym (bytes_eq-other xs ys e)
      ] refl

  start-named : (task : Task) → runs_at (machine_place rows task.machine) j ≡ false
      → cond (is_remote (demand_of rows task) j) rows.limits.remote 0 ≡ start_cost rows task name
  start-named task elsewhere =
      ap (λ (b : Bool). cond (ltb 0 (length (map (place_of rows) task.preferred))
      && not (prefers (demand_of rows task) j) && not b) rows.limits.remote 0) elsewhere
      ∙ ap (λ (b : Bool). cond b rows.limits.remote 0)
      (last (ltb 0 (length (map (place_of rows) task.preferred)) && not (prefers (demand_of rows task) j)))
      ∙ ap (λ (n : ℕ). cond (ltb 0 n && not (prefers (demand_of rows task) j)) rows.limits.remote 0)
      (length-map task.preferred (place_of rows))
      ∙ ap (λ (b : Bool). cond (ltb 0 (length task.preferred) && not b) rows.limits.remote 0)
      (prefers-named task.preferred)
    where
      last : (b : Bool) → (b && true) ≡ b
      last true = refl
      last false = refl

  -- the machine of a place is that of its name
  named-home : (home : Option (List ℕ)) → runs_at (machine_place rows home) j ≡ true → home ≡ Some name
  named-home None at = absurd (true≢false (sym at))
  named-home (Some own) at =
      ap Some ((bytes_eq-Decides own name).0
      (sym (stands-at (machine_names rows) own j sound.machine_names_differ below) ∙ at))

  placed-home : (home : Option (List ℕ)) → runs_at (machine_place rows home) j ≡ true
      → machine_place rows home ≡ Some j
  placed-home None at = absurd (true≢false (sym at))
  placed-home (Some own) at = ap Some (eqb-true (place_of rows own) j at)

-- as many tasks run on a machine by its place as by its name
pub homes-named : (rows : TenantRows) → AreSound rows → (j : ℕ) → j < length rows.machines
    → count_by (λ task. runs_at task.home j) (case_of rows).tasks ≡ running_on rows (name_at (machine_names rows) j)
homes-named rows sound j below =
    let runs : Task → ℕ = λ t. cond (runs_at (machine_place rows t.machine) j) 1 0 in
    let on : Task → ℕ = λ t. cond (is_on (name_at (machine_names rows) j) t.machine) 1 0 in
    let low : j < length (machine_names rows) =
    omega (arith, below, length-map rows.machines (λ (m : Machine). m.name)) in
    let same : (t : Task) → runs t ≡ on t = λ t.
    ap (λ (b : Bool). cond b 1 0) (at_machine rows sound j low t.machine) in
    omega (
      arith,
      sum_by-map (λ (d : Demand). cond (runs_at d.home j) 1 0) (demand_of rows) rows.tasks,
      sum_by-le-each runs on rows.tasks (λ t. omega (arith, same t)),
      sum_by-le-each on runs rows.tasks (λ t. omega (arith, same t)),
    )

-- where a task stays that has this choice
home-on : (home : Option ℕ) (place : ℕ) → home_choice home ≡ On place → home ≡ Some place
home-on None place e = absurd cc
home-on (Some own) place e = ap Some (let same : own ≡ place = cc in same)

home-none : (home : Option ℕ) → ((place : ℕ) → home_choice home ≡ On place → ⊥) → home ≡ None
home-none None none = refl
home-none (Some own) none = absurd (none own refl)

-- how many of the first tasks run on each machine, with one more of them
module _ (tasks : List Demand) (i : ℕ) (d : Demand) (inside : i < length tasks) (loads : List ℕ)
    (full : length loads ≡ 4096)
    (so-far : (j : ℕ) → j < 4096 → slice_index loads j ≡ count_by (λ task. runs_at task.home j) (take i tasks)) where
  abbrev pub Counted : List ℕ → Type 0
  Counted next =
      (length next ≡ 4096)
      × ((j : ℕ) → j < 4096
      → slice_index next j ≡ count_by (λ task. runs_at task.home j) (take (i + 1) tasks))

  abbrev at_home : Option ℕ
  at_home = (slice_index_or tasks i d).home

  pub counted-on : (place : ℕ) (next : List ℕ) → home_choice at_home ≡ On place
      → next ≡ set loads place (slice_index loads place + 1) → place < 4096 → Counted next
  counted-on place next goes is low =
      let own : at_home ≡ Some place = home-on at_home place goes in (
        ap (λ (l : List ℕ). length l) is ∙ length-set loads place (slice_index loads place + 1) ∙ full,
        λ j l. let runs : Demand → Bool = λ t. runs_at t.home j in
            ap (λ (l : List ℕ). slice_index l j) is
            ∙ ⊎_elim
            (λ (e : j ≡ place).
            ap (slice_index (set loads place (slice_index loads place + 1))) e
            ∙ get_or-set_same loads place (slice_index loads place + 1) 0 (omega (arith, low, full))
            ∙ ap (λ (n : ℕ). slice_index loads n + 1) (sym e)
            ∙ ap (λ (n : ℕ). n + 1) (so-far j l)
            ∙ sym (count_by_more_yes runs tasks i d inside
            (ap (λ (h : Option ℕ). runs_at h j) own ∙ eq-eqb place j (sym e))))
            (λ (other : j ≡ place → ⊥).
            get_or-set_other loads place j (slice_index loads place + 1) 0 other ∙ so-far j l
            ∙ sym (count_by_more_no runs tasks i d inside
            (ap (λ (h : Option ℕ). runs_at h j) own ∙ ne_eqb place j (λ (e : place ≡ j). other (sym e)))))
            (cases_eq j place),
      )

  pub counted-far : (place : ℕ) (next : List ℕ) → home_choice at_home ≡ On place → next ≡ loads → 4096 ≤ place
      → Counted next
  counted-far place next goes is far =
      let own : at_home ≡ Some place = home-on at_home place goes in (
        ap (λ (l : List ℕ). length l) is ∙ full,
        λ j l. ap (λ (l : List ℕ). slice_index l j) is ∙ so-far j l
            ∙ sym (count_by_more_no (λ (t : Demand). runs_at t.home j) tasks i d inside
            (ap (λ (h : Option ℕ). runs_at h j) own
            ∙ ne_eqb place j (λ (e : place ≡ j). absurd (omega (arith, e, l, far))))),
      )

  pub counted-none : (next : List ℕ) → ((place : ℕ) → home_choice at_home ≡ On place → ⊥) → next ≡ loads
      → Counted next
  counted-none next none is = (
    ap (λ (l : List ℕ). length l) is ∙ full,
    λ j l. ap (λ (l : List ℕ). slice_index l j) is ∙ so-far j l
        ∙ sym (count_by_more_no (λ (t : Demand). runs_at t.home j) tasks i d inside
        (ap (λ (h : Option ℕ). runs_at h j) (home-none at_home none))),
  )

-- a test of all tasks, with one more of them
pub all-next : {X : Type 0} (p : X → Bool) (xs : List X) (i : ℕ) (x : X) → slice_get xs i ≡ Some x
    → list_all p (take i xs) ≡ true → p x ≡ true → list_all p (take (i + 1) xs) ≡ true
all-next p xs i x there all one =
    list_all_more p xs i x (slice_get_within xs i x there)
    ∙ and_from (list_all p (take i xs)) (p (get_or xs i x)) all
    (ap p (get_or_from_slice_get xs i x x there) ∙ one)

pub one-fails : {X : Type 0} (p : X → Bool) (xs : List X) (i : ℕ) (x : X) → slice_get xs i ≡ Some x → p x ≡ false
    → list_all p xs ≡ false
one-fails p [] i x there fails = absurd (true≢false (ap is_some (sym there)))
one-fails p (y ∷ xs) zero x there fails =
    and_left (p y) (list_all p xs) (ap p (get_or_from_slice_get (y ∷ xs) 0 x y there) ∙ fails)
one-fails p (y ∷ xs) (suc i) x there fails = and_right (p y) (list_all p xs) (one-fails p xs i x there fails)

pub idle-stands : (rows : TenantRows) (rounds : ℕ) (task : Task) (home : Option (List ℕ))
    → ((machine : List ℕ) → home ≡ Some machine → ⊥) → may_stand rows rounds task home ≡ true
idle-stands rows rounds task None none = refl
idle-stands rows rounds task (Some machine) none = absurd (none machine refl)

-- a task that a round leaves on a machine may stand there
module _ (rounds : ℕ) (rows : TenantRows) (well : AreSoundInForm rows) (stand : MayStand rounds rows)
    (placement : List Choice) (round : IsRound (case_of rows) placement)
    (shown : All (λ task. rounds_shown task ≤ rounds) rows.tasks) where
  same : length placement ≡ length rows.tasks
  same = one_each rows well.sound placement round.legal

  named : length (machine_names rows) ≡ length (case_of rows).slots
  named =
      length-map rows.machines (λ (m : Machine). m.name) ∙ sym (length-map rows.machines (λ (m : Machine). m.slots))

  places : All (IsPlace (length (machine_names rows))) placement
  places = subst (λ (n : ℕ). All (IsPlace n) placement) (sym named) round.legal.places

  brought : (i : ℕ) (x : Task) → i < length rows.tasks
      → slice_get (case_of rows).tasks i ≡ Some (demand_of rows (slice_index_or rows.tasks i x))
  brought i x within =
      let task : Task = slice_index_or rows.tasks i x in
      slice_get-get_or (map (demand_of rows) rows.tasks) i (demand_of rows task)
      (omega (arith, within, length-map rows.tasks (demand_of rows)))
      ∙ ap Some (get_or-map (demand_of rows) rows.tasks i x (demand_of rows task) within)

  chosen : (i : ℕ) (choice : Choice) → i < length rows.tasks → get_or placement i Wait ≡ choice
      → slice_get placement i ≡ Some choice
  chosen i choice within is = slice_get-get_or placement i Wait (omega (arith, within, same)) ∙ ap Some is

  module _ (k : ℕ) (d : Task) (inside : k < length rows.tasks) (j : ℕ) (runs : get_or placement k Wait ≡ On j) where
    abbrev task : Task
    task = slice_index_or rows.tasks k d

    abbrev home : List ℕ
    home = name_at (machine_names rows) j

    abbrev after : TenantRows
    after = rows_after rows placement

    placed-inside : k < length placement
    placed-inside = omega (arith, inside, same)

    low : j < length (machine_names rows)
    low = subst (IsPlace (length (machine_names rows))) runs (places k Wait placed-inside)

    loads : running_on after home ≡ load placement j
    loads = load-after rows well.sound.machine_names_differ j low rows.tasks placement same places

    abbrev on : ℕ
    on = task_cost (case_of rows) (demand_of rows task) (On j)

    abbrev off : ℕ
    off = task_cost (case_of rows) (demand_of rows task) Wait

    slot : last_slot_cost after (running_on after home) + on ≤ off
    slot =
        omega (
          arith,
          worth (case_of rows) placement round j k (demand_of rows task) (brought k d inside) placed-inside runs,
          ap (λ (n : ℕ). slot_cost rows.limits.spread (n - 1)) loads,
        )

    -- the machine is remote at most for those that do not prefer it
    far : (x : Task) → cond (is_remote (demand_of rows x) j) rows.limits.remote 0
        ≤ cond (is_among x.preferred home) 0 rows.limits.remote
    far x =
        subst (λ (b : Bool). cond (is_remote (demand_of rows x) j) rows.limits.remote 0 ≤ cond b 0 rows.limits.remote)
        (prefers-named rows well.sound j low x.preferred)
        (some (ltb 0 (length (map (place_of rows) x.preferred))) (prefers (demand_of rows x) j)
        (not (runs_at (machine_place rows x.machine) j)))
      where
        some : (a b c : Bool) → cond (a && not b && c) rows.limits.remote 0 ≤ cond b 0 rows.limits.remote
        some true true c = omega arith
        some false true c = omega arith
        some a false c = if-most (a && true && c) rows.limits.remote

    -- its slot is worth no more to a task that waits
    outbids : (i : ℕ) (x : Task) (choice : Choice) → i < length rows.tasks → get_or placement i Wait ≡ choice
        → bid_on after home (task_after rows (slice_index_or rows.tasks i x) choice) ≤ off - on
    outbids i x (On l) within is = omega arith
    outbids i x Wait within is =
        let waiting : Task = slice_index_or rows.tasks i x in
        let waited : ℕ = min rows.limits.patience (waiting.waited + 1) in
        omega (
          arith,
          yields (case_of rows) placement round j i k (demand_of rows waiting) (demand_of rows task)
              (brought i x within) (chosen i Wait within is) (brought k d inside) (chosen k (On j) inside runs),
          slot,
          far waiting,
          if-most (ltb 0 waited)
              (weight_at rows (job_place rows waiting) + min rows.limits.patience (waited - 1)),
        )

    bids : highest (bid_on after home) after.tasks ≤ off - on
    bids =
        highest-least (bid_on after home) after.tasks (off - on)
        (λ i x l. let within : i < length rows.tasks =
        omega (arith, l, length-zipped (task_after rows) rows.tasks placement same) in
        subst (λ (t : Task). bid_on after home t ≤ off - on)
        (sym (zipped-at (task_after rows) rows.tasks placement i x Wait x same within))
        (outbids i x (get_or placement i Wait) within refl))

    pays : price_there after home + on ≤ off
    pays = omega (arith, slot, bids)

    idle : IfSome task.machine (λ _. task.waited ≡ 0)
    idle = well.form.running k d inside

    -- it waited, or ran, for no more rounds than there were
    waited : (machine : Option (List ℕ)) → IfSome machine (λ _. task.waited ≡ 0)
        → cond (is_some machine) 1 task.waited ≤ rounds → task.waited ≤ rounds
    waited None still few = few
    waited (Some own) still few = omega (arith, still)

    starts : runs_at (machine_place rows task.machine) j ≡ false
        → Stands after (rounds + 1) task home (price_there after home)
    starts elsewhere =
        inl (omega (
          arith,
          pays,
          brought-cost (case_of rows) (demand_of rows task) j elsewhere,
          start-named rows well.sound j low task elsewhere,
          waited task.machine idle (shown k d inside),
          well.sound.waited k d inside,
        ))

    -- it was placed where it stays
    started : (price : ℕ) → Stands rows rounds task home price
        → start_cost rows task home ≤ cost_of_wait rows task (rounds - 1)
    started price stands =
        ⊎_elim
        (λ (l : price + start_cost rows task home ≤ cost_of_wait rows task (rounds - 1)). omega (arith, l))
        (λ (s : (2 ≤ rounds)
        × (price ≤ cost_of_wait rows task 0 + rows.limits.churn)
        × (start_cost rows task home ≤ cost_of_wait rows task (rounds - 2))). omega (arith, s.2))
        stands

    stays : runs_at (machine_place rows task.machine) j ≡ true
        → Stands after (rounds + 1) task home (price_there after home)
    stays at =
        let own : task.machine ≡ Some home = named-home rows well.sound j low task.machine at in
        let place : machine_place rows task.machine ≡ Some j = placed-home rows well.sound j low task.machine at in
        let none : task.waited ≡ 0 = subst (λ (m : Option (List ℕ)). IfSome m (λ _. task.waited ≡ 0)) own idle in
        let one : 1 ≤ rounds =
        subst (λ (m : Option (List ℕ)). cond (is_some m) 1 task.waited ≤ rounds) own (shown k d inside) in
        let stood : Stands rows rounds task home (price_there rows home) =
        told rows rounds task home (price_there rows home)
        (subst (λ (m : Option (List ℕ)). may_stand rows rounds task m ≡ true) own (stand k d inside)) in
        inr (
          omega (arith, one),
          omega (
            arith,
            pays,
            own-cost (case_of rows) (demand_of rows task) j place,
            preempted-cost (case_of rows) (demand_of rows task) j place,
            none,
          ),
          omega (arith, started (price_there rows home) stood, one),
        )

    pub may : may_stand after (rounds + 1) (task_after rows task (On j)) (Some home) ≡ true
    may =
        passes after (rounds + 1) (task_after rows task (On j)) home (price_there after home)
        (⊎_elim (λ (at : runs_at (machine_place rows task.machine) j ≡ true). stays at)
        (λ (elsewhere : runs_at (machine_place rows task.machine) j ≡ false). starts elsewhere)
        (cases_Bool (runs_at (machine_place rows task.machine) j)))

  pub all-may : MayStand (rounds + 1) (rows_after rows placement)
  all-may = λ k d l.
      let inside : k < length rows.tasks =
      omega (arith, l, length-zipped (task_after rows) rows.tasks placement same) in
      let task : Task = slice_index_or rows.tasks k d in
      subst
      (λ (t : Task). may_stand (rows_after rows placement) (rounds + 1) t t.machine ≡ true)
      (sym (zipped-at (task_after rows) rows.tasks placement k d Wait d same inside))
      (by k d inside (slice_index_or placement k Wait) refl)
    where
      by : (k : ℕ) (d : Task) → k < length rows.tasks → (choice : Choice) → get_or placement k Wait ≡ choice
          → may_stand (rows_after rows placement) (rounds + 1) (task_after rows (slice_index_or rows.tasks k d) choice)
          (task_after rows (slice_index_or rows.tasks k d) choice).machine ≡ true
      by k d inside Wait is = refl
      by k d inside (On j) is = may k d inside j is

-- and so it may after each command
module _ (rounds more : ℕ) (rows : TenantRows) (later : rounds ≤ more) (well : AreSoundInForm rows)
    (stand : MayStand rounds rows) where
  with-task : (job name : List ℕ) (preferred : List (List ℕ)) → MayStand more (with_task rows job name preferred)
  with-task job name preferred =
      let now : TenantRows = with_task rows job name preferred in
      All-push (λ (t : Task). may_stand now more t t.machine ≡ true) rows.tasks (new_task job name preferred)
      (all-carried rows now rounds more refl later
      (λ k d l machine. record {
        load = omega (
          arith,
          sum_by_push (λ (t : Task). cond (is_on machine t.machine) 1 0) rows.tasks (new_task job name preferred),
        );
        bids = omega (arith, highest-push (bid_on now machine) rows.tasks (new_task job name preferred));
        start = omega arith;
        weight = refl;
      }) stand) refl

  drained : (gone : List ℕ) → MayStand more (without_machine rows gone)
  drained gone =
      let now : TenantRows = without_machine rows gone in
      All-map (λ (t : Task). may_stand now more t t.machine ≡ true) (evicted gone) rows.tasks
      (λ k d l. one (slice_index_or rows.tasks k d) (stand k d l))
    where
      left : (machine : List ℕ) → running_on (without_machine rows gone) machine ≤ running_on rows machine
      left machine =
          let runs : Task → ℕ = λ t. cond (is_on machine t.machine) 1 0 in
          omega (
            arith,
            sum_by-map runs (evicted gone) rows.tasks,
            sum_by-le-each (λ (t : Task). runs (evicted gone t)) runs rows.tasks (on-evicted-le gone machine),
          )

      kept : (t : Task) (home : Option (List ℕ)) → is_on gone home ≡ false
          → may_stand rows rounds t home ≡ true
          → may_stand (without_machine rows gone) more (forgetting gone t) home ≡ true
      kept t None apart stood = refl
      kept t (Some machine) apart stood =
          carried rows (without_machine rows gone) rounds more refl later t (forgetting gone t)
          (Some machine)
          (λ name is. record {
            load = left name;
            bids = highest-less (bid_on (without_machine rows gone) name) (bid_on rows name) (evicted gone) rows.tasks
                (λ i x l. bid-evicted rows gone name (slice_index_or rows.tasks i x)
                (subst (λ (m : Option (List ℕ)). is_on gone m ≡ false) is apart));
            start = start-left rows.limits.remote t.preferred gone name
                (subst (λ (m : Option (List ℕ)). is_on gone m ≡ false) is apart);
            weight = refl;
          }) stood

      one : (t : Task) → may_stand rows rounds t t.machine ≡ true
          → may_stand (without_machine rows gone) more (evicted gone t) (evicted gone t).machine ≡ true
      one t stood =
          evicted-cases gone t
          (λ (after : Task). may_stand (without_machine rows gone) more after after.machine ≡ true) (λ _. refl)
          (λ apart. kept t t.machine apart stood)

  done : (gone : List ℕ) → MayStand more (without_task rows gone)
  done gone =
      let now : TenantRows = without_task rows gone in
      let others : Task → Bool = is_other (λ (t : Task). t.name) gone in
      All-filter others (λ (t : Task). may_stand now more t t.machine ≡ true) rows.tasks
      (all-carried rows now rounds more refl later
      (λ k d l machine. record {
        load = sum_by-filter-le (λ (t : Task). cond (is_on machine t.machine) 1 0) others rows.tasks;
        bids = highest-filter (bid_on now machine) others rows.tasks;
        start = omega arith;
        weight = refl;
      }) stand)

  settled : rounds < more → (placement : List Choice) → IsRound (case_of rows) placement
      → All (λ task. rounds_shown task ≤ rounds) rows.tasks → MayStand more (rows_after rows placement)
  settled less placement round shown =
      let now : TenantRows = rows_after rows placement in
      all-carried now now (rounds + 1) more refl (omega (arith, less))
      (λ k d l machine. record { load = omega arith; bids = omega arith; start = omega arith; weight = refl })
      (all-may rounds rows well stand placement round shown)

  abbrev SameWeights : TenantRows → Type 0
  SameWeights now = All (λ task. weight_at now (job_place now task) ≡ weight_at rows (job_place rows task)) rows.tasks

  -- no bid is higher with other jobs where each task weighs as much
  weighed : (jobs : List Job) (machine : List ℕ) → SameWeights (record rows { jobs = jobs })
      → highest (bid_on (record rows { jobs = jobs }) machine) rows.tasks ≤ highest (bid_on rows machine) rows.tasks
  weighed jobs machine each =
      let now : TenantRows = record rows { jobs = jobs } in
      highest-same (bid_on now machine) (bid_on rows machine) rows.tasks
      (λ k d l. bid-kept rows now machine (slice_index_or rows.tasks k d) refl (each k d l))

  come : (name : List ℕ) (weight : ℕ) → SameWeights (with_job rows name weight)
  come name weight = λ k d l.
      weight-appended rows.jobs (record { name = name; weight = weight } ∷ []) (slice_index_or rows.tasks k d).job
      (well.sound.jobs_there k d l)

  gone : (name : List ℕ) → has_tasks rows name ≡ false → SameWeights (without_job rows name)
  gone name none = λ k d l.
      weight-left rows.jobs name (slice_index_or rows.tasks k d).job
      (all-fail (λ (t : Task). bytes_eq name t.job) rows.tasks none k d l)

  pub stays_standing : StayStanding rounds more rows
  stays_standing =
      record {
        same = all-carried rows rows rounds more refl later
            (λ k d l machine. record { load = omega arith; bids = omega arith; start = omega arith; weight = refl })
            stand;
        machines = λ name slots.
            all-carried rows (with_machine rows name slots) rounds more refl later
            (λ k d l machine. record { load = omega arith; bids = omega arith; start = omega arith; weight = refl })
            stand;
        jobs = λ name weight.
            all-carried rows (with_job rows name weight) rounds more refl later
            (λ k d l machine. record {
              load = omega arith;
              bids = weighed (with_job rows name weight).jobs machine (come name weight);
              start = omega arith;
              weight = come name weight k d l;
            }) stand;
        tasks = with-task;
        drained = drained;
        closed = λ name none.
            all-carried rows (without_job rows name) rounds more refl later
            (λ k d l machine. record {
              load = omega arith;
              bids = weighed (without_job rows name).jobs machine (gone name none);
              start = omega arith;
              weight = gone name none k d l;
            }) stand;
        done = done;
        placed = settled;
      }

pub stay_standing : TasksStayStanding
stay_standing rounds more rows later well stand = stays_standing rounds more rows later well stand
