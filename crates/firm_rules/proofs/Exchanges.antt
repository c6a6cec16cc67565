-- A round preempts a task for another only where it costs no more than the two exchanged would.
use Rattle.std.proofs.Common.{◌≡◌, ℕ, zero, suc, ◌+◌, ◌<◌, ◌≤◌, Bool, true, false, not, cond, ltb, ◌&&◌, List, []}
use Rattle.std.proofs.Common.{◌∷◌, length, set, get_or, refl, sym, ap, subst, ◌∙◌, arith, ⊎_elim, is_some}
use Rattle.std.proofs.Common.{Option, Some, None, IfSome, true≢false}
use Rattle.std.specs.Prelude.{slice_get}
use Rattle.std.specs.List.{All}
use Rattle.std.proofs.lemmas.Bool.{cases_lt, cond-false, eq-eqb, and_right, both_ways}
use Rattle.std.proofs.lemmas.List.{length-set, take-set-le, get_or-set_same, get_or-set_other}
use Rattle.std.proofs.lemmas.List.Elements.{All-set}
use Rattle.std.proofs.lemmas.List.Sums.{sum_by-set}
use Rattle.std.proofs.lemmas.Option.{slice_get_within, get_or_from_slice_get}
use Rattle.firm_rules.specs.Book.{TenantRows}
use Rattle.firm_rules.specs.Placement.{Demand, Case, IsPlace, IsLegal, goes_to, load, load_cost, total, leaves, prefers}
use Rattle.firm_rules.specs.Placement.{is_remote, runs_at, rank, comes_before, task_cost, tasks_cost, placement_cost}
use Rattle.firm_rules.specs.Order.{home_at}
use Rattle.firm_rules.specs.Round.{IsRound, case_of, demand_of, machine_place}
use Rattle.firm_rules.specs.Preemption.{IsPreempted, IsBrought, IsGain, PreemptionsGain, exchange_cost}
use Rattle.firm_rules.specs.Preemption.{PatienceBoundsPreemptions}
use Rattle.firm_rules.specs.declared.book.Task.{Task}
use Rattle.firm_rules.specs.declared.rounds.Choice.{Choice}
use Rattle.firm_rules.specs.declared.rounds.Choice.TheVariants.{On, Wait}
use Rattle.firm_rules.proofs.Firsts.{rank_own}
use Rattle.firm_rules.proofs.Orders.{decided}

-- a total over equal terms
total_same : (f g : ℕ → ℕ) (n : ℕ) → ((j : ℕ) → f j ≡ g j) → total f n ≡ total g n
total_same f g zero same = refl
total_same f g (suc n) same = omega (arith, total_same f g n same, same n)

-- one task's choice is changed: the costs of all change as its own does
pub cost-set : (case : Case) (tasks : List Demand) (p : List Choice) (i : ℕ) (task : Demand) (choice : Choice)
    → length p ≡ length tasks → slice_get tasks i ≡ Some task
    → tasks_cost case tasks (set p i choice) + task_cost case task (get_or p i Wait)
    ≡ tasks_cost case tasks p + task_cost case task choice
cost-set case [] p i task choice same there = absurd (true≢false (ap is_some (sym there)))
cost-set case (t ∷ tasks) [] i task choice same there = absurd (omega (arith, same))
cost-set case (t ∷ tasks) (a ∷ p) zero task choice same there =
    let rest : ℕ = tasks_cost case tasks p in
    subst (λ (x : Demand). task_cost case t choice + rest + task_cost case x a
    ≡ task_cost case t a + rest + task_cost case x choice)
    (get_or_from_slice_get (t ∷ tasks) 0 task t there) (omega arith)
cost-set case (t ∷ tasks) (a ∷ p) (suc i) task choice same there =
    omega (arith, cost-set case tasks p i task choice (omega (arith, same)) there)

pub home-at : (tasks : List Demand) (i : ℕ) (task : Demand) → slice_get tasks i ≡ Some task
    → home_at tasks i ≡ task.home
home-at [] i task there = absurd (true≢false (ap is_some (sym there)))
home-at (t ∷ tasks) zero task there =
    ap (λ (x : Demand). x.home) (get_or_from_slice_get (t ∷ tasks) 0 task t there)
home-at (t ∷ tasks) (suc i) task there = home-at tasks i task there

-- a task leaves its machine for another as it does for a wait
leaves-elsewhere : (home : Option ℕ) (j : ℕ) → runs_at home j ≡ false → leaves home (On j) ≡ leaves home Wait
leaves-elsewhere None j elsewhere = refl
leaves-elsewhere (Some h) j elsewhere = ap not elsewhere

-- what a task pays on its own machine: nothing
pub own-cost : (case : Case) (task : Demand) (j : ℕ) → task.home ≡ Some j → task_cost case task (On j) ≡ 0
own-cost case task j home =
    let at : runs_at task.home j ≡ true = ap (λ (h : Option ℕ). runs_at h j) home ∙ eq-eqb j j refl in
    let stays : leaves task.home (On j) ≡ false =
    ap (λ (h : Option ℕ). leaves h (On j)) home ∙ ap not (eq-eqb j j refl) in
    let near : is_remote task j ≡ false =
    and_right (ltb 0 (length task.preferred) && not (prefers task j)) (not (runs_at task.home j)) (ap not at) in
    omega (
      arith,
      cond-false {A = ℕ} (leaves task.home (On j)) case.churn 0 stays,
      cond-false {A = ℕ} (is_remote task j) case.remote 0 near,
    )

-- and where it waits in place of running
pub preempted-cost : (case : Case) (task : Demand) (j : ℕ) → task.home ≡ Some j
    → task_cost case task Wait ≡ task.delay + case.churn
preempted-cost case task j home = ap (λ (h : Option ℕ). task.delay + cond (leaves h Wait) case.churn 0) home

-- what one pays that is brought to a machine, and what it would pay for a wait
pub brought-cost : (case : Case) (task : Demand) (j : ℕ) → runs_at task.home j ≡ false
    → task_cost case task Wait + cond (is_remote task j) case.remote 0 ≡ task_cost case task (On j) + task.delay
brought-cost case task j elsewhere =
    omega (arith, ap (λ (b : Bool). cond b case.churn 0) (leaves-elsewhere task.home j elsewhere))

-- one task waits, another is placed on a machine, and the two are exchanged
module _ (case : Case) (p : List Choice) (kept : IsLegal case p) (machine from to : ℕ) (out in' : Demand)
    (out-there : slice_get case.tasks from ≡ Some out) (waits : slice_get p from ≡ Some Wait)
    (in-there : slice_get case.tasks to ≡ Some in') (placed : slice_get p to ≡ Some (On machine)) where
  abbrev one : List Choice
  one = set p from (On machine)

  abbrev pub exchanged : List Choice
  exchanged = set one to Wait

  low : from < length p
  low = slice_get_within p from Wait waits

  high : to < length p
  high = slice_get_within p to (On machine) placed

  out-waits : get_or p from Wait ≡ Wait
  out-waits = get_or_from_slice_get p from Wait Wait waits

  in-runs : get_or p to Wait ≡ On machine
  in-runs = get_or_from_slice_get p to (On machine) Wait placed

  abbrev is_on : Choice → Bool
  is_on (On _) = true
  is_on Wait = false

  apart : to ≡ from → ⊥
  apart e = true≢false (ap is_on (sym in-runs ∙ ap (λ (i : ℕ). get_or p i Wait) e ∙ out-waits))

  in-one : get_or one to Wait ≡ On machine
  in-one = get_or-set_other p from to (On machine) Wait apart ∙ in-runs

  same-load : (j : ℕ) → load exchanged j ≡ load p j
  same-load j =
      let goes : Choice → ℕ = λ (c : Choice). cond (goes_to j c) 1 0 in
      omega (
        arith,
        sum_by-set goes (set p from (On machine)) to Wait Wait
            (omega (arith, high, length-set p from (On machine))),
        sum_by-set goes p from (On machine) Wait low,
        ap goes in-one,
        ap goes out-waits,
      )

  long : length exchanged ≡ length p
  long = length-set (set p from (On machine)) to Wait ∙ length-set p from (On machine)

  there : machine < length case.slots
  there = subst (IsPlace (length case.slots)) in-runs (kept.places to Wait high)

  pub exchanged-legal : IsLegal case exchanged
  exchanged-legal =
      record {
        one_each = long ∙ kept.one_each;
        places =
            All-set (IsPlace (length case.slots)) (set p from (On machine)) to Wait tt
            (All-set (IsPlace (length case.slots)) p from (On machine) there kept.places);
        room = λ j l. omega (arith, same-load j, kept.room j l);
      }

  -- the exchange changes the cost by what it costs the two
  pub exchanged-cost : placement_cost case exchanged + task_cost case out Wait + task_cost case in' (On machine)
      ≡ placement_cost case p + task_cost case out (On machine) + task_cost case in' Wait
  exchanged-cost =
      omega (
        arith,
        total_same (λ j. load_cost case.spread (load exchanged j)) (λ j. load_cost case.spread (load p j))
            (length case.slots) (λ j. ap (load_cost case.spread) (same-load j)),
        cost-set case case.tasks p from out (On machine) kept.one_each out-there,
        cost-set case case.tasks (set p from (On machine)) to in' Wait
            (length-set p from (On machine) ∙ kept.one_each) in-there,
        ap (task_cost case out) out-waits,
        ap (task_cost case in') in-one,
      )

  -- where the one that waits runs on the machine and was submitted first, the exchanged placement comes before
  exchanged-before : out.home ≡ Some machine → from ≤ to
      → comes_before (length case.slots) case.tasks exchanged p ≡ true
  exchanged-before home less =
      decided (length case.slots) case.tasks exchanged p from (long ∙ kept.one_each) kept.one_each
      (omega (arith, low, kept.one_each))
      (take-set-le from (set p from (On machine)) to Wait less ∙ take-set-le from p from (On machine) (omega arith))
      (omega (
        arith,
        there,
        ap (λ (c : Choice). rank (length case.slots) (home_at case.tasks from) c)
            (get_or-set_other (set p from (On machine)) to from Wait Wait (λ (e : from ≡ to). apart (sym e))
            ∙ get_or-set_same p from (On machine) Wait low),
        ap (λ (c : Choice). rank (length case.slots) (home_at case.tasks from) c) out-waits,
        rank_own (length case.slots) (home_at case.tasks from) machine
            (ap (λ (h : Option ℕ). runs_at h machine) (home-at case.tasks from out out-there ∙ home)
            ∙ eq-eqb machine machine refl),
      ))

module _ (case : Case) (p : List Choice) (round : IsRound case p) (machine from to : ℕ) (out in' : Demand)
    (preempted : IsPreempted case p machine from out) (brought : IsBrought case p machine to in') where
  abbrev other : List Choice
  other =
      exchanged case p round.legal machine from to out in' preempted.there preempted.waits brought.there brought.placed

  legal : IsLegal case other
  legal =
      exchanged-legal case p round.legal machine from to out in' preempted.there preempted.waits brought.there
      brought.placed

  -- the exchange changes the cost by what it costs the two
  changed-cost : placement_cost case other + exchange_cost case machine out in' ≡ placement_cost case p + in'.delay
  changed-cost =
      omega (
        arith,
        exchanged-cost case p round.legal machine from to out in' preempted.there preempted.waits brought.there
            brought.placed,
        own-cost case out machine preempted.home,
        preempted-cost case out machine preempted.home,
        brought-cost case in' machine brought.elsewhere,
      )

  pub gained : IsGain case machine from out to in'
  gained =
      record {
        gain = omega (arith, changed-cost, round.least other legal);
        tie = λ same. ⊎_elim (λ (l : to < from). l)
            (λ (l : from ≤ to). absurd (both_ways (comes_before (length case.slots) case.tasks other p)
            (round.first other legal (omega (arith, changed-cost, same)))
            (exchanged-before case p round.legal machine from to out in' preempted.there preempted.waits brought.there
            brought.placed preempted.home l)))
            (cases_lt to from);
      }

pub gains : PreemptionsGain
gains case p round machine from to out in' preempted brought =
    gained case p round machine from to out in' preempted brought

-- what holds of all tasks holds of the one at a place
pub at-place : (P : Task → Type 0) (tasks : List Task) (i : ℕ) (task : Task) → All P tasks
    → slice_get tasks i ≡ Some task → P task
at-place P tasks i task all there =
    subst P (get_or_from_slice_get tasks i task task there) (all i task (slice_get_within tasks i task there))

-- a task that runs has not waited
pub fresh : (rows : TenantRows) (home : Option (List ℕ)) (machine waited : ℕ) → machine_place rows home ≡ Some machine
    → IfSome home (λ _. waited ≡ 0) → waited ≡ 0
fresh rows None machine waited runs none = absurd (true≢false (ap is_some (sym runs)))
fresh rows (Some name) machine waited runs none = none

pub bounded : PatienceBoundsPreemptions
bounded rows p sound form round machine from to out in' out-there in-there preempted brought =
    let both = gained (case_of rows) p round machine from to (demand_of rows out) (demand_of rows in') preempted
    brought in
    let none : out.waited ≡ 0 =
    fresh rows out.machine machine out.waited preempted.home
    (at-place (λ (t : Task). IfSome t.machine (λ _. t.waited ≡ 0)) rows.tasks from out form.running out-there) in
    let few : in'.waited ≤ rows.limits.patience =
    at-place (λ (t : Task). t.waited ≤ rows.limits.patience) rows.tasks to in' sound.waited in-there in
    record {
      gain = omega (arith, both.gain, few, none);
      tie = λ same. both.tie (omega (arith, both.gain, few, none, same));
    }
