-- A round passes over a long wait only for tasks that have waited about as long.
use Rattle.std.proofs.Common.{◌≡◌, ℕ, ◌+◌, ◌<◌, ◌≤◌, Bool, true, false, not, cond, eqb, List}
use Rattle.std.proofs.Common.{[], length, refl, sym, ap, subst, ◌∙◌, arith, ⊎_elim}
use Rattle.std.proofs.Common.{IfSome, Option, Some, None}
use Rattle.std.specs.Prelude.{map, option_map, bytes_eq, slice_get, slice_index}
use Rattle.std.specs.List.{All}
use Rattle.std.proofs.Math.Nat.{le-max_left, le-max_right}
use Rattle.std.proofs.lemmas.Bool.{cases_lt}
use Rattle.std.proofs.lemmas.List.{length-map, get_or-map}
use Rattle.std.proofs.lemmas.List.Elements.{All-map}
use Rattle.std.proofs.lemmas.Option.{slice_get-map}
use Rattle.firm_rules.specs.Book.{TenantRows, job_names}
use Rattle.firm_rules.specs.Names.{is_among}
use Rattle.firm_rules.specs.Sound.{AreSound}
use Rattle.firm_rules.specs.SoundBook.{AreInForm}
use Rattle.firm_rules.specs.Placement.{Demand, Case, load, leaves, is_remote}
use Rattle.firm_rules.specs.Placement.{slot_cost, task_cost}
use Rattle.firm_rules.specs.Round.{IsRound, case_of, demand_of, machine_place, job_place, weight_at}
use Rattle.firm_rules.specs.Starvation.{WeighAtMost, IsPassedOver, AreFull, HaveWaited}
use Rattle.firm_rules.specs.Starvation.{LongWaitsYieldToLongWaits}
use Rattle.firm_rules.specs.declared.book.Machine.{Machine}
use Rattle.firm_rules.specs.declared.book.Job.{Job}
use Rattle.firm_rules.specs.declared.book.Task.{Task}
use Rattle.firm_rules.specs.declared.rounds.Choice.{Choice}
use Rattle.firm_rules.specs.declared.rounds.Choice.TheVariants.{On, Wait}
use Rattle.firm_rules.proofs.SlotCosts.{rises}
use Rattle.firm_rules.proofs.Exchanges.{exchanged, exchanged-legal, exchanged-cost, at-place}
use Rattle.firm_rules.proofs.Causes.{placed, placed-legal, placed-cost, position-below}

pub if-most : (b : Bool) (n : ℕ) → cond b n 0 ≤ n
if-most true n = omega arith
if-most false n = omega arith

-- a task that leaves its machine for another leaves it for a wait
leaves-less : (churn j : ℕ) (home : Option ℕ) → cond (leaves home (On j)) churn 0 ≤ cond (leaves home Wait) churn 0
leaves-less churn j None = omega arith
leaves-less churn j (Some h) = if-most (not (eqb h j)) churn

-- a machine costs a task at most what a wait would cost apart from its delay, and `remote` where it is remote
on-cost : (case : Case) (task : Demand) (j : ℕ)
    → task_cost case task (On j) + task.delay ≤ task_cost case task Wait + cond (is_remote task j) case.remote 0
on-cost case task j = omega (arith, leaves-less case.churn j task.home)

-- where one task waits and another is placed, the wait of the other would cost as much, up to what is remote
pub yields : (case : Case) (p : List Choice) → IsRound case p → (machine from to : ℕ) (waiting running : Demand)
    → slice_get case.tasks from ≡ Some waiting → slice_get p from ≡ Some Wait
    → slice_get case.tasks to ≡ Some running → slice_get p to ≡ Some (On machine)
    → waiting.delay + task_cost case running (On machine)
    ≤ task_cost case running Wait + cond (is_remote waiting machine) case.remote 0
yields case p round machine from to waiting running there waits beside runs =
    omega (
      arith,
      exchanged-cost case p round.legal machine from to waiting running there waits beside runs,
      round.least (exchanged case p round.legal machine from to waiting running there waits beside runs)
          (exchanged-legal case p round.legal machine from to waiting running there waits beside runs),
      on-cost case waiting machine,
    )

-- where a task waits though a machine has room, a slot there costs as much as the wait, up to `remote`
dear-slot : (case : Case) (p : List Choice) → IsRound case p → (machine from : ℕ) (waiting : Demand)
    → slice_get case.tasks from ≡ Some waiting → slice_get p from ≡ Some Wait
    → machine < length case.slots → load p machine < slice_index case.slots machine
    → waiting.delay ≤ slot_cost case.spread (load p machine) + case.remote
dear-slot case p round machine from waiting there waits below room =
    omega (
      arith,
      placed-cost case p round.legal machine from waiting there waits below room,
      round.least (placed case p round.legal machine from waiting there waits below room)
          (placed-legal case p round.legal machine from waiting there waits below room),
      on-cost case waiting machine,
      if-most (is_remote waiting machine) case.remote,
    )

module _ (rows : TenantRows) (sound : AreSound rows) where
  -- the weight of a task's job is within the range of the weights there
  weight-within : (P : ℕ → Type 0) → All (λ (job : Job). P job.weight) rows.jobs → (task : Task)
      → is_among (job_names rows) task.job ≡ true → P (weight_at rows (job_place rows task))
  weight-within P each task known =
      let low : job_place rows task < length rows.jobs =
      omega (
        arith,
        position-below (bytes_eq task.job) (job_names rows) known,
        length-map rows.jobs (λ (job : Job). job.name),
      ) in
      let any : Job = record { name = []; weight = 0 } in
      subst P (sym (get_or-map (λ (job : Job). job.weight) rows.jobs (job_place rows task) any 0 low))
      (each (job_place rows task) any low)

  -- no machine has more than 64 slots
  slots-most : (j : ℕ) → j < length (case_of rows).slots → slice_index (case_of rows).slots j ≤ 64
  slots-most j l =
      All-map (λ (n : ℕ). n ≤ 64) (λ (m : Machine). m.slots) rows.machines (λ k d below. (sound.slots k d below).1) j 0
      l

-- the task that a round's demand at a place is of
demand-at : (rows : TenantRows) (tasks : List Task) (place : ℕ) (task : Task) → slice_get tasks place ≡ Some task
    → slice_get (map (demand_of rows) tasks) place ≡ Some (demand_of rows task)
demand-at rows tasks place task there =
    slice_get-map (demand_of rows) tasks place ∙ ap (λ (x : Option Task). option_map (demand_of rows) x) there

module _ (rows : TenantRows) (p : List Choice) (most : ℕ) (sound : AreSound rows) (form : AreInForm rows)
    (light : WeighAtMost most rows) (round : IsRound (case_of rows) p) (place : ℕ) (passed : Task)
    (over : IsPassedOver rows p most place passed) where
  -- the weight of a task that is there, and its place in the round
  known : (k : ℕ) (task : Task) → slice_get rows.tasks k ≡ Some task → is_among (job_names rows) task.job ≡ true
  known k task there =
      at-place (λ (t : Task). is_among (job_names rows) t.job ≡ true) rows.tasks k task sound.jobs_there there

  heavy : 1 ≤ weight_at rows (job_place rows passed)
  heavy =
      weight-within rows sound (λ n. 1 ≤ n) (λ k d l. (sound.weights k d l).0) passed (known place passed over.there)

  full : AreFull (case_of rows) p
  full j below =
      ⊎_elim
      (λ (room : load p j < slice_index (case_of rows).slots j).
      let few : load p j ≤ 63 = omega (arith, room, slots-most rows sound j below) in
      absurd (omega (
        arith,
        heavy,
        rises rows.limits.spread (load p j) 63 few,
        over.long,
        le-max_left (slot_cost rows.limits.spread 63) (most + rows.limits.churn),
        dear-slot (case_of rows) p round j place (demand_of rows passed)
            (demand-at rows rows.tasks place passed over.there) over.waits below room,
      )))
      (λ (none : slice_index (case_of rows).slots j ≤ load p j).
      let same : load p j ≡ slice_index (case_of rows).slots j = omega (arith, none, round.legal.room j below) in same)
      (cases_lt (load p j) (slice_index (case_of rows).slots j))

  waited : HaveWaited rows p most passed
  waited to machine task beside runs =
      let placed : Demand = demand_of rows task in
      let weight : weight_at rows (job_place rows task) ≤ most =
      weight-within rows sound (λ n. n ≤ most) light task (known to task beside) in
      let gives : passed.waited + 1 ≤ task_cost (case_of rows) placed Wait + rows.limits.remote =
      omega (
        arith,
        heavy,
        yields (case_of rows) p round machine place to (demand_of rows passed) placed
            (demand-at rows rows.tasks place passed over.there) over.waits
            (demand-at rows rows.tasks to task beside) runs,
        if-most (is_remote (demand_of rows passed) machine) rows.limits.remote,
      ) in
      by task.machine refl weight gives
    where
      fresh-there : IfSome task.machine (λ _. task.waited ≡ 0)
      fresh-there = at-place (λ (t : Task). IfSome t.machine (λ _. t.waited ≡ 0)) rows.tasks to task form.running beside

      by : (machine : Option (List ℕ)) → task.machine ≡ machine → weight_at rows (job_place rows task) ≤ most
          → passed.waited + 1 ≤ task_cost (case_of rows) (demand_of rows task) Wait + rows.limits.remote
          → (task.machine ≡ None) × (passed.waited < task.waited + most + rows.limits.remote)
      by None none weight gives =
          let still : task_cost (case_of rows) (demand_of rows task) Wait ≡ (demand_of rows task).delay =
          omega (
            arith,
            ap (λ (h : Option (List ℕ)). cond (leaves (machine_place rows h) Wait) rows.limits.churn 0) none,
          )
          in (none, omega (arith, weight, gives, still))
      by (Some name) is weight gives =
          let none : task.waited ≡ 0 =
          subst (λ (h : Option (List ℕ)). IfSome h (λ _. task.waited ≡ 0)) is fresh-there in
          absurd (omega (
            arith,
            weight,
            gives,
            none,
            over.long,
            le-max_right (slot_cost rows.limits.spread 63) (most + rows.limits.churn),
            if-most (leaves (machine_place rows task.machine) Wait) rows.limits.churn,
          ))

pub yield : LongWaitsYieldToLongWaits
yield rows p most sound form light round place passed over = (
  full rows p most sound form light round place passed over,
  waited rows p most sound form light round place passed over,
)
