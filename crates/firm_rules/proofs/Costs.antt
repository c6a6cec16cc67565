-- No legal placement of sound rows costs more than a round may.
use Rattle.std.proofs.Common.{◌≡◌, ℕ, zero, suc, ◌+◌, ◌*◌, ◌<◌, ◌≤◌, Bool, true, false, cond, List, [], ◌∷◌}
use Rattle.std.proofs.Common.{length, map, All, slice_index_or, refl, sym, ap, arith}
use Rattle.std.proofs.lemmas.Bool.{eq-eqb, ne_eqb}
use Rattle.std.proofs.lemmas.List.{length-map}
use Rattle.std.proofs.lemmas.List.Sums.{sum_by-cons}
use Rattle.std.proofs.lemmas.List.Elements.{All-head, All-tail, All-map}
use Rattle.firm_rules.specs.Book.{TenantRows}
use Rattle.firm_rules.specs.Sound.{AreSound}
use Rattle.firm_rules.specs.SoundBook.{most_cost}
use Rattle.firm_rules.specs.Placement.{Case, Demand, IsLegal, IsPlace, total, load, load_cost, leaves, is_remote}
use Rattle.firm_rules.specs.Placement.{goes_to, task_cost, tasks_cost, placement_cost}
use Rattle.firm_rules.specs.Round.{case_of, demand_of, job_place}
use Rattle.firm_rules.specs.declared.book.Machine.{Machine}
use Rattle.firm_rules.specs.declared.book.Job.{Job}
use Rattle.firm_rules.specs.declared.book.Task.{Task}
use Rattle.firm_rules.specs.declared.rounds.Choice.{Choice}
use Rattle.firm_rules.specs.declared.rounds.Choice.TheVariants.{On, Wait}
use Rattle.firm_rules.proofs.Causes.{total_same-below, total_one}
use Rattle.firm_rules.proofs.SlotCosts.{load-most}
use Rattle.firm_rules.proofs.SoundRows.{one_if}

total-most : (f g : ℕ → ℕ) (n : ℕ) → ((j : ℕ) → j < n → f j ≤ 1000000 * g j) → total f n ≤ 1000000 * total g n
total-most f g zero each = omega arith
total-most f g (suc n) each = omega (arith, total-most f g n (λ j l. each j (omega arith)), each n (omega arith))

-- the tasks that a placement places
abbrev seats : Choice → ℕ
seats (On j) = 1
seats Wait = 0

abbrev placed : List Choice → ℕ
placed [] = 0
placed (choice ∷ placement) = seats choice + placed placement

-- the loads of all machines count each of them once
loads-placed : (placement : List Choice) (machines : ℕ) → All (IsPlace machines) placement
    → total (load placement) machines ≡ placed placement
loads-placed [] machines places = none machines
  where
    none : (n : ℕ) → total (load []) n ≡ 0
    none zero = refl
    none (suc n) = omega (arith, none n)
loads-placed (On k ∷ placement) machines places =
    let goes : ℕ → Choice → ℕ = λ j c. cond (goes_to j c) 1 0 in
    omega (
      arith,
      total_one (load (On k ∷ placement)) (load placement) machines k 1
          (All-head (IsPlace machines) (On k) placement places)
          (omega (arith, sum_by-cons (goes k) (On k) placement, ap one_if (eq-eqb k k refl)))
          (λ j other. omega (
            arith,
            sum_by-cons (goes j) (On k) placement,
            ap one_if (ne_eqb k j (λ (e : k ≡ j). other (sym e))),
          )),
      loads-placed placement machines (All-tail (IsPlace machines) (On k) placement places),
    )
loads-placed (Wait ∷ placement) machines places =
    omega (
      arith,
      total_same-below (load (Wait ∷ placement)) (load placement) machines
          (λ j l. omega (arith, sum_by-cons (λ (c : Choice). cond (goes_to j c) 1 0) Wait placement)),
      loads-placed placement machines (All-tail (IsPlace machines) Wait placement places),
    )

if-most : (b : Bool) (n most : ℕ) → n ≤ most → cond b n 0 ≤ most
if-most true n most h = h
if-most false n most h = omega arith

-- a wait costs at most 2,000,000 and churn, a place churn, remote, and what the task brings to its machine's load
tasks-most : (case : Case) (tasks : List Demand) (placement : List Choice) → length placement ≡ length tasks
    → case.churn ≤ 1000000 → case.remote ≤ 1000000 → All (λ task. task.delay ≤ 2000000) tasks
    → tasks_cost case tasks placement + 1000000 * placed placement ≤ length tasks * 3000000
tasks-most case [] [] same churn remote delays = omega arith
tasks-most case [] (choice ∷ placement) same churn remote delays = absurd (omega (arith, same))
tasks-most case (task ∷ tasks) [] same churn remote delays = absurd (omega (arith, same))
tasks-most case (task ∷ tasks) (choice ∷ placement) same churn remote delays =
    omega (
      arith,
      one choice,
      tasks-most case tasks placement (omega (arith, same)) churn remote
          (All-tail (λ (t : Demand). t.delay ≤ 2000000) task tasks delays),
    )
  where
    delay : task.delay ≤ 2000000
    delay = All-head (λ (t : Demand). t.delay ≤ 2000000) task tasks delays

    one : (choice : Choice) → task_cost case task choice + 1000000 * seats choice ≤ 3000000
    one (On j) =
        omega (
          arith,
          if-most (leaves task.home (On j)) case.churn 1000000 churn,
          if-most (is_remote task j) case.remote 1000000 remote,
        )
    one Wait = omega (arith, delay, if-most (leaves task.home Wait) case.churn 1000000 churn)

-- what no element passes, the element at a place, there or not, does not pass either
at-most : (most : ℕ) (xs : List ℕ) (place : ℕ) → All (λ x. x ≤ most) xs → slice_index_or xs place 0 ≤ most
at-most most [] place each = omega arith
at-most most (x ∷ xs) zero each = All-head (λ (n : ℕ). n ≤ most) x xs each
at-most most (x ∷ xs) (suc place) each = at-most most xs place (All-tail (λ (n : ℕ). n ≤ most) x xs each)

pub placement-most : (rows : TenantRows) (placement : List Choice) → AreSound rows → IsLegal (case_of rows) placement
    → placement_cost (case_of rows) placement ≤ most_cost
placement-most rows placement sound legal =
    omega (
      arith,
      total-most (λ j. load_cost rows.limits.spread (load placement j)) (load placement) (length (case_of rows).slots)
          loads,
      loads-placed placement (length (case_of rows).slots) legal.places,
      tasks-most (case_of rows) (case_of rows).tasks placement legal.one_each sound.most_churn sound.most_remote delays,
      length-map rows.tasks (demand_of rows),
      sound.fits.nodes,
      sound.most_nodes,
    )
  where
    slots : All (λ n. n ≤ 64) (case_of rows).slots
    slots = All-map (λ (n : ℕ). n ≤ 64) (λ (m : Machine). m.slots) rows.machines (λ k d l. (sound.slots k d l).1)

    loads : (j : ℕ) → j < length (case_of rows).slots
        → load_cost rows.limits.spread (load placement j) ≤ 1000000 * load placement j
    loads j below =
        load-most rows.limits.spread (load placement j) sound.most_spread
        (omega (arith, legal.room j below, at-most 64 (case_of rows).slots j slots))

    weights : All (λ n. n ≤ 1000000) (map (λ job. job.weight) rows.jobs)
    weights =
        All-map (λ (n : ℕ). n ≤ 1000000) (λ (job : Job). job.weight) rows.jobs (λ k d l. (sound.weights k d l).1)

    delays : All (λ task. task.delay ≤ 2000000) (case_of rows).tasks
    delays =
        All-map (λ (t : Demand). t.delay ≤ 2000000) (demand_of rows) rows.tasks (λ k d l.
        let task : Task = slice_index_or rows.tasks k d in
        omega (
          arith,
          sound.waited k d l,
          sound.most_patience,
          at-most 1000000 (map (λ (job : Job). job.weight) rows.jobs) (job_place rows task) weights,
        ))
