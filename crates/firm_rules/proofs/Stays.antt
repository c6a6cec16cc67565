-- Tasks that stay where they run: a round changes neither their rows nor what they bring.
use Rattle.std.proofs.Common.{◌≡◌, ℕ, ◌+◌, ◌<◌, true, List, length, Option, None, Some, IfSome}
use Rattle.std.proofs.Common.{true≢false, refl, sym, ap, ◌∙◌, arith}
use Rattle.std.specs.Prelude.{slice_index_or}
use Rattle.std.proofs.lemmas.Bool.{eqb-true}
use Rattle.std.proofs.lemmas.List.{get_or-map, get_or_default}
use Rattle.std.proofs.lemmas.Slice.Eq.{bytes_eq-Decides}
use Rattle.firm_rules.specs.Book.{TenantRows, machine_names, name_at}
use Rattle.firm_rules.specs.Sound.{AreSound}
use Rattle.firm_rules.specs.SoundBook.{AreInForm}
use Rattle.firm_rules.specs.Placement.{Demand, runs_at, stays, task_at}
use Rattle.firm_rules.specs.Round.{case_of, demand_of, job_place, machine_place, place_of, settled, weight_at, zipped}
use Rattle.firm_rules.specs.inner.Demands.{placed}
use Rattle.firm_rules.specs.inner.Tables.{is_placed, seat, StayingTasksAreSeated, StayingTasksAreSettled}
use Rattle.firm_rules.specs.declared.book.Task.{Task}
use Rattle.firm_rules.specs.declared.rounds.Choice.{Choice}
use Rattle.firm_rules.specs.declared.rounds.Choice.TheVariants.{On, Wait}
use Rattle.firm_rules.proofs.MovedPlaces.{place-below}
use Rattle.firm_rules.proofs.NamedRows.{stands-at}
use Rattle.firm_rules.proofs.Seating.{no_demand}
use Rattle.firm_rules.proofs.SoundRows.{IsThere, length-zipped}
use Rattle.firm_rules.proofs.TaskWrites.{any_choice, no_task, zipped-at}

-- a task that stays runs
pub stays-placed : (home : Option ℕ) (choice : Choice) → stays home choice ≡ true → is_placed choice ≡ true
stays-placed home (On j) is = refl
stays-placed home Wait is = absurd (true≢false (sym is))

module _ (rows : TenantRows) (sound : AreSound rows) (form : AreInForm rows) where
  -- it has not waited, and the machine of the choice has the name of its own
  row-same : (task : Task) (home : Option (List ℕ)) (j : ℕ) → task.machine ≡ home → IsThere (machine_names rows) home
      → IfSome home (λ _. task.waited ≡ 0) → runs_at (machine_place rows home) j ≡ true
      → (record task { machine = Some (name_at (machine_names rows) j); waited = 0 }) ≡ task
  row-same task None j is there none runs = absurd (true≢false (sym runs))
  row-same task (Some own) j is there none runs =
      let names : List (List ℕ) = machine_names rows in
      let place : place_of rows own ≡ j = eqb-true (place_of rows own) j runs in
      let below : j < length names = omega (arith, place, place-below names own there) in
      let name : own ≡ name_at names j =
      (bytes_eq-Decides own (name_at names j)).0
      (sym (stands-at names own j sound.machine_names_differ below) ∙ runs) in
      ap (λ (n : List ℕ). let t : Task = record task { machine = Some n; waited = 0 } in t) (sym name)
      ∙ ap (λ (m : Option (List ℕ)). let t : Task = record task { machine = m; waited = 0 } in t) (sym is)
      ∙ ap (λ (n : ℕ). let t : Task = record task { waited = n } in t) (sym none)

  demand-same : (task : Task) (home : Option (List ℕ)) (j : ℕ) → task.machine ≡ home
      → IfSome home (λ _. task.waited ≡ 0) → runs_at (machine_place rows home) j ≡ true
      → placed (Some j) (weight_at rows (job_place rows task) + 0) (demand_of rows task) ≡ demand_of rows task
  demand-same task None j is none runs = absurd (true≢false (sym runs))
  demand-same task (Some own) j is none runs =
      let demand : Demand = demand_of rows task in
      let weight : ℕ = weight_at rows (job_place rows task) in
      ap (λ (k : ℕ). placed (Some k) (weight + 0) demand) (sym (eqb-true (place_of rows own) j runs))
      ∙ ap (λ (m : Option (List ℕ)). placed (machine_place rows m) (weight + 0) demand) (sym is)
      ∙ ap (λ (n : ℕ). placed demand.home (weight + n) demand) (sym none)

  task-settled : (patience : ℕ) (task : Task) (choice : Choice) → IsThere (machine_names rows) task.machine
      → IfSome task.machine (λ _. task.waited ≡ 0) → stays (machine_place rows task.machine) choice ≡ true
      → settled patience rows.machines task choice ≡ task
  task-settled patience task (On j) there none is = row-same task task.machine j refl there none is
  task-settled patience task Wait there none is = absurd (true≢false (sym is))

  task-seated : (patience : ℕ) (task : Task) (choice : Choice) → IfSome task.machine (λ _. task.waited ≡ 0)
      → stays (machine_place rows task.machine) choice ≡ true
      → seat (weight_at rows) (settled patience rows.machines task choice) choice (demand_of rows task)
      ≡ demand_of rows task
  task-seated patience task (On j) none is = demand-same task task.machine j refl none is
  task-seated patience task Wait none is = absurd (true≢false (sym is))

  pub stays-settled : (patience : ℕ) → StayingTasksAreSettled patience rows.machines (case_of rows) rows.tasks
  stays-settled patience place choice d below is =
      task-settled patience (slice_index_or rows.tasks place d) choice (sound.machines_there place d below)
      (form.running place d below)
      (ap (λ (demand : Demand). stays demand.home choice)
      (sym (get_or-map (demand_of rows) rows.tasks place d no_demand below)) ∙ is)

  pub stays-seated : (patience : ℕ) (choices : List Choice) → length choices ≡ length rows.tasks
      → StayingTasksAreSeated (weight_at rows) (zipped (settled patience rows.machines) rows.tasks choices) choices
      (case_of rows)
  stays-seated patience choices one_each place d below is =
      let inside : place < length rows.tasks = omega (arith, below, one_each) in
      let round : List Task = zipped (settled patience rows.machines) rows.tasks choices in
      let choice : Choice = slice_index_or choices place any_choice in
      let task : Task = slice_index_or rows.tasks place no_task in
      let row : slice_index_or round place d ≡ settled patience rows.machines task choice =
      get_or_default round place d no_task
      (omega (arith, inside, length-zipped (settled patience rows.machines) rows.tasks choices one_each))
      ∙ zipped-at (settled patience rows.machines) rows.tasks choices place one_each inside in
      let demand : task_at (case_of rows) place ≡ demand_of rows task =
      get_or-map (demand_of rows) rows.tasks place no_task no_demand inside in
      ap (λ (t : Task). seat (weight_at rows) t choice (task_at (case_of rows) place)) row
      ∙ ap (λ (t : Demand). seat (weight_at rows) (settled patience rows.machines task choice) choice t) demand
      ∙ task-seated patience task choice (form.running place no_task inside)
      (ap (λ (t : Demand). stays t.home choice) (sym demand) ∙ is)
      ∙ sym demand
