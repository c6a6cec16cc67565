-- Tasks of a case that are given their choices one after the other.
use Rattle.std.proofs.Common.{◌≡◌, ℕ, zero, suc, ◌+◌, ◌<◌, ◌≤◌, List, [], ◌∷◌, length, set, None, refl, sym, ap, ◌∙◌}
use Rattle.std.proofs.Common.{arith}
use Rattle.std.specs.Prelude.{slice_index_or}
use Rattle.std.proofs.lemmas.List.{set-get_or}
use Rattle.firm_rules.specs.Placement.{Case, Demand, task_at}
use Rattle.firm_rules.specs.inner.Tables.{seat, seated}
use Rattle.firm_rules.specs.declared.book.Task.{Task}
use Rattle.firm_rules.specs.declared.rounds.Choice.{Choice}
use Rattle.firm_rules.proofs.TaskWrites.{written, written-next, written-more, written-length, written-all, no_task}
use Rattle.firm_rules.proofs.TaskWrites.{any_choice}

abbrev pub no_demand : Demand
no_demand = record { home = None; preferred = []; delay = 0; job = 0 }

module _ (weight : ℕ → ℕ) where
  length-seated : (rows : List Task) (choices : List Choice) (tasks : List Demand) → length choices ≡ length rows
      → length choices ≡ length tasks → length (seated weight rows choices tasks) ≡ length tasks
  length-seated [] [] [] same one_each = refl
  length-seated [] [] (task ∷ tasks) same one_each = absurd (omega (arith, one_each))
  length-seated [] (choice ∷ choices) tasks same one_each = absurd (omega (arith, same))
  length-seated (row ∷ rows) [] tasks same one_each = absurd (omega (arith, same))
  length-seated (row ∷ rows) (choice ∷ choices) [] same one_each = absurd (omega (arith, one_each))
  length-seated (row ∷ rows) (choice ∷ choices) (task ∷ tasks) same one_each =
      omega (arith, length-seated rows choices tasks (omega (arith, same)) (omega (arith, one_each)))

  seated-at : (rows : List Task) (choices : List Choice) (tasks : List Demand) (i : ℕ) → length choices ≡ length rows
      → length choices ≡ length tasks → i < length choices
      → slice_index_or (seated weight rows choices tasks) i no_demand
      ≡ seat weight (slice_index_or rows i no_task) (slice_index_or choices i any_choice)
      (slice_index_or tasks i no_demand)
  seated-at [] [] tasks i same one_each below = absurd (omega (arith, below))
  seated-at [] (choice ∷ choices) tasks i same one_each below = absurd (omega (arith, same))
  seated-at (row ∷ rows) [] tasks i same one_each below = absurd (omega (arith, below))
  seated-at (row ∷ rows) (choice ∷ choices) [] i same one_each below = absurd (omega (arith, one_each))
  seated-at (row ∷ rows) (choice ∷ choices) (task ∷ tasks) zero same one_each below = refl
  seated-at (row ∷ rows) (choice ∷ choices) (task ∷ tasks) (suc i) same one_each below =
      seated-at rows choices tasks i (omega (arith, same)) (omega (arith, one_each)) (omega (arith, below))

  module _ (rows : List Task) (choices : List Choice) (case : Case) (same : length choices ≡ length rows)
      (one_each : length choices ≡ length case.tasks) where
    abbrev seats : List Demand
    seats = seated weight rows choices case.tasks

    abbrev pub so_far : ℕ → Case
    so_far i = record case { tasks = written seats case.tasks i }

    long : length seats ≡ length case.tasks
    long = length-seated rows choices case.tasks same one_each

    pub seats-there : (now : Case) (i : ℕ) → now ≡ so_far i → length now.tasks ≡ length case.tasks
    seats-there now i is =
        ap (λ (c : Case). length c.tasks) is ∙ written-length seats case.tasks i long

    pub seats-next : (now next : Case) (i : ℕ) → now ≡ so_far i → i < length choices
        → next ≡ record now {
          tasks = set now.tasks i
              (seat weight (slice_index_or rows i no_task) (slice_index_or choices i any_choice) (task_at now i));
        }
        → next ≡ so_far (i + 1)
    seats-next now next i now-is below next-is =
        let inside : i < length case.tasks = omega (arith, below, one_each) in
        let row : Task = slice_index_or rows i no_task in
        let choice : Choice = slice_index_or choices i any_choice in
        next-is
        ∙ ap (λ (c : Case).
        let d : Case = record c { tasks = set c.tasks i (seat weight row choice (task_at c i)) } in d)
        now-is
        ∙ ap (λ (l : List Demand). let d : Case = record case { tasks = l } in d)
        (ap (λ (t : Demand). set (written seats case.tasks i) i (seat weight row choice t))
        (written-next seats case.tasks i long inside no_demand)
        ∙ written-more seats case.tasks i no_demand (seat weight row choice (slice_index_or case.tasks i no_demand))
        long
        inside (seated-at rows choices case.tasks i same one_each below))

    -- a task that has not come yet is as it was
    pub seats-here : (now : Case) (i : ℕ) → now ≡ so_far i → i < length choices → task_at now i ≡ task_at case i
    seats-here now i now-is below =
        ap (λ (c : Case). task_at c i) now-is
        ∙ written-next seats case.tasks i long (omega (arith, below, one_each)) no_demand

    -- and one more that its choice leaves as it is
    pub seats-kept : (now : Case) (i : ℕ) → now ≡ so_far i → i < length choices
        → seat weight (slice_index_or rows i no_task) (slice_index_or choices i any_choice) (task_at case i)
        ≡ task_at case i
        → now ≡ so_far (i + 1)
    seats-kept now i now-is below stays =
        let here : task_at now i ≡ task_at case i = seats-here now i now-is below in
        let row : Task = slice_index_or rows i no_task in
        let choice : Choice = slice_index_or choices i any_choice in
        seats-next now now i now-is below
        (sym (ap (λ (t : Demand). let c : Case = record now { tasks = set now.tasks i (seat weight row choice t) } in c)
        here
        ∙ ap (λ (t : Demand). let c : Case = record now { tasks = set now.tasks i t } in c) (stays ∙ sym here)
        ∙ ap (λ (l : List Demand). let c : Case = record now { tasks = l } in c) (set-get_or now.tasks i no_demand)))

    pub seats-all : (now : Case) (i : ℕ) → now ≡ so_far i → length choices ≤ i
        → now ≡ record case { tasks = seats }
    seats-all now i is all =
        is ∙ ap (λ (l : List Demand). let d : Case = record case { tasks = l } in d)
        (written-all seats case.tasks i long (omega (arith, one_each, all)))
