-- The rows stay in form: as rows are added, as they are removed, as a task is placed, and after a round.
use Rattle.std.proofs.Common.{◌≡◌, ℕ, true, List, Option, IfSome, slice_index_or, refl}
use Rattle.std.proofs.lemmas.List.Elements.{All-push, All-map, All-filter}
use Rattle.firm_rules.specs.Names.{is_name}
use Rattle.firm_rules.specs.Book.{TenantRows, evicted, with_machine, with_job, with_restored, with_task_placed}
use Rattle.firm_rules.specs.Book.{without_machine, without_job, without_task}
use Rattle.firm_rules.specs.SoundBook.{AreInForm}
use Rattle.firm_rules.specs.Round.{rows_after, task_after}
use Rattle.firm_rules.specs.declared.book.Machine.{Machine}
use Rattle.firm_rules.specs.declared.book.Job.{Job}
use Rattle.firm_rules.specs.declared.book.Task.{Task}
use Rattle.firm_rules.specs.declared.rounds.Choice.{Choice}
use Rattle.firm_rules.specs.declared.rounds.Choice.TheVariants.{On, Wait}
use Rattle.firm_rules.proofs.NamedRows.{is_other}
use Rattle.firm_rules.proofs.PlacedRows.{All-placed}
use Rattle.firm_rules.proofs.SoundRows.{All-zipped, evicted-cases}

abbrev MachineFormed : Machine → Type 0
MachineFormed machine = is_name machine.name ≡ true

abbrev JobFormed : Job → Type 0
JobFormed job = is_name job.name ≡ true

abbrev TaskFormed : Task → Type 0
TaskFormed task = is_name task.name ≡ true

-- a task that runs has not waited
abbrev IsFresh : Task → Type 0
IsFresh task = IfSome task.machine (λ _. task.waited ≡ 0)

module _ (rows : TenantRows) (form : AreInForm rows) where
  pub form-with_machine : (name : List ℕ) (slots : ℕ) → is_name name ≡ true → AreInForm (with_machine rows name slots)
  form-with_machine name slots formed =
      record {
        limits = form.limits;
        machines = All-push MachineFormed rows.machines (record { name = name; slots = slots }) form.machines formed;
        jobs = form.jobs;
        tasks = form.tasks;
        running = form.running;
      }

  pub form-with_job : (name : List ℕ) (weight : ℕ) → is_name name ≡ true → AreInForm (with_job rows name weight)
  form-with_job name weight formed =
      record {
        limits = form.limits;
        machines = form.machines;
        jobs = All-push JobFormed rows.jobs (record { name = name; weight = weight }) form.jobs formed;
        tasks = form.tasks;
        running = form.running;
      }

  pub form-with_restored : (task : Task) → is_name task.name ≡ true → IsFresh task
      → AreInForm (with_restored rows task)
  form-with_restored task formed fresh =
      record {
        limits = form.limits;
        machines = form.machines;
        jobs = form.jobs;
        tasks = All-push TaskFormed rows.tasks task form.tasks formed;
        running = All-push IsFresh rows.tasks task form.running fresh;
      }

  pub form-placed : (place : ℕ) (machine : Option (List ℕ)) (waited : ℕ) → IfSome machine (λ _. waited ≡ 0)
      → AreInForm (with_task_placed rows place machine waited)
  form-placed place machine waited fresh =
      record {
        limits = form.limits;
        machines = form.machines;
        jobs = form.jobs;
        tasks = All-placed TaskFormed rows.tasks place machine waited (λ t h. h) form.tasks;
        running = All-placed IsFresh rows.tasks place machine waited (λ t h. fresh) form.running;
      }

  pub form-without_machine : (gone : List ℕ) → AreInForm (without_machine rows gone)
  form-without_machine gone =
      record {
        limits = form.limits;
        machines = All-filter (is_other (λ (m : Machine). m.name) gone) MachineFormed rows.machines form.machines;
        jobs = form.jobs;
        tasks = All-map TaskFormed (evicted gone) rows.tasks (λ k d l. named (slice_index_or rows.tasks k d)
            (form.tasks k d l));
        running = All-map IsFresh (evicted gone) rows.tasks (λ k d l. fresh (slice_index_or rows.tasks k d)
            (form.running k d l));
      }
    where
      named : (task : Task) → TaskFormed task → TaskFormed (evicted gone task)
      named task h = evicted-cases gone task TaskFormed (λ _. h) (λ _. h)

      fresh : (task : Task) → IsFresh task → IsFresh (evicted gone task)
      fresh task h = evicted-cases gone task IsFresh (λ _. tt) (λ _. h)

  pub form-without_job : (gone : List ℕ) → AreInForm (without_job rows gone)
  form-without_job gone =
      record {
        limits = form.limits;
        machines = form.machines;
        jobs = All-filter (is_other (λ (j : Job). j.name) gone) JobFormed rows.jobs form.jobs;
        tasks = form.tasks;
        running = form.running;
      }

  pub form-without_task : (gone : List ℕ) → AreInForm (without_task rows gone)
  form-without_task gone =
      record {
        limits = form.limits;
        machines = form.machines;
        jobs = form.jobs;
        tasks = All-filter (is_other (λ (t : Task). t.name) gone) TaskFormed rows.tasks form.tasks;
        running = All-filter (is_other (λ (t : Task). t.name) gone) IsFresh rows.tasks form.running;
      }

  pub form-rows_after : (placement : List Choice) → AreInForm (rows_after rows placement)
  form-rows_after placement =
      record {
        limits = form.limits;
        machines = form.machines;
        jobs = form.jobs;
        tasks = All-zipped TaskFormed TaskFormed (λ _. Unit {0}) (task_after rows) named rows.tasks placement form.tasks
            (λ k d l. tt);
        running = All-zipped IsFresh (λ _. Unit {0}) (λ _. Unit {0}) (task_after rows) fresh rows.tasks placement
            (λ k d l. tt) (λ k d l. tt);
      }
    where
      named : (task : Task) (choice : Choice) → TaskFormed task → Unit {0} → TaskFormed (task_after rows task choice)
      named task (On j) h u = h
      named task Wait h u = h

      fresh : (task : Task) (choice : Choice) → Unit {0} → Unit {0} → IsFresh (task_after rows task choice)
      fresh task (On j) u v = refl
      fresh task Wait u v = tt
