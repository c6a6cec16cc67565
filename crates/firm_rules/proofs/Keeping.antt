-- Rows that are sound and in form stay so, whatever comes, goes or is placed.
use Rattle.std.proofs.Common.{◌≡◌, ℕ, true, false, Bool, List, [], ◌∷◌, ◌++◌, map, filter, sym, subst}
use Rattle.std.proofs.Common.{bytes_eq, cond, arith}
use Rattle.std.specs.List.{IsDistinct, AllByRecursion}
use Rattle.std.proofs.lemmas.List.{map-append}
use Rattle.std.proofs.lemmas.Map.Keys.{IsDistinct-push, IsDistinct-head, IsDistinct-tail, IsDistinct-cons}
use Rattle.firm_rules.specs.Book.{new_task}
use Rattle.firm_rules.specs.Names.{is_among}
use Rattle.firm_rules.specs.Keeping.{SoundRowsStaySound}
use Rattle.firm_rules.specs.declared.book.Machine.{Machine}
use Rattle.firm_rules.specs.declared.book.Job.{Job}
use Rattle.firm_rules.specs.declared.book.Task.{Task}
use Rattle.firm_rules.proofs.NamedRows.{is_other}
use Rattle.firm_rules.proofs.PreferredNames.{names-equivalent}
use Rattle.firm_rules.proofs.SoundRows.{sound-with_machine, sound-with_job, sound-with_restored, sound-without_machine}
use Rattle.firm_rules.proofs.SoundRows.{sound-without_job, sound-without_task, sound-rows_after}
use Rattle.firm_rules.proofs.FormedRows.{form-with_machine, form-with_job, form-with_restored, form-without_machine}
use Rattle.firm_rules.proofs.FormedRows.{form-without_job, form-without_task, form-rows_after}

-- names that differ still do without some rows, and with a new one
module _ {Row : Type 0} (name_of : Row → List ℕ) where
  all-filter : (keep : Row → Bool) (P : List ℕ → Type 0) (rows : List Row) → AllByRecursion P (map name_of rows)
      → AllByRecursion P (map name_of (filter keep rows))
  all-filter keep P [] all = tt
  all-filter keep P (row ∷ rows) all =
      elim (keep row) as (λ b. AllByRecursion P (map name_of (cond b (row ∷ filter keep rows) (filter keep rows)))) [
        | true ↦ (all.0, all-filter keep P rows all.1)
        | false ↦ all-filter keep P rows all.1
      ]

  pub distinct-filter : (keep : Row → Bool) (rows : List Row) → IsDistinct bytes_eq (map name_of rows)
      → IsDistinct bytes_eq (map name_of (filter keep rows))
  distinct-filter keep [] differ = differ
  distinct-filter keep (row ∷ rows) differ =
      elim (keep row) as (λ b.
      IsDistinct bytes_eq (map name_of (cond b (row ∷ filter keep rows) (filter keep rows)))) [
        | true ↦ IsDistinct-cons bytes_eq (name_of row) (map name_of (filter keep rows))
            (all-filter keep (λ n. bytes_eq (name_of row) n ≡ false) rows
            (IsDistinct-head bytes_eq (name_of row) (map name_of rows) differ))
            (distinct-filter keep rows (IsDistinct-tail bytes_eq (name_of row) (map name_of rows) differ))
        | false ↦ distinct-filter keep rows (IsDistinct-tail bytes_eq (name_of row) (map name_of rows) differ)
      ]

  pub distinct-push : (rows : List Row) (row : Row) → IsDistinct bytes_eq (map name_of rows)
      → is_among (map name_of rows) (name_of row) ≡ false → IsDistinct bytes_eq (map name_of (rows ++ row ∷ []))
  distinct-push rows row differ new =
      subst (IsDistinct bytes_eq) (sym (map-append name_of rows (row ∷ [])))
      (IsDistinct-push names-equivalent (map name_of rows) (name_of row) differ new)

pub stay_well : SoundRowsStaySound
stay_well rows well =
    record {
      machines = λ name slots formed new least most fits. record {
        sound = sound-with_machine rows well.sound name slots
            (distinct-push (λ (m : Machine). m.name) rows.machines (record { name = name; slots = slots })
            well.sound.machine_names_differ new) new fits least most;
        form = form-with_machine rows well.form name slots formed;
      };
      jobs = λ name weight formed new least most fits. record {
        sound = sound-with_job rows well.sound name weight
            (distinct-push (λ (j : Job). j.name) rows.jobs (record { name = name; weight = weight })
            well.sound.job_names_differ new) fits least most;
        form = form-with_job rows well.form name weight formed;
      };
      tasks = λ job name preferred formed new job-there there few differ fits. record {
        sound = sound-with_restored rows well.sound (new_task job name preferred)
            (distinct-push (λ (t : Task). t.name) rows.tasks (new_task job name preferred)
            well.sound.task_names_differ new) job-there tt there few differ tt (omega arith) fits;
        form = form-with_restored rows well.form (new_task job name preferred) formed tt;
      };
      drained = λ name. record {
        sound = sound-without_machine rows well.sound name
            (distinct-filter (λ (m : Machine). m.name) (is_other (λ (m : Machine). m.name) name) rows.machines
            well.sound.machine_names_differ);
        form = form-without_machine rows well.form name;
      };
      closed = λ name none. record {
        sound = sound-without_job rows well.sound name
            (distinct-filter (λ (j : Job). j.name) (is_other (λ (j : Job). j.name) name) rows.jobs
            well.sound.job_names_differ) none;
        form = form-without_job rows well.form name;
      };
      done = λ name. record {
        sound = sound-without_task rows well.sound name
            (distinct-filter (λ (t : Task). t.name) (is_other (λ (t : Task). t.name) name) rows.tasks
            well.sound.task_names_differ);
        form = form-without_task rows well.form name;
      };
      placed = λ placement legal. record {
        sound = sound-rows_after rows well.sound placement legal;
        form = form-rows_after rows well.form placement;
      };
    }
