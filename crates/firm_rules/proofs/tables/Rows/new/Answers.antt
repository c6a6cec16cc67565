use Rattle.std.proofs.Common.{◌≡◌, ℕ, true, List, [], refl, ap, ◌∙◌}
use Rattle.firm_rules.specs.Limits.{TenantLimits, are_limits}
use Rattle.firm_rules.specs.Book.{opening_rows}
use Rattle.firm_rules.specs.Round.{case_of}
use Rattle.firm_rules.specs.inner.Tables.{AreTablesAndCase, rows_in}
use Rattle.firm_rules.specs.declared.book.Machine.{Machine}
use Rattle.firm_rules.specs.declared.book.Job.{Job}
use Rattle.firm_rules.specs.declared.book.Task.{Task}
use Rattle.firm_rules.proofs.CaseKept.{unchanged}
use Rattle.firm_rules.proofs.SoundBooks.{opening-sound, opening-form}
use Rattle.firm_rules.proofs.tables.Rows.new.Goals as goal

-- empty tables are those of a tenant that has nothing yet
opened : (limits : TenantLimits) → are_limits limits ≡ true
    → AreTablesAndCase limits [] [] [] 0 0 0 (case_of (opening_rows limits))
opened limits within = record {
  tables = record {
    machines_by_name = refl;
    jobs_by_name = refl;
    tasks_by_name = refl;
    sound = opening-sound limits within;
    form = opening-form limits within;
    arcs_kept = refl;
    preferences_kept = refl;
    running_kept = refl;
  };
  case = refl;
}

nothing : (limits : TenantLimits) (machines : List (List ℕ × Machine)) (jobs : List (List ℕ × Job))
    (tasks : List (List ℕ × Task)) → machines ≡ [] → jobs ≡ [] → tasks ≡ []
    → rows_in limits machines jobs tasks ≡ opening_rows limits
nothing limits machines jobs tasks m j t =
    ap (λ (l : List (List ℕ × Machine)). rows_in limits l jobs tasks) m
    ∙ ap (λ (l : List (List ℕ × Job)). rows_in limits [] l tasks) j
    ∙ ap (λ (l : List (List ℕ × Task)). rows_in limits [] [] l) t

pub invariant_of-result : goal.invariant_of-result
invariant_of-result g c =
    unchanged (opened c.args.limits c.life.ensures.within) c.new.ensures.empty c.new-2.ensures.empty
    c.new-3.ensures.empty c.new-4.ensures

pub returns : goal.returns
returns g c = record {
  rows = nothing c.args.limits c.new.result.entries c.new-2.result.entries c.new-3.result.entries
      c.new.ensures.empty c.new-2.ensures.empty c.new-3.ensures.empty;
  sound = (unchanged (opened c.args.limits c.life.ensures.within) c.new.ensures.empty c.new-2.ensures.empty
      c.new-3.ensures.empty c.new-4.ensures).tables.sound;
}
