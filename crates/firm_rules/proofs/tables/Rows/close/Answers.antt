use Rattle.std.proofs.Common.{List, ℕ, ◌-◌, map, remove, ap, ◌∙◌, arith}
use Rattle.std.specs.Map.{values_of}
use Rattle.indexmap.proofs.SetLemmas.{map-remove}
use Rattle.firm_rules.specs.Book.{TenantRows}
use Rattle.firm_rules.specs.declared.book.Job.{Job}
use Rattle.firm_rules.specs.Placement.{Case}
use Rattle.firm_rules.specs.inner.Demands.{without_job_at}
use Rattle.firm_rules.proofs.CaseKept.{few-rows, jobs-counted, kept, sound-rows}
use Rattle.firm_rules.proofs.CaseLaws.{case-without_job}
use Rattle.firm_rules.proofs.TableLemmas.{tables-without_job}
use Rattle.firm_rules.proofs.tables.Rows.close.Goals as goal

pub invariant_of-self : goal.invariant_of-self
invariant_of-self g c =
    let all = tables-without_job c.self.invariant.tables c.self.view_is c.args.place
    c.shift_remove_index.ensures.entries c.shift_remove_index.ensures.unique c.requires.there c.requires.no_tasks in
    record {
      tables = all.tables;
      case = kept (λ (case : Case). let k : Case = record case {
        jobs = case.jobs - 1;
        tasks = map (without_job_at c.args.place) case.tasks;
      } in k)
          c.self.invariant.case c.self.view_is c.drop_job.ensures
          (case-without_job c.args.self.now (sound-rows c.self.invariant c.self.view_is) c.args.place
          c.requires.there c.requires.no_tasks) all.view;
    }

pub drop_job-requires-clause-there : goal.drop_job-requires-clause-there
drop_job-requires-clause-there g c =
    omega (arith, c.requires.there, jobs-counted c.self.invariant c.self.view_is)

pub drop_job-requires-clause-few : goal.drop_job-requires-clause-few
drop_job-requires-clause-few g c =
    omega (arith, jobs-counted c.self.invariant c.self.view_is, few-rows c.self.invariant c.self.view_is)

pub returns-clause-rows : goal.returns-clause-rows
returns-clause-rows g c =
    (tables-without_job c.self.invariant.tables c.self.view_is c.args.place
    c.shift_remove_index.ensures.entries c.shift_remove_index.ensures.unique c.requires.there c.requires.no_tasks).view

pub returns-clause-sound : goal.returns-clause-sound
returns-clause-sound g c =
    (tables-without_job c.self.invariant.tables c.self.view_is c.args.place
    c.shift_remove_index.ensures.entries c.shift_remove_index.ensures.unique c.requires.there
    c.requires.no_tasks).tables.sound

pub returns-clause-jobs : goal.returns-clause-jobs
returns-clause-jobs g c =
    ap values_of c.shift_remove_index.ensures.entries
    ∙ map-remove (λ (e : List ℕ × Job). e.1) c.self.inside.jobs.entries c.args.place
    ∙ ap (λ (rows : TenantRows). remove rows.jobs c.args.place) c.self.view_is
