use Rattle.std.proofs.Common.{ℕ, ◌+◌, ◌≤◌, List, ◌++◌, ◌∷◌, [], refl, ap, subst, ◌∙◌}
use Rattle.std.specs.Map.{keys_of}
use Rattle.firm_rules.specs.Book.{TenantRows, job_names}
use Rattle.firm_rules.specs.Names.{is_among}
use Rattle.firm_rules.specs.Placement.{Case}
use Rattle.firm_rules.specs.declared.book.Job.{Job}
use Rattle.firm_rules.proofs.TableLemmas.{tables-with_job}
use Rattle.firm_rules.proofs.CaseKept.{kept, sound-rows, unchanged, room-for_job}
use Rattle.firm_rules.proofs.CaseLaws.{case-with_job}
use Rattle.firm_rules.proofs.tables.Rows.add_job.Goals as goal

pub invariant_of-self-2 : goal.invariant_of-self-2
invariant_of-self-2 g c =
    let job : Job = record { name = c.args.name; weight = c.args.weight } in
    let all = tables-with_job c.self.invariant.tables c.self.view_is c.args.name c.args.weight
    (c.add_last.ensures.entries
    ∙ ap (λ (l : List (List ℕ × Job)). l ++ (c.args.name, job) ∷ []) c.make_room.ensures.entries)
    c.add_last.ensures.unique c.requires.fits (subst (λ n. 1 ≤ n) c.get.ensures.value c.get.ensures.least)
    (subst (λ n. n ≤ 1000000) c.get.ensures.value c.get.ensures.most) c.as_bytes.ensures.formed in
    record {
      tables = all.tables;
      case = kept (λ (case : Case). let k : Case = record case { jobs = case.jobs + 1 } in k)
          c.self.invariant.case c.self.view_is c.add_job.ensures
          (case-with_job c.args.self.now (sound-rows c.self.invariant c.self.view_is) c.args.name c.args.weight)
          all.view;
    }

pub returns : goal.returns
returns g c =
    let job : Job = record { name = c.args.name; weight = c.args.weight } in
    let all = tables-with_job c.self.invariant.tables c.self.view_is c.args.name c.args.weight
    (c.add_last.ensures.entries
    ∙ ap (λ (l : List (List ℕ × Job)). l ++ (c.args.name, job) ∷ []) c.make_room.ensures.entries)
    c.add_last.ensures.unique c.requires.fits (subst (λ n. 1 ≤ n) c.get.ensures.value c.get.ensures.least)
    (subst (λ n. n ≤ 1000000) c.get.ensures.value c.get.ensures.most) c.as_bytes.ensures.formed in
    record { ok = all.view; err = tt; sound = all.tables.sound }

pub invariant_of-self : goal.invariant_of-self
invariant_of-self g c = unchanged c.self.invariant refl c.make_room.ensures.entries refl refl

pub returns-in_err-make_room-clause-sound : goal.returns-in_err-make_room-clause-sound
returns-in_err-make_room-clause-sound g c =
    (unchanged c.self.invariant refl c.make_room.ensures.entries refl refl).tables.sound

pub add_last-requires-clause-new_name : goal.add_last-requires-clause-new_name
add_last-requires-clause-new_name g c =
    ap (λ (l : List (List ℕ × Job)). is_among (keys_of l) c.args.name) c.make_room.ensures.entries
    ∙ ap (λ (names : List (List ℕ)). is_among names c.args.name) c.self.invariant.tables.jobs_by_name
    ∙ ap (λ (rows : TenantRows). is_among (job_names rows) c.args.name) c.self.view_is ∙ c.requires.new_name

pub add_job-requires : goal.add_job-requires
add_job-requires g c =
    room-for_job c.self.invariant c.self.view_is c.args.name c.args.weight c.requires.fits
