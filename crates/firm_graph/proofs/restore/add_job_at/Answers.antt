use Rattle.std.proofs.Common.{ap, ◌∙◌}
use Rattle.firm_rules.specs.Book.{TenantRows, job_names, with_job}
use Rattle.firm_rules.specs.Names.{is_among}
use Rattle.firm_rules.specs.declared.book.Job.{Job}
use Rattle.firm_graph.proofs.Restores.{fresh-at, job-next}
use Rattle.firm_graph.proofs.restore.add_job_at.Goals as goal

pub add_job-requires-clause-new_name : goal.add_job-requires-clause-new_name
add_job-requires-clause-new_name c =
    ap (λ (r : TenantRows). is_among (job_names r) c.in-Some.job.name) c.requires.before
    ∙ fresh-at (λ (j : Job). j.name) c.args.rows.now.jobs c.args.place c.in-Some.job
    c.limits.ensures.sound.job_names_differ c.requires.place c.in-Some.ensures

pub returns-in-Ok-clause-rows : goal.returns-in-Ok-clause-rows
returns-in-Ok-clause-rows c =
    c.in-Ok.ensures.ok
    ∙ ap (λ (r : TenantRows). with_job r c.in-Some.job.name c.in-Some.job.weight) c.requires.before
    ∙ job-next c.args.rows.now c.limits.ensures.sound c.args.place c.in-Some.job c.requires.place c.in-Some.ensures
