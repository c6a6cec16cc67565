use Rattle.std.proofs.Common.{bytes_eq, sym, ◌∙◌}
use Rattle.std.proofs.lemmas.List.{length-map}
use Rattle.firm_rules.specs.Book.{job_names}
use Rattle.firm_rules.specs.declared.book.Job.{Job}
use Rattle.firm_rules.proofs.CaseLists.{first_found, none_found}
use Rattle.firm_rules.proofs.demands.job_place_of.Goals as goal

pub returns-in-None : goal.returns-in-None
returns-in-None g c =
    c.job_count.ensures ∙ (sym (length-map c.args.rows.now.jobs (λ (job : Job). job.name))
    ∙ none_found (bytes_eq c.args.job) (job_names c.args.rows.now) (sym c.job_place.ensures.place ∙ c.in-None.is))

pub returns-in-Some : goal.returns-in-Some
returns-in-Some g c =
    first_found (bytes_eq c.args.job) (job_names c.args.rows.now) c.in-Some.place
    (sym c.job_place.ensures.place ∙ c.in-Some.is)
