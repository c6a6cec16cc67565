use Rattle.std.proofs.Common.{Some, None, sym, ◌∙◌}
use Rattle.firm_rules.proofs.Places.{weight_read}
use Rattle.firm_rules.proofs.placements.weight_of.Goals as goal

pub returns-in-Some : goal.returns-in-Some
returns-in-Some g c =
    c.get.ensures.value
    ∙ weight_read c.args.rows.now c.args.job c.job_place.result c.job_count.result c.unwrap_or-place.result
    (Some c.in-Some.row) c.job_place.ensures.place c.job_count.ensures c.unwrap_or-place.ensures
    (sym c.in-Some.is ∙ c.job_at.ensures)

pub returns-in-None : goal.returns-in-None
returns-in-None g c =
    weight_read c.args.rows.now c.args.job c.job_place.result c.job_count.result c.unwrap_or-place.result None
    c.job_place.ensures.place c.job_count.ensures c.unwrap_or-place.ensures (sym c.in-None.is ∙ c.job_at.ensures)
