use Rattle.std.proofs.Common.{ap, ◌∙◌}
use Rattle.firm_rules.specs.Book.{TenantRows}
use Rattle.firm_rules.specs.Round.{weight_at}
use Rattle.firm_rules.proofs.tables.Rows.weight_at.Goals as goal

pub returns-clause-weight : goal.returns-clause-weight
returns-clause-weight g c =
    c.weight_at.ensures.weight ∙ ap (λ (rows : TenantRows). weight_at rows c.args.place) c.self.view_is
