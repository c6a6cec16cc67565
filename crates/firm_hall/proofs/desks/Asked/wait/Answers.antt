use Rattle.std.proofs.Common.{rules, ap, ◌∙◌}
use Rattle.firm_rules.specs.declared.commands.Command.TheVariants.{Round}
use Rattle.firm_tenant.specs.Step.{step, is_memory}
use Rattle.firm_hall.specs.Desks.{DeskIs}
use Rattle.firm_hall.proofs.desks.Asked.wait.Goals as goal

pub returns : goal.returns
returns g c =
    let mark = is_memory c.wait-tenant.result.reply in
    record {
      stepped = c.wait-tenant.ensures.round
          ∙ ap (λ (d : DeskIs). step d.book Round mark) c.self.view_is;
      same_desk = search rules;
    }
