use Rattle.std.proofs.Common.{rules, ap, ◌∙◌}
use Rattle.firm_rules.specs.declared.commands.Command.TheVariants.{Round}
use Rattle.firm_tenant.specs.Step.{step, is_memory}
use Rattle.firm_hall.specs.Desks.{DeskIs}
use Rattle.firm_hall.proofs.desks.Asked.poll.Goals as goal

pub returns-in-Back : goal.returns-in-Back
returns-in-Back c =
    let mark = is_memory c.in-Back.field-0.reply in
    record {
      stepped = c.in-Back.ensures.round
          ∙ ap (λ (d : DeskIs). step d.book Round mark) c.self.view_is;
      same_desk = search rules;
    }
