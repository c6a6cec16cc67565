use Rattle.firm_tenant.specs.Step.{is_memory}
use Rattle.firm_table.proofs.Seating.{posts_part}
use Rattle.firm_table.proofs.occupants.Occupant.post.Goals as goal

pub returns : goal.returns
returns c = (
  is_memory c.step.result,
  posts_part c.args.self.now.tenant c.step.new.self c.args.self.now.part c.args.command
      (is_memory c.step.result) c.step.result
      c.in-Home.is c.in_default-command.not-Round c.step.ensures,
)
