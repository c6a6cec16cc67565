use Rattle.firm_saved.proofs.Keeping.{kept_grown}
use Rattle.firm_saved.proofs.drafts.Draft.take.Goals as goal

pub returns-in-Some-clause-sound : goal.returns-in-Some-clause-sound
returns-in-Some-clause-sound c =
    kept_grown c.args.self.now c.in-Some.tenant c.grow.new.self c.args.row.now c.grow.result c.requires c.in-Some.is
    c.grow.ensures.grown c.grow.ensures.loads
