use Rattle.firm_held.proofs.held.Held.write.Goals as goal

pub returns-clause-err : goal.returns-clause-err
returns-clause-err g c = rw (← c.self.view_is) c.write_held.ensures.err
