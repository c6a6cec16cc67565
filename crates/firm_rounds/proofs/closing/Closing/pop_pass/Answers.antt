use Rattle.firm_rounds.proofs.Fairs.{merges}
use Rattle.firm_rounds.proofs.closing.Closing.pop_pass.Goals as goal

pub absorb-requires-clause-rule : goal.absorb-requires-clause-rule
absorb-requires-clause-rule c = merges _ _ _ _ c.self.invariant.1
