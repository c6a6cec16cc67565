use Rattle.firm_hall.proofs.Giving.{nothing_written}
use Rattle.firm_hall.proofs.serving.Serving.take_turn.Goals as goal

pub returns-then-is_there-clause-begins : goal.returns-then-is_there-clause-begins
returns-then-is_there-clause-begins g c = nothing_written c.args.self.now _
