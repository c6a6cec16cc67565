use Rattle.std.proofs.Common.{arith}
use Rattle.firm_canon.proofs.States.{goes_both, goes_within, ready_on}
use Rattle.firm_canon.proofs.choosing.Choosing.choose.Goals as goal

pub returns-in-None-clause-goes_on : goal.returns-in-None-clause-goes_on
returns-in-None-clause-goes_on c =
    goes_both c.args.self.now c.choose_apart.new.self c.choose_at_hub-in-None.new.self 1 1 2
    c.choose_apart.ensures.goes_on c.choose_at_hub-in-None.ensures.goes_on (omega arith)

pub returns-then-carries-clause-goes_on : goal.returns-then-carries-clause-goes_on
returns-then-carries-clause-goes_on c =
    goes_within c.args.self.now c.choose_at_hub.new.self 1 2 c.choose_at_hub.ensures.goes_on (omega arith)

pub choose_at_hub-requires-in-None-clause-ready : goal.choose_at_hub-requires-in-None-clause-ready
choose_at_hub-requires-in-None-clause-ready c =
    ready_on c.args.self.now c.choose_apart.new.self 1 c.args.wishes.now c.choose_apart.ensures.goes_on c.requires.ready

pub returns-in-Some-clause-goes_on : goal.returns-in-Some-clause-goes_on
returns-in-Some-clause-goes_on c =
    goes_within c.args.self.now c.choose_apart.new.self 1 2 c.choose_apart.ensures.goes_on (omega arith)
