use Rattle.firm_canon.proofs.Graphs.{same_renetted}
use Rattle.firm_canon.proofs.holds.hold_at.Goals as goal

pub returns-clause-same : goal.returns-clause-same
returns-clause-same c =
    same_renetted c.args.graph.now c.hold.new.self _
    (c.hold.ensures.holds c.if-not-hold.false) c.hold.ensures.limits
