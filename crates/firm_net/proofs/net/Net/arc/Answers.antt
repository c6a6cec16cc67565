-- The row that is there keeps what every net keeps.
use Rattle.std.proofs.Common.{sym}
use Rattle.firm_net.proofs.Results.{arc-in_range}
use Rattle.firm_net.proofs.net.Net.arc.Goals as goal

pub returns-clause-in_range : goal.returns-clause-in_range
returns-clause-in_range c =
    arc-in_range c.self.inside.links c.self.inside.nodes c.args.self.now c.args.arc c.in_ok-link.link.now
    c.self.invariant.net c.self.view_is (sym c.in_ok-link.ensures.value)
