-- The ends of the row that is there are nodes, as in every net.
use Rattle.std.proofs.Common.{sym}
use Rattle.firm_net.specs.declared.row.ArcId.{ArcId}
use Rattle.firm_net.proofs.Results.{arc-in_range}
use Rattle.firm_net.proofs.net.Net.arc_at.Goals as goal

pub returns-clause-ends : goal.returns-clause-ends
returns-clause-ends c =
    let arc : ArcId = record { id = c.in_ok-id.id } in
    let range = arc-in_range c.self.inside.links c.self.inside.nodes c.args.self.now arc c.in-Some.link.now
    c.self.invariant.net c.self.view_is (sym c.in-Some.ensures.value) in
    (range.1, range.2)
