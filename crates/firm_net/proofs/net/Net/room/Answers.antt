-- The arenas' room is the net's.
use Rattle.std.proofs.Common.{arith}
use Rattle.firm_net.proofs.Results.{nodes-counted, arcs-counted, node-capacity, arc-capacity}
use Rattle.firm_net.proofs.net.Net.room.Goals as goal

pub returns-clause-nodes : goal.returns-clause-nodes
returns-clause-nodes c =
    omega (
      arith,
      c.room.ensures.value,
      nodes-counted c.self.inside.links c.self.inside.nodes c.args.self.now c.self.view_is,
      node-capacity c.self.inside.links c.self.inside.nodes c.args.self.now c.self.view_is,
    )

pub returns-clause-arcs : goal.returns-clause-arcs
returns-clause-arcs c =
    omega (
      arith,
      c.room-2.ensures.value,
      arcs-counted c.self.inside.links c.self.inside.nodes c.args.self.now c.self.view_is,
      arc-capacity c.self.inside.links c.self.inside.nodes c.args.self.now c.self.view_is,
    )
