-- The parts show the net with the node.
use Rattle.std.proofs.Common.{arith, ap, refl}
use Rattle.std.proofs.lemmas.Bool.{false≢true}
use Rattle.firm_arena.specs.Arena.{Arena}
use Rattle.firm_net.specs.declared.links.Node.{Node}
use Rattle.firm_net.proofs.Results.{AddsNode, adds_node, nodes-counted, node-capacity, added-counted}
use Rattle.firm_net.proofs.net.Net.add_node.Goals as goal

adds : (c : goal.After-self-1)
    → AddsNode c.self.inside.links c.put.new.self c.args.self.now (record { id = c.in-Ok.id })
adds c =
    adds_node c.self.inside.links c.self.inside.nodes c.put.new.self c.args.self.now c.in-Ok.id c.new.result
    c.self.invariant.net c.self.invariant.shows c.self.view_is
    c.in-Ok.ensures.place c.in-Ok.ensures.stamp (c.in-Ok.ensures.succeeds.0 refl).1 c.in-Ok.ensures.adds c.new.ensures

pub invariant_of-self-2 : goal.invariant_of-self-2
invariant_of-self-2 c =
    record {
      added = omega (arith, c.self.invariant.added, ap (λ (a : Arena Node). a.counter) c.in-Ok.ensures.adds);
      net = (adds c).net;
      shows = (adds c).shows;
      clear = c.self.invariant.clear;
    }

pub returns-clause-adds : goal.returns-clause-adds
returns-clause-adds c = (adds c).is

pub returns-clause-others : goal.returns-clause-others
returns-clause-others c = (adds c).others

pub returns-clause-counts : goal.returns-clause-counts
returns-clause-counts c = (adds c).counts

pub returns-clause-net : goal.returns-clause-net
returns-clause-net c = (adds c).net

pub returns-in_default-clause-room : goal.returns-in_default-clause-room
returns-in_default-clause-room c = (
  λ e. absurd (false≢true e),
  λ h.
      c.in_default.ensures.succeeds.1 (
        omega (
          arith,
          h,
          nodes-counted c.self.inside.links c.self.inside.nodes c.args.self.now c.self.view_is,
          node-capacity c.self.inside.links c.self.inside.nodes c.args.self.now c.self.view_is,
        ),
        omega (arith, c.requires, added-counted c.self.inside.links c.self.inside.nodes c.args.self.now c.self.view_is),
      ),
)

pub returns-clause-edit : goal.returns-clause-edit
returns-clause-edit c = (adds c).edit
