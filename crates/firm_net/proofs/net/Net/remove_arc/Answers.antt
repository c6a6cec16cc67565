-- The parts show the net without the arc.
use Rattle.std.proofs.Common.{◌≡◌, ◌+◌, ◌∙◌, sym, subst, arith, Option, IfSome}
use Rattle.std.proofs.lemmas.Bool.{false≢true}
use Rattle.firm_arena.specs.Arena.{without}
use Rattle.firm_net.specs.Net.{without_row}
use Rattle.firm_net.specs.declared.links.Link.{Link}
use Rattle.firm_net.specs.declared.links.Side.TheVariants.{Out}
use Rattle.firm_net.proofs.Results.{RemovesArc, removes_arc, end-has-arc, in-has-arc, added-counted, row-found}
use Rattle.firm_net.proofs.Results.{row-missing}
use Rattle.firm_net.proofs.net.Net.remove_arc.Goals as goal

pub unlink-requires : goal.unlink-requires
unlink-requires c =
    end-has-arc Out c.self.inside.links c.self.inside.nodes c.args.arc c.in-Some.link c.tail-tail.result
    c.self.invariant.net c.self.invariant.shows (sym c.get.ensures.value ∙ sym c.in-Some.ensures)
    c.tail-tail.ensures.value

pub unlink-requires-2 : goal.unlink-requires-2
unlink-requires-2 c =
    in-has-arc c.self.inside.links c.self.inside.nodes c.unlink.new.nodes c.args.arc c.in-Some.link c.tail-tail.result
    c.head-head.result
    c.self.invariant.net c.self.invariant.shows (sym c.get.ensures.value ∙ sym c.in-Some.ensures)
    c.tail-tail.ensures.value c.head-head.ensures.value c.unlink.ensures.nodes

removes : (c : goal.After-result-1)
    → RemovesArc c.take.new.self c.unlink-2.new.nodes c.args.self.now c.args.arc c.in-Some.link.row
removes c =
    removes_arc c.self.inside.links c.unlink.new.links c.unlink-2.new.links c.take.new.self c.self.inside.nodes
    c.unlink.new.nodes c.unlink-2.new.nodes
    c.args.self.now c.args.arc c.in-Some.link c.tail-tail.result c.head-head.result
    c.self.invariant.net c.self.invariant.shows c.self.view_is (sym c.get.ensures.value ∙ sym c.in-Some.ensures)
    c.tail-tail.ensures.value c.head-head.ensures.value
    c.unlink.ensures.nodes c.unlink.ensures.links c.unlink-2.ensures.nodes c.unlink-2.ensures.links
    (subst (λ (o : Option Link). IfSome o (λ _. c.take.new.self ≡ without c.unlink-2.new.links c.args.arc.id.place))
    c.take.ensures.value c.take.ensures.removes)

pub invariant_of-self : goal.invariant_of-self
invariant_of-self c =
    let after : c.unlink-2.new.nodes.counter + c.take.new.self.counter
    ≡ c.args.self.now.nodes.counter + c.args.self.now.arcs.counter =
    added-counted c.take.new.self c.unlink-2.new.nodes (without_row c.args.self.now c.args.arc c.in-Some.link.row)
    (removes c).is in
    let before : c.self.inside.nodes.counter + c.self.inside.links.counter
    ≡ c.args.self.now.nodes.counter + c.args.self.now.arcs.counter =
    added-counted c.self.inside.links c.self.inside.nodes c.args.self.now c.self.view_is in
    record {
      added = omega (arith, c.self.invariant.added, before, after);
      net = (removes c).net;
      shows = (removes c).shows;
      clear = λ e. absurd (false≢true e);
    }

pub returns-clause-row : goal.returns-clause-row
returns-clause-row c =
    sym (row-found c.self.inside.links c.self.inside.nodes c.args.self.now c.args.arc c.in-Some.link c.self.view_is
    (sym c.get.ensures.value ∙ sym c.in-Some.ensures))

pub returns-clause-removes : goal.returns-clause-removes
returns-clause-removes c = (removes c).is

pub returns-clause-gone : goal.returns-clause-gone
returns-clause-gone c = (removes c).gone

pub returns-clause-stamp : goal.returns-clause-stamp
returns-clause-stamp c = (removes c).stamp

pub returns-clause-counts : goal.returns-clause-counts
returns-clause-counts c = (removes c).counts

pub returns-clause-others : goal.returns-clause-others
returns-clause-others c = (removes c).others

pub returns-clause-net : goal.returns-clause-net
returns-clause-net c = (removes c).net

pub returns-in_default-clause-row : goal.returns-in_default-clause-row
returns-in_default-clause-row c =
    sym (row-missing c.self.inside.links c.self.inside.nodes c.args.self.now c.args.arc c.self.view_is
    (sym c.get.ensures.value ∙ sym c.in_default.ensures))

pub returns-in_default-clause-gone : goal.returns-in_default-clause-gone
returns-in_default-clause-gone c =
    row-missing c.self.inside.links c.self.inside.nodes c.args.self.now c.args.arc c.self.view_is
    (sym c.get.ensures.value ∙ sym c.in_default.ensures)

pub returns-clause-nodes : goal.returns-clause-nodes
returns-clause-nodes c = (removes c).same_nodes

pub returns-clause-edit : goal.returns-clause-edit
returns-clause-edit c = λ row there.
    (removes c).edit row there
