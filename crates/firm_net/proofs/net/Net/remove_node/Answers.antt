-- The parts show the net without the node.
use Rattle.std.proofs.Common.{◌≡◌, ◌+◌, ◌∙◌, sym, ap, arith, refl, subst}
use Rattle.std.proofs.lemmas.Bool.{false≢true}
use Rattle.firm_arena.specs.Arena.{Arena, without}
use Rattle.firm_net.specs.Net.{IsNet}
use Rattle.firm_net.specs.declared.links.Node.{Node}
use Rattle.firm_net.specs.declared.links.Side.TheVariants.{Out, In}
use Rattle.firm_net.proofs.Results.{RemovesNode, removes_node, node-found, node-missing, not-node, list-empty}
use Rattle.firm_net.proofs.Results.{list-busy, if-some}
use Rattle.firm_net.proofs.net.Net.remove_node.Goals as goal

taken : (c : goal.After-take) → c.take.new.self ≡ without c.self.inside.nodes c.args.node.id.place
taken c =
    if-some c.take.result (λ _. c.take.new.self ≡ without c.self.inside.nodes c.args.node.id.place) c.in-Some.lists
    (c.take.ensures.value ∙ (sym c.get.ensures.value ∙ sym c.in-Some.ensures)) c.take.ensures.removes

removes : (c : goal.After-take) → RemovesNode c.self.inside.links c.take.new.self c.args.self.now c.args.node
removes c =
    removes_node c.self.inside.links c.self.inside.nodes c.take.new.self c.args.self.now c.args.node c.in-Some.lists
    c.self.invariant.net c.self.invariant.shows c.self.view_is (sym c.get.ensures.value ∙ sym c.in-Some.ensures)
    (omega arith) (omega arith) (taken c)

pub invariant_of-self : goal.invariant_of-self
invariant_of-self c =
    record {
      added = c.self.invariant.added ∙ ap (λ (a : Arena Node). a.counter + c.self.inside.links.counter) (sym (taken c));
      net = (removes c).net;
      shows = (removes c).shows;
      clear = c.self.invariant.clear;
    }

pub returns-clause-removes : goal.returns-clause-removes
returns-clause-removes c = λ _. (removes c).is

pub returns-clause-absent : goal.returns-clause-absent
returns-clause-absent c = λ _. (removes c).gone

pub returns-clause-stamp : goal.returns-clause-stamp
returns-clause-stamp c = λ _. (removes c).stamp

pub returns-clause-others : goal.returns-clause-others
returns-clause-others c = (removes c).others

pub returns-clause-counts : goal.returns-clause-counts
returns-clause-counts c = λ _. (removes c).counts

pub returns-clause-net : goal.returns-clause-net
returns-clause-net c = (removes c).net

pub returns-clause-gone : goal.returns-clause-gone
returns-clause-gone c = (
  λ e. let wrong : ⊥ = cc in absurd wrong,
  λ none. absurd (not-node c.args.self.now c.args.node none
      (node-found c.self.inside.links c.self.inside.nodes c.args.self.now c.args.node c.in-Some.lists c.self.view_is
      (sym c.get.ensures.value ∙ sym c.in-Some.ensures))),
)

pub returns-clause-free : goal.returns-clause-free
returns-clause-free c = (
  λ _. (
    node-found c.self.inside.links c.self.inside.nodes c.args.self.now c.args.node c.in-Some.lists c.self.view_is
        (sym c.get.ensures.value ∙ sym c.in-Some.ensures),
    list-empty Out c.self.inside.links c.self.inside.nodes c.args.self.now c.args.node c.in-Some.lists
        c.self.invariant.shows c.self.view_is (sym c.get.ensures.value ∙ sym c.in-Some.ensures) (omega arith),
    list-empty In c.self.inside.links c.self.inside.nodes c.args.self.now c.args.node c.in-Some.lists
        c.self.invariant.shows c.self.view_is (sym c.get.ensures.value ∙ sym c.in-Some.ensures) (omega arith),
  ),
  λ _. refl,
)

pub returns-then-lists-ne0-clause-free : goal.returns-then-lists-ne0-clause-free
returns-then-lists-ne0-clause-free c = (
  λ e. absurd (false≢true e),
  λ h.
      let none : c.in-Some.lists.outgoing.count ≡ 0 =
      list-busy Out c.self.inside.links c.self.inside.nodes c.args.self.now c.args.node c.in-Some.lists
      c.self.invariant.shows c.self.view_is (sym c.get.ensures.value ∙ sym c.in-Some.ensures) h.1 in
      absurd (omega (arith, none)),
)

pub returns-then-lists-ne0-2-clause-free : goal.returns-then-lists-ne0-2-clause-free
returns-then-lists-ne0-2-clause-free c = (
  λ e. absurd (false≢true e),
  λ h.
      let none : c.in-Some.lists.incoming.count ≡ 0 =
      list-busy In c.self.inside.links c.self.inside.nodes c.args.self.now c.args.node c.in-Some.lists
      c.self.invariant.shows c.self.view_is (sym c.get.ensures.value ∙ sym c.in-Some.ensures) h.2 in
      absurd (omega (arith, none)),
)

pub returns-then-lists-ne0-clause-gone : goal.returns-then-lists-ne0-clause-gone
returns-then-lists-ne0-clause-gone c = (
  λ e. let wrong : ⊥ = cc in absurd wrong,
  λ none. absurd (not-node c.args.self.now c.args.node none
      (node-found c.self.inside.links c.self.inside.nodes c.args.self.now c.args.node c.in-Some.lists c.self.view_is
      (sym c.get.ensures.value ∙ sym c.in-Some.ensures))),
)

pub returns-then-lists-ne0-2-clause-gone : goal.returns-then-lists-ne0-2-clause-gone
returns-then-lists-ne0-2-clause-gone c = (
  λ e. let wrong : ⊥ = cc in absurd wrong,
  λ none. absurd (not-node c.args.self.now c.args.node none
      (node-found c.self.inside.links c.self.inside.nodes c.args.self.now c.args.node c.in-Some.lists c.self.view_is
      (sym c.get.ensures.value ∙ sym c.in-Some.ensures))),
)

pub returns-in_default-clause-free : goal.returns-in_default-clause-free
returns-in_default-clause-free c = (
  λ e. absurd (false≢true e),
  λ h. absurd (not-node c.args.self.now c.args.node
      (node-missing c.self.inside.links c.self.inside.nodes c.args.self.now c.args.node c.self.view_is
      (sym c.get.ensures.value ∙ sym c.in_default.ensures))
      h.0),
)

pub returns-in_default-clause-gone : goal.returns-in_default-clause-gone
returns-in_default-clause-gone c = (
  λ _. node-missing c.self.inside.links c.self.inside.nodes c.args.self.now c.args.node c.self.view_is
      (sym c.get.ensures.value ∙ sym c.in_default.ensures),
  λ _. refl,
)

pub returns-clause-edit : goal.returns-clause-edit
returns-clause-edit c = λ _. (removes c).edit

pub returns-in_default-clause-removes : goal.returns-in_default-clause-removes
returns-in_default-clause-removes c = λ e. absurd (false≢true e)

pub returns-in_default-clause-edit : goal.returns-in_default-clause-edit
returns-in_default-clause-edit c = λ e. absurd (false≢true e)

pub returns-in_default-clause-absent : goal.returns-in_default-clause-absent
returns-in_default-clause-absent c = λ e. absurd (false≢true e)

pub returns-in_default-clause-stamp : goal.returns-in_default-clause-stamp
returns-in_default-clause-stamp c = λ e. absurd (false≢true e)

pub returns-in_default-clause-counts : goal.returns-in_default-clause-counts
returns-in_default-clause-counts c = λ e. absurd (false≢true e)

pub returns-in_default-clause-others : goal.returns-in_default-clause-others
returns-in_default-clause-others c = λ m ne. refl

pub returns-in_default-clause-unchanged : goal.returns-in_default-clause-unchanged
returns-in_default-clause-unchanged c = refl

pub returns-in_default-clause-net : goal.returns-in_default-clause-net
returns-in_default-clause-net c = subst IsNet c.self.view_is c.self.invariant.net

pub returns-in_default-clause-net_before : goal.returns-in_default-clause-net_before
returns-in_default-clause-net_before c = subst IsNet c.self.view_is c.self.invariant.net

pub returns-then-lists-ne0-clause-removes : goal.returns-then-lists-ne0-clause-removes
returns-then-lists-ne0-clause-removes c = λ e. absurd (false≢true e)

pub returns-then-lists-ne0-clause-edit : goal.returns-then-lists-ne0-clause-edit
returns-then-lists-ne0-clause-edit c = λ e. absurd (false≢true e)

pub returns-then-lists-ne0-clause-absent : goal.returns-then-lists-ne0-clause-absent
returns-then-lists-ne0-clause-absent c = λ e. absurd (false≢true e)

pub returns-then-lists-ne0-clause-stamp : goal.returns-then-lists-ne0-clause-stamp
returns-then-lists-ne0-clause-stamp c = λ e. absurd (false≢true e)

pub returns-then-lists-ne0-clause-counts : goal.returns-then-lists-ne0-clause-counts
returns-then-lists-ne0-clause-counts c = λ e. absurd (false≢true e)

pub returns-then-lists-ne0-clause-others : goal.returns-then-lists-ne0-clause-others
returns-then-lists-ne0-clause-others c = λ m ne. refl

pub returns-then-lists-ne0-clause-unchanged : goal.returns-then-lists-ne0-clause-unchanged
returns-then-lists-ne0-clause-unchanged c = refl

pub returns-then-lists-ne0-clause-net : goal.returns-then-lists-ne0-clause-net
returns-then-lists-ne0-clause-net c = subst IsNet c.self.view_is c.self.invariant.net

pub returns-then-lists-ne0-clause-net_before : goal.returns-then-lists-ne0-clause-net_before
returns-then-lists-ne0-clause-net_before c = subst IsNet c.self.view_is c.self.invariant.net

pub returns-then-lists-ne0-2-clause-removes : goal.returns-then-lists-ne0-2-clause-removes
returns-then-lists-ne0-2-clause-removes c = λ e. absurd (false≢true e)

pub returns-then-lists-ne0-2-clause-edit : goal.returns-then-lists-ne0-2-clause-edit
returns-then-lists-ne0-2-clause-edit c = λ e. absurd (false≢true e)

pub returns-then-lists-ne0-2-clause-absent : goal.returns-then-lists-ne0-2-clause-absent
returns-then-lists-ne0-2-clause-absent c = λ e. absurd (false≢true e)

pub returns-then-lists-ne0-2-clause-stamp : goal.returns-then-lists-ne0-2-clause-stamp
returns-then-lists-ne0-2-clause-stamp c = λ e. absurd (false≢true e)

pub returns-then-lists-ne0-2-clause-counts : goal.returns-then-lists-ne0-2-clause-counts
returns-then-lists-ne0-2-clause-counts c = λ e. absurd (false≢true e)

pub returns-then-lists-ne0-2-clause-others : goal.returns-then-lists-ne0-2-clause-others
returns-then-lists-ne0-2-clause-others c = λ m ne. refl

pub returns-then-lists-ne0-2-clause-unchanged : goal.returns-then-lists-ne0-2-clause-unchanged
returns-then-lists-ne0-2-clause-unchanged c = refl

pub returns-then-lists-ne0-2-clause-net : goal.returns-then-lists-ne0-2-clause-net
returns-then-lists-ne0-2-clause-net c = subst IsNet c.self.view_is c.self.invariant.net

pub returns-then-lists-ne0-2-clause-net_before : goal.returns-then-lists-ne0-2-clause-net_before
returns-then-lists-ne0-2-clause-net_before c = subst IsNet c.self.view_is c.self.invariant.net

pub returns-clause-unchanged : goal.returns-clause-unchanged
returns-clause-unchanged c = tt

pub returns-clause-net_before : goal.returns-clause-net_before
returns-clause-net_before c = subst IsNet c.self.view_is c.self.invariant.net
