-- The parts show the net with the arc's head moved.
use Rattle.std.proofs.Common.{◌≡◌, ◌≢◌, ℕ, ◌+◌, ◌∙◌, ◌==◌, sym, ap, ap₂, subst, eq-eqb, eqb-true, arith, refl, Option}
use Rattle.std.proofs.Common.{Some, IfSome, is_some}
use Rattle.std.proofs.lemmas.Bool.{false≢true, and_from, and_parts}
use Rattle.firm_net.specs.Row.{Row}
use Rattle.firm_net.specs.Net.{IsNet, row_at, with_head}
use Rattle.firm_net.specs.declared.row.NodeId.{NodeId}
use Rattle.firm_net.specs.declared.links.Node.{Node}
use Rattle.firm_net.specs.declared.links.Side.TheVariants.{In}
use Rattle.firm_net.proofs.Shown.{shown_net}
use Rattle.firm_net.proofs.Results.{MovesHead, moves_head, end-has-arc, past-fits, past-there, added-counted, row-found}
use Rattle.firm_net.proofs.Results.{row-missing, node-found, node-missing, not-node, other-tail, tail-other, tail-none}
use Rattle.firm_net.proofs.net.Net.retarget.Goals as goal

pub unlink-requires : goal.unlink-requires
unlink-requires c =
    end-has-arc In c.self.inside.links c.self.inside.nodes c.args.arc c.in-Some.link c.head-old.result
    c.self.invariant.net
    c.self.invariant.shows (sym c.get.ensures.value ∙ sym c.in-Some.ensures) c.head-old.ensures.value

pub link_at_front-requires-clause-list : goal.link_at_front-requires-clause-list
link_at_front-requires-clause-list c =
    past-fits c.self.inside.links c.self.inside.nodes c.unlink.new.nodes c.args.arc c.in-Some.link c.head-old.result
    c.args.head
    c.self.invariant.net c.self.invariant.shows (sym c.get.ensures.value ∙ sym c.in-Some.ensures)
    c.head-old.ensures.value c.unlink.ensures.nodes
    (ap (λ (o : Option Node). is_some o) (sym c.get-2.ensures.value ∙ sym c.in-Some-copied.ensures))

pub set_row-requires : goal.set_row-requires
set_row-requires c =
    past-there In c.self.inside.links c.unlink.new.links c.args.arc c.in-Some.link c.in-Some.link.incoming
    (sym c.get.ensures.value ∙ sym c.in-Some.ensures) c.unlink.ensures.links

differs : (c : goal.After-self-1) → c.in-Some.link.row.tail ≢ c.args.head
differs c =
    λ e.
    let same : c.tail.result ≡ c.args.head = c.tail.ensures.value ∙ e in
    false≢true
    (sym c.if-eq.false ∙ c.eq.ensures
    ∙ and_from (c.tail.result.id.place == c.args.head.id.place) (c.tail.result.id.stamp == c.args.head.id.stamp)
    (eq-eqb c.tail.result.id.place c.args.head.id.place (ap (λ (k : NodeId). k.id.place) same))
    (eq-eqb c.tail.result.id.stamp c.args.head.id.stamp (ap (λ (k : NodeId). k.id.stamp) same)))

moves : (c : goal.After-self-1)
    → MovesHead c.link_at_front.new.links c.link_at_front.new.nodes c.args.self.now c.args.arc c.in-Some.link.row
    c.args.head
moves c =
    moves_head c.self.inside.links c.unlink.new.links c.set_row.new.links c.link_at_front.new.links c.self.inside.nodes
    c.unlink.new.nodes c.link_at_front.new.nodes
    c.args.self.now c.args.arc c.in-Some.link c.head-old.result c.args.head c.with_head.result c.in-Some-copied._node
    c.self.invariant.net c.self.invariant.shows c.self.view_is (sym c.get.ensures.value ∙ sym c.in-Some.ensures)
    c.head-old.ensures.value (sym c.get-2.ensures.value ∙ sym c.in-Some-copied.ensures) (differs c) c.with_head.ensures
    c.unlink.ensures.nodes c.unlink.ensures.links c.set_row.ensures c.link_at_front.ensures.nodes
    c.link_at_front.ensures.links

pub invariant_of-self : goal.invariant_of-self
invariant_of-self c =
    let after : c.link_at_front.new.nodes.counter + c.link_at_front.new.links.counter
    ≡ c.args.self.now.nodes.counter + c.args.self.now.arcs.counter =
    added-counted c.link_at_front.new.links c.link_at_front.new.nodes
    (with_head c.args.self.now c.args.arc c.in-Some.link.row c.args.head) (moves c).is in
    let before : c.self.inside.nodes.counter + c.self.inside.links.counter
    ≡ c.args.self.now.nodes.counter + c.args.self.now.arcs.counter =
    added-counted c.self.inside.links c.self.inside.nodes c.args.self.now c.self.view_is in
    record {
      added = omega (arith, c.self.invariant.added, before, after);
      net = (moves c).net;
      shows = (moves c).shows;
      clear = λ e. absurd (false≢true e);
    }

row : (c : goal.After-self-1) → row_at c.args.self.now c.args.arc ≡ Some c.in-Some.link.row
row c = row-found c.self.inside.links c.self.inside.nodes c.args.self.now c.args.arc c.in-Some.link c.self.view_is
    (sym c.get.ensures.value ∙ sym c.in-Some.ensures)

pub returns-clause-allowed : goal.returns-clause-allowed
returns-clause-allowed c = (
  λ _. (
    node-found c.self.inside.links c.self.inside.nodes c.args.self.now c.args.head c.in-Some-copied._node c.self.view_is
        (sym c.get-2.ensures.value ∙ sym c.in-Some-copied.ensures),
    other-tail (row_at c.args.self.now c.args.arc) c.in-Some.link.row c.args.head (row c) (differs c),
  ),
  λ _. refl,
)

pub returns-clause-moves : goal.returns-clause-moves
returns-clause-moves c =
    λ _. subst (λ (o : Option Row).
    IfSome o (λ r. shown_net c.link_at_front.new.links c.link_at_front.new.nodes
    ≡ with_head c.args.self.now c.args.arc r c.args.head))
    (sym (row c)) (moves c).is

pub returns-clause-counts : goal.returns-clause-counts
returns-clause-counts c = (moves c).counts

pub returns-clause-others : goal.returns-clause-others
returns-clause-others c = (moves c).others

pub returns-clause-net : goal.returns-clause-net
returns-clause-net c = (moves c).net

pub returns-then-eq-clause-allowed : goal.returns-then-eq-clause-allowed
returns-then-eq-clause-allowed c =
    let parts =
    and_parts (c.tail.result.id.place == c.args.head.id.place) (c.tail.result.id.stamp == c.args.head.id.stamp)
    (sym c.eq.ensures ∙ c.if-eq.true) in
    let same : c.tail.result ≡ c.args.head =
    ap₂ (λ (p t : ℕ). let made : NodeId = record { id = record { place = p; stamp = t } } in made)
    (eqb-true c.tail.result.id.place c.args.head.id.place parts.0)
    (eqb-true c.tail.result.id.stamp c.args.head.id.stamp parts.1) in (
      λ e. absurd (false≢true e),
      λ h.
          absurd (tail-other (row_at c.args.self.now c.args.arc) c.in-Some.link.row c.args.head
          (row-found c.self.inside.links c.self.inside.nodes c.args.self.now c.args.arc c.in-Some.link c.self.view_is
          (sym c.get.ensures.value ∙ sym c.in-Some.ensures))
          h.1 (sym c.tail.ensures.value ∙ same)),
    )

pub returns-in_default-clause-allowed : goal.returns-in_default-clause-allowed
returns-in_default-clause-allowed c = (
  λ e. absurd (false≢true e),
  λ h. absurd (tail-none (row_at c.args.self.now c.args.arc) c.args.head
      (row-missing c.self.inside.links c.self.inside.nodes c.args.self.now c.args.arc c.self.view_is
      (sym c.get.ensures.value ∙ sym c.in_default.ensures))
      h.1),
)

pub returns-in_default-copied-clause-allowed : goal.returns-in_default-copied-clause-allowed
returns-in_default-copied-clause-allowed c = (
  λ e. absurd (false≢true e),
  λ h. absurd (not-node c.args.self.now c.args.head
      (node-missing c.self.inside.links c.self.inside.nodes c.args.self.now c.args.head c.self.view_is
      (sym c.get-2.ensures.value ∙ sym c.in_default-copied.ensures))
      h.0),
)

pub returns-clause-nodes : goal.returns-clause-nodes
returns-clause-nodes c = (moves c).same_nodes

pub returns-clause-edit : goal.returns-clause-edit
returns-clause-edit c = λ row there _. (moves c).edit row there

pub returns-clause-row : goal.returns-clause-row
returns-clause-row c = λ row there _. (moves c).own row there

pub returns-in_default-clause-moves : goal.returns-in_default-clause-moves
returns-in_default-clause-moves c = λ e. absurd (false≢true e)

pub returns-in_default-clause-counts : goal.returns-in_default-clause-counts
returns-in_default-clause-counts c = record { counted_nodes = refl; counted_arcs = refl }

pub returns-in_default-clause-others : goal.returns-in_default-clause-others
returns-in_default-clause-others c = λ b ne. refl

pub returns-in_default-clause-nodes : goal.returns-in_default-clause-nodes
returns-in_default-clause-nodes c = λ n. (λ h. h, λ h. h)

pub returns-in_default-clause-edit : goal.returns-in_default-clause-edit
returns-in_default-clause-edit c = λ row there e. absurd (false≢true e)

pub returns-in_default-clause-row : goal.returns-in_default-clause-row
returns-in_default-clause-row c = λ row there e. absurd (false≢true e)

pub returns-in_default-clause-unchanged : goal.returns-in_default-clause-unchanged
returns-in_default-clause-unchanged c = λ e. refl

pub returns-in_default-clause-net : goal.returns-in_default-clause-net
returns-in_default-clause-net c = subst IsNet c.self.view_is c.self.invariant.net

pub returns-in_default-clause-net_before : goal.returns-in_default-clause-net_before
returns-in_default-clause-net_before c = subst IsNet c.self.view_is c.self.invariant.net

pub returns-in_default-copied-clause-moves : goal.returns-in_default-copied-clause-moves
returns-in_default-copied-clause-moves c = λ e. absurd (false≢true e)

pub returns-in_default-copied-clause-counts : goal.returns-in_default-copied-clause-counts
returns-in_default-copied-clause-counts c = record { counted_nodes = refl; counted_arcs = refl }

pub returns-in_default-copied-clause-others : goal.returns-in_default-copied-clause-others
returns-in_default-copied-clause-others c = λ b ne. refl

pub returns-in_default-copied-clause-nodes : goal.returns-in_default-copied-clause-nodes
returns-in_default-copied-clause-nodes c = λ n. (λ h. h, λ h. h)

pub returns-in_default-copied-clause-edit : goal.returns-in_default-copied-clause-edit
returns-in_default-copied-clause-edit c = λ row there e. absurd (false≢true e)

pub returns-in_default-copied-clause-row : goal.returns-in_default-copied-clause-row
returns-in_default-copied-clause-row c = λ row there e. absurd (false≢true e)

pub returns-in_default-copied-clause-unchanged : goal.returns-in_default-copied-clause-unchanged
returns-in_default-copied-clause-unchanged c = λ e. refl

pub returns-in_default-copied-clause-net : goal.returns-in_default-copied-clause-net
returns-in_default-copied-clause-net c = subst IsNet c.self.view_is c.self.invariant.net

pub returns-in_default-copied-clause-net_before : goal.returns-in_default-copied-clause-net_before
returns-in_default-copied-clause-net_before c = subst IsNet c.self.view_is c.self.invariant.net

pub returns-then-eq-clause-moves : goal.returns-then-eq-clause-moves
returns-then-eq-clause-moves c = λ e. absurd (false≢true e)

pub returns-then-eq-clause-counts : goal.returns-then-eq-clause-counts
returns-then-eq-clause-counts c = record { counted_nodes = refl; counted_arcs = refl }

pub returns-then-eq-clause-others : goal.returns-then-eq-clause-others
returns-then-eq-clause-others c = λ b ne. refl

pub returns-then-eq-clause-nodes : goal.returns-then-eq-clause-nodes
returns-then-eq-clause-nodes c = λ n. (λ h. h, λ h. h)

pub returns-then-eq-clause-edit : goal.returns-then-eq-clause-edit
returns-then-eq-clause-edit c = λ row there e. absurd (false≢true e)

pub returns-then-eq-clause-row : goal.returns-then-eq-clause-row
returns-then-eq-clause-row c = λ row there e. absurd (false≢true e)

pub returns-then-eq-clause-unchanged : goal.returns-then-eq-clause-unchanged
returns-then-eq-clause-unchanged c = λ e. refl

pub returns-then-eq-clause-net : goal.returns-then-eq-clause-net
returns-then-eq-clause-net c = subst IsNet c.self.view_is c.self.invariant.net

pub returns-then-eq-clause-net_before : goal.returns-then-eq-clause-net_before
returns-then-eq-clause-net_before c = subst IsNet c.self.view_is c.self.invariant.net

pub returns-clause-unchanged : goal.returns-clause-unchanged
returns-clause-unchanged c = λ e. absurd (false≢true (sym e))

pub returns-clause-net_before : goal.returns-clause-net_before
returns-clause-net_before c = subst IsNet c.self.view_is c.self.invariant.net
