-- The parts show the net with the arc's flow changed.
use Rattle.std.proofs.Common.{◌+◌, sym, ap, ◌∙◌, refl, subst, Option, is_some}
use Rattle.std.proofs.lemmas.Bool.{false≢true}
use Rattle.firm_arena.specs.Arena.{Arena}
use Rattle.firm_net.specs.Row.{Row}
use Rattle.firm_net.specs.Net.{IsNet, with_unit, without_flow, row_at}
use Rattle.firm_net.specs.Laws.{cleared_pushed}
use Rattle.firm_net.specs.declared.links.Link.{Link}
use Rattle.firm_net.proofs.Edits.{same-edit}
use Rattle.firm_net.proofs.Results.{ChangesRow, changes_row, row-found, row-missing, can-push, push-residual, push-none}
use Rattle.firm_net.proofs.Results.{unit-tail, unit-head, unit-span}
use Rattle.firm_net.proofs.net.Net.push.Goals as goal

changes : (c : goal.After-self-1)
    → ChangesRow c.set_row.new.links c.self.inside.nodes c.args.self.now c.args.arc (with_unit c.args.way)
changes c =
    changes_row c.self.inside.links c.set_row.new.links c.self.inside.nodes c.args.self.now c.args.arc c.in-Some.link
    c.with_unit.result
    (with_unit c.args.way) c.self.invariant.net c.self.invariant.shows c.self.view_is
    (sym c.get.ensures.value ∙ sym c.in-Some.ensures)
    (sym c.with_unit.ensures.unit) c.with_unit.ensures.row
    (ap (λ (r : Row). r.tail) c.with_unit.ensures.unit ∙ unit-tail c.args.way c.in-Some.link.row)
    (ap (λ (r : Row). r.head) c.with_unit.ensures.unit ∙ unit-head c.args.way c.in-Some.link.row)
    c.set_row.ensures

pub invariant_of-self : goal.invariant_of-self
invariant_of-self c =
    record {
      added = c.self.invariant.added
          ∙ ap (λ (l : Arena Link). c.self.inside.nodes.counter + l.counter) (sym c.set_row.ensures);
      net = (changes c).net;
      shows = (changes c).shows;
      clear = λ e. absurd (false≢true e);
    }

pub returns-clause-allowed : goal.returns-clause-allowed
returns-clause-allowed c = (
  λ _.
      can-push c.args.way (row_at c.args.self.now c.args.arc) c.in-Some.link.row
      (row-found c.self.inside.links c.self.inside.nodes c.args.self.now c.args.arc c.in-Some.link c.self.view_is
      (sym c.get.ensures.value ∙ sym c.in-Some.ensures))
      (c.is_residual.ensures.0 c.if-not-is_residual.false),
  λ _. refl,
)

pub returns-clause-pushes : goal.returns-clause-pushes
returns-clause-pushes c = λ _. (changes c).is

pub returns-clause-counts : goal.returns-clause-counts
returns-clause-counts c = (changes c).counts

pub returns-clause-others : goal.returns-clause-others
returns-clause-others c = (changes c).others

pub returns-clause-net : goal.returns-clause-net
returns-clause-net c = (changes c).net

pub returns-then-not-is_residual-clause-allowed : goal.returns-then-not-is_residual-clause-allowed
returns-then-not-is_residual-clause-allowed c = (
  λ e. absurd (false≢true e),
  λ h.
      sym c.if-not-is_residual.true
      ∙ c.is_residual.ensures.1
      (push-residual c.args.way (row_at c.args.self.now c.args.arc) c.in-Some.link.row
      (row-found c.self.inside.links c.self.inside.nodes c.args.self.now c.args.arc c.in-Some.link c.self.view_is
      (sym c.get.ensures.value ∙ sym c.in-Some.ensures))
      h),
)

pub returns-in_default-clause-allowed : goal.returns-in_default-clause-allowed
returns-in_default-clause-allowed c = (
  λ e. absurd (false≢true e),
  λ h.
      absurd (push-none c.args.way (row_at c.args.self.now c.args.arc)
      (row-missing c.self.inside.links c.self.inside.nodes c.args.self.now c.args.arc c.self.view_is
      (sym c.get.ensures.value ∙ sym c.in_default.ensures))
      h),
)

pub returns-clause-edit : goal.returns-clause-edit
returns-clause-edit c = (changes c).blind (λ b row. unit-span c.args.way b row)

pub returns-clause-row : goal.returns-clause-row
returns-clause-row c = λ row there _. (changes c).own row there

pub returns-clause-same : goal.returns-clause-same
returns-clause-same c = ap without_flow (changes c).is ∙ cleared_pushed c.args.self.now c.args.arc c.args.way

pub returns-clause-nodes : goal.returns-clause-nodes
returns-clause-nodes c = (changes c).same_nodes

pub returns-in_default-clause-pushes : goal.returns-in_default-clause-pushes
returns-in_default-clause-pushes c = λ e. absurd (false≢true e)

pub returns-in_default-clause-counts : goal.returns-in_default-clause-counts
returns-in_default-clause-counts c = record { counted_nodes = refl; counted_arcs = refl }

pub returns-in_default-clause-others : goal.returns-in_default-clause-others
returns-in_default-clause-others c = λ b ne. refl

pub returns-in_default-clause-nodes : goal.returns-in_default-clause-nodes
returns-in_default-clause-nodes c = λ n. (λ h. h, λ h. h)

pub returns-in_default-clause-edit : goal.returns-in_default-clause-edit
returns-in_default-clause-edit c = same-edit _ (subst IsNet c.self.view_is c.self.invariant.net)

pub returns-in_default-clause-row : goal.returns-in_default-clause-row
returns-in_default-clause-row c = λ row there e. absurd (false≢true e)

pub returns-in_default-clause-unchanged : goal.returns-in_default-clause-unchanged
returns-in_default-clause-unchanged c = λ e. refl

pub returns-in_default-clause-net : goal.returns-in_default-clause-net
returns-in_default-clause-net c = subst IsNet c.self.view_is c.self.invariant.net

pub returns-in_default-clause-net_before : goal.returns-in_default-clause-net_before
returns-in_default-clause-net_before c = subst IsNet c.self.view_is c.self.invariant.net

pub returns-in_default-clause-same : goal.returns-in_default-clause-same
returns-in_default-clause-same c = refl

pub returns-then-not-is_residual-clause-pushes : goal.returns-then-not-is_residual-clause-pushes
returns-then-not-is_residual-clause-pushes c = λ e. absurd (false≢true e)

pub returns-then-not-is_residual-clause-counts : goal.returns-then-not-is_residual-clause-counts
returns-then-not-is_residual-clause-counts c = record { counted_nodes = refl; counted_arcs = refl }

pub returns-then-not-is_residual-clause-others : goal.returns-then-not-is_residual-clause-others
returns-then-not-is_residual-clause-others c = λ b ne. refl

pub returns-then-not-is_residual-clause-nodes : goal.returns-then-not-is_residual-clause-nodes
returns-then-not-is_residual-clause-nodes c = λ n. (λ h. h, λ h. h)

pub returns-then-not-is_residual-clause-edit : goal.returns-then-not-is_residual-clause-edit
returns-then-not-is_residual-clause-edit c = same-edit _ (subst IsNet c.self.view_is c.self.invariant.net)

pub returns-then-not-is_residual-clause-row : goal.returns-then-not-is_residual-clause-row
returns-then-not-is_residual-clause-row c = λ row there e. absurd (false≢true e)

pub returns-then-not-is_residual-clause-unchanged : goal.returns-then-not-is_residual-clause-unchanged
returns-then-not-is_residual-clause-unchanged c = λ e. refl

pub returns-then-not-is_residual-clause-net : goal.returns-then-not-is_residual-clause-net
returns-then-not-is_residual-clause-net c = subst IsNet c.self.view_is c.self.invariant.net

pub returns-then-not-is_residual-clause-net_before : goal.returns-then-not-is_residual-clause-net_before
returns-then-not-is_residual-clause-net_before c = subst IsNet c.self.view_is c.self.invariant.net

pub returns-then-not-is_residual-clause-same : goal.returns-then-not-is_residual-clause-same
returns-then-not-is_residual-clause-same c = refl

pub returns-clause-unchanged : goal.returns-clause-unchanged
returns-clause-unchanged c = λ e. absurd (false≢true (sym e))

pub returns-clause-net_before : goal.returns-clause-net_before
returns-clause-net_before c = subst IsNet c.self.view_is c.self.invariant.net

pub set_row-requires : goal.set_row-requires
set_row-requires c = ap (λ (o : Option Link). is_some o) (sym c.get.ensures.value ∙ sym c.in-Some.ensures)
