-- The parts show the net with the arc's numbers changed, or as it was.
use Rattle.std.proofs.Common.{◌≡◌, Option, Some, is_some, sym, ap, ◌∙◌, subst, refl}
use Rattle.std.proofs.lemmas.Bool.{false≢true}
use Rattle.firm_arena.specs.Arena.{Arena, find, with_value}
use Rattle.firm_arena.specs.Changes.{changed_at-with_value}
use Rattle.firm_net.specs.Row.{Row}
use Rattle.firm_net.specs.Net.{Net, IsNet, row_at, with_numbers}
use Rattle.firm_net.specs.inner.Inside.{IsSound}
use Rattle.firm_net.specs.inner.Links.{with_link_row}
use Rattle.firm_net.specs.declared.links.Link.{Link}
use Rattle.firm_net.specs.declared.net.Net.TheInside.{Inside}
use Rattle.firm_net.proofs.Shown.{shown_net}
use Rattle.firm_net.proofs.Results.{ChangesRow, changes_row, written-back, row-found, row-missing, same-counts}
use Rattle.firm_net.proofs.Results.{same-nodes}
use Rattle.firm_net.proofs.net.Net.set.Goals as goal

changes : (c : goal.After-self-3-1)
    → ChangesRow (with_value c.self.inside.links c.args.arc.id
    (with_link_row c.set_numbers.new.self c.in-Some.link.now)) c.self.inside.nodes c.args.self.now c.args.arc
    (with_numbers c.args.low c.args.cap c.args.cost c.args.flow)
changes c =
    let links : Arena Link = c.self.inside.links in
    let link : Link = c.in-Some.link.now in
    let row : Row = c.set_numbers.new.self in
    let found : find links c.args.arc.id ≡ Some link = sym c.in-Some.ensures.value in
    let is : row ≡ with_numbers c.args.low c.args.cap c.args.cost c.args.flow link.row =
    c.set_numbers.ensures.sets c.if-not-set_numbers.false in
    changes_row links (with_value links c.args.arc.id (with_link_row row link)) c.self.inside.nodes c.args.self.now
    c.args.arc link row (with_numbers c.args.low c.args.cap c.args.cost c.args.flow) c.self.invariant.net
    c.self.invariant.shows c.self.view_is found (sym is) c.set_numbers.ensures.row (ap (λ (r : Row). r.tail) is)
    (ap (λ (r : Row). r.head) is) (changed_at-with_value links c.args.arc.id link (with_link_row row) found)

-- a refused row is written back as it was
kept : (c : goal.Then-not-set_numbers)
    → with_value c.self.inside.links c.args.arc.id (with_link_row c.set_numbers.new.self c.in-Some.link.now)
    ≡ c.self.inside.links
kept c =
    ap (λ (r : Row). with_value c.self.inside.links c.args.arc.id (with_link_row r c.in-Some.link.now))
    (c.set_numbers.ensures.unchanged c.if-not-set_numbers.true)
    ∙ written-back c.self.inside.links c.args.arc.id c.in-Some.link.now (sym c.in-Some.ensures.value)

same : (c : goal.Then-not-set_numbers)
    → shown_net (with_value c.self.inside.links c.args.arc.id
    (with_link_row c.set_numbers.new.self c.in-Some.link.now)) c.self.inside.nodes ≡ c.args.self.now
same c = ap (λ (l : Arena Link). shown_net l c.self.inside.nodes) (kept c) ∙ c.self.view_is

pub invariant_of-self-2 : goal.invariant_of-self-2
invariant_of-self-2 c =
    record {
      added = c.self.invariant.added;
      net = (changes c).net;
      shows = (changes c).shows;
      clear = λ e. absurd (false≢true e);
    }

pub returns-clause-sets : goal.returns-clause-sets
returns-clause-sets c = λ _. (changes c).is

pub returns-clause-row : goal.returns-clause-row
returns-clause-row c = λ row there _. (changes c).own row there

pub returns-clause-counts : goal.returns-clause-counts
returns-clause-counts c = (changes c).counts

pub returns-clause-others : goal.returns-clause-others
returns-clause-others c = (changes c).others

pub returns-clause-edit : goal.returns-clause-edit
returns-clause-edit c = λ row there _. (changes c).edit row there

pub returns-clause-net : goal.returns-clause-net
returns-clause-net c = (changes c).net

pub invariant_of-self-then-not-set_numbers : goal.invariant_of-self-then-not-set_numbers
invariant_of-self-then-not-set_numbers c =
    subst (λ (l : Arena Link). let inside : Inside =
    record { nodes = c.self.inside.nodes; links = l; added = c.self.inside.added; clear = c.self.inside.clear } in
    IsSound inside)
    (sym (kept c)) c.self.invariant

pub returns-then-not-set_numbers-clause-unchanged : goal.returns-then-not-set_numbers-clause-unchanged
returns-then-not-set_numbers-clause-unchanged c = λ _. same c

pub returns-then-not-set_numbers-clause-others : goal.returns-then-not-set_numbers-clause-others
returns-then-not-set_numbers-clause-others c = λ b _. ap (λ (n : Net). row_at n b) (same c)

pub returns-then-not-set_numbers-clause-net : goal.returns-then-not-set_numbers-clause-net
returns-then-not-set_numbers-clause-net c =
    subst (λ (l : Arena Link). IsNet (shown_net l c.self.inside.nodes)) (sym (kept c)) c.self.invariant.net

pub returns-in_default-clause-sets : goal.returns-in_default-clause-sets
returns-in_default-clause-sets c = λ e. absurd (false≢true e)

pub returns-in_default-clause-counts : goal.returns-in_default-clause-counts
returns-in_default-clause-counts c = same-counts _ _ c.self.view_is

pub returns-in_default-clause-others : goal.returns-in_default-clause-others
returns-in_default-clause-others c = λ b ne. ap (λ (n : Net). row_at n b) c.self.view_is

pub returns-in_default-clause-nodes : goal.returns-in_default-clause-nodes
returns-in_default-clause-nodes c = same-nodes _ _ c.self.view_is

pub returns-in_default-clause-edit : goal.returns-in_default-clause-edit
returns-in_default-clause-edit c = λ row there e. absurd (false≢true e)

pub returns-in_default-clause-row : goal.returns-in_default-clause-row
returns-in_default-clause-row c = λ row there e. absurd (false≢true e)

pub returns-in_default-clause-unchanged : goal.returns-in_default-clause-unchanged
returns-in_default-clause-unchanged c = λ e. c.self.view_is

pub returns-in_default-clause-net : goal.returns-in_default-clause-net
returns-in_default-clause-net c = c.self.invariant.net

pub returns-in_default-clause-net_before : goal.returns-in_default-clause-net_before
returns-in_default-clause-net_before c = subst IsNet c.self.view_is c.self.invariant.net

pub returns-then-not-set_numbers-clause-sets : goal.returns-then-not-set_numbers-clause-sets
returns-then-not-set_numbers-clause-sets c = λ e. absurd (false≢true e)

pub returns-then-not-set_numbers-clause-row : goal.returns-then-not-set_numbers-clause-row
returns-then-not-set_numbers-clause-row c = λ row there e. absurd (false≢true e)

pub returns-then-not-set_numbers-clause-edit : goal.returns-then-not-set_numbers-clause-edit
returns-then-not-set_numbers-clause-edit c = λ row there e. absurd (false≢true e)

pub returns-then-not-set_numbers-clause-net_before : goal.returns-then-not-set_numbers-clause-net_before
returns-then-not-set_numbers-clause-net_before c = subst IsNet c.self.view_is c.self.invariant.net

pub returns-then-not-set_numbers-clause-counts : goal.returns-then-not-set_numbers-clause-counts
returns-then-not-set_numbers-clause-counts c = same-counts _ _ (same c)

pub returns-then-not-set_numbers-clause-nodes : goal.returns-then-not-set_numbers-clause-nodes
returns-then-not-set_numbers-clause-nodes c = same-nodes _ _ (same c)

pub returns-then-not-set_numbers-clause-allowed : goal.returns-then-not-set_numbers-clause-allowed
returns-then-not-set_numbers-clause-allowed c = (
  λ e. absurd (false≢true e),
  λ h. sym c.if-not-set_numbers.true ∙ c.set_numbers.ensures.allowed.1 h.1,
)

pub returns-clause-unchanged : goal.returns-clause-unchanged
returns-clause-unchanged c = λ e. absurd (false≢true (sym e))

pub returns-clause-net_before : goal.returns-clause-net_before
returns-clause-net_before c = subst IsNet c.self.view_is c.self.invariant.net

pub returns-clause-nodes : goal.returns-clause-nodes
returns-clause-nodes c = (changes c).same_nodes

pub returns-clause-allowed : goal.returns-clause-allowed
returns-clause-allowed c = (
  λ _. (
    ap (λ (o : Option Row). is_some o)
        (row-found c.self.inside.links c.self.inside.nodes c.args.self.now c.args.arc c.in-Some.link.now c.self.view_is
        (sym c.in-Some.ensures.value)),
    c.set_numbers.ensures.allowed.0 c.if-not-set_numbers.false,
  ),
  λ _. refl,
)

pub returns-in_default-clause-allowed : goal.returns-in_default-clause-allowed
returns-in_default-clause-allowed c = (
  λ e. absurd (false≢true e),
  λ h. absurd (false≢true
      (sym (ap (λ (o : Option Row). is_some o)
      (row-missing c.self.inside.links c.self.inside.nodes c.args.self.now c.args.arc c.self.view_is
      (sym c.in_default.ensures.value)))
      ∙ h.0)),
)
