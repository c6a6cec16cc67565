use Rattle.std.proofs.Common.{◌∙◌, ◌<◌, ℕ, List, [], length, arith, ap, rules, sym, subst}
use Rattle.std.specs.Prelude.{slice_index, IfSome}
use Rattle.firm_paths.specs.Paths.{IsTightPath}
use Rattle.firm_paths.specs.Visits.{visit}
use Rattle.firm_paths.specs.Workspace.{Workspace}
use Rattle.firm_paths.specs.inner.Search.{IsPredecessor}
use Rattle.firm_paths.specs.inner.Walk.{LeadsTo}
use Rattle.firm_paths.specs.declared.search.Visit.{Visit}
use Rattle.firm_paths.proofs.Trees.{in_order}
use Rattle.firm_paths.proofs.shortest.raise.Goals as goal

pub find_shortest-found-requires-clause-length : goal.find_shortest-found-requires-clause-length
find_shortest-found-requires-clause-length c = (
  omega (arith, c.places-places.ensures.limit, ap (λ (l : ℕ × ℕ). l.0) c.requires.made_for.0),
  omega (
    arith,
    c.scratch.invariant.0,
    ap (λ (w : Workspace). w.limits.0) c.scratch.view_is,
    ap (λ (l : ℕ × ℕ). l.0) c.requires.made_for.1,
  ),
)

pub find_shortest-found-requires-clause-capacity : goal.find_shortest-found-requires-clause-capacity
find_shortest-found-requires-clause-capacity c =
    omega (
      arith,
      c.scratch.invariant.4,
      ap (λ (w : Workspace). w.limits.0) c.scratch.view_is,
      ap (λ (l : ℕ × ℕ). l.0) c.requires.made_for.1,
    )

pub find_shortest-found-requires-clause-idle : goal.find_shortest-found-requires-clause-idle
find_shortest-found-requires-clause-idle c = c.scratch.invariant.2

pub find_shortest-found-requires-clause-valid : goal.find_shortest-found-requires-clause-valid
find_shortest-found-requires-clause-valid c = c.requires.valid

pub walk_back-requires-clause-order : goal.walk_back-requires-clause-order
walk_back-requires-clause-order c =
    let vs = c.find_shortest-found.new.self.visits.items in
    let price = slice_index c.find_shortest-found.new.prices.prices in
    let from = c.args.from.id.place in
    let tree = c.in-Some.ensures.found.1.tree in
    subst (λ (z : List Visit). (i : ℕ) → i < length z → IfSome (visit z i).predecessor (λ h. h.after < i))
    (sym c.deref.ensures.value)
    (λ i l. in_order (IsPredecessor c.args.net.now price []) vs from i (visit vs i).predecessor (tree.predecessors i l))

pub walk_back-requires-clause-room : goal.walk_back-requires-clause-room
walk_back-requires-clause-room c =
    omega (
      arith,
      ap (λ (z : List Visit). length z) c.deref.ensures.value,
      c.in-Some.ensures.few,
      c.scratch.invariant.6,
      ap (λ (w : Workspace). w.limits.0) c.scratch.view_is,
      ap (λ (l : ℕ × ℕ). l.0) c.requires.made_for.1,
    )

pub invariant_of-scratch : goal.invariant_of-scratch
invariant_of-scratch c = (
  c.find_shortest-found.ensures.size ∙ c.scratch.invariant.0,
  c.scratch.invariant.1,
  c.find_shortest-found.ensures.idle,
  c.scratch.invariant.3,
  omega (arith, c.scratch.invariant.4, c.find_shortest-found.ensures.capacity),
  c.scratch.invariant.5,
  c.scratch.invariant.6,
  c.scratch.invariant.7,
  c.scratch.invariant.8,
)

pub invariant_of-scratch-2 : goal.invariant_of-scratch-2
invariant_of-scratch-2 c = (
  c.find_shortest-found.ensures.size ∙ c.scratch.invariant.0,
  c.scratch.invariant.1,
  c.find_shortest-found.ensures.idle,
  c.scratch.invariant.3,
  omega (arith, c.scratch.invariant.4, c.find_shortest-found.ensures.capacity),
  c.scratch.invariant.5,
  omega (arith, c.scratch.invariant.6, c.walk_back.ensures.capacity),
  c.scratch.invariant.7,
  c.scratch.invariant.8,
)

pub returns : goal.returns
returns c =
    let net = c.args.net.now in
    let price = slice_index c.find_shortest-found.new.prices.prices in
    let from = c.args.from.id.place in
    let end = c.in-Some.end in
    let raised = c.in-Some.ensures.found.0 in
    let reached = c.in-Some.ensures.found.1 in
    let leads : LeadsTo c.find_shortest-found.new.self.visits.items end c.walk_back.new.steps.items =
    subst (λ (z : List Visit). LeadsTo z end c.walk_back.new.steps.items) c.deref.ensures.value
    c.walk_back.ensures.path in (
      search rules,
      record {
        rests = tt;
        limits = c.find_shortest-found.ensures.limits;
        valid = raised.valid;
        highest = raised.highest;
        rises = raised.rises;
        bound = raised.bound;
        path = rw c.deref-2.ensures.value
            (subst (λ (t : ℕ). IsTightPath net price from t c.walk_back.new.steps.items) reached.last.1
            (leads net price [] from reached.tree).0);
        unchanged = tt;
        none = tt;
      },
    )
