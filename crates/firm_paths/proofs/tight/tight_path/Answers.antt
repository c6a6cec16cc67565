use Rattle.std.proofs.Common.{◌≡◌, ◌∙◌, ℕ, Some, ap, arith, refl, sym, subst, rules, List}
use Rattle.std.specs.Prelude.{slice_index, not}
use Rattle.firm_net.specs.Net.{lists_at}
use Rattle.firm_paths.specs.Paths.{IsTightPath}
use Rattle.firm_paths.specs.Visits.{visit, steps_on}
use Rattle.firm_paths.specs.inner.Spread.{is}
use Rattle.firm_paths.specs.declared.search.Visit.{Visit}
use Rattle.firm_paths.proofs.Looks.{place_value}
use Rattle.firm_paths.proofs.Spreading.{spent_cut}
use Rattle.firm_paths.proofs.Trees.{path_to}
use Rattle.firm_paths.proofs.tight.tight_path.Goals as goal

pub invariant_of-scratch : goal.invariant_of-scratch
invariant_of-scratch c = (
  c.scratch.invariant.0,
  c.find-found.ensures.size ∙ c.scratch.invariant.1,
  c.scratch.invariant.2,
  c.find-found.ensures.agree,
  c.scratch.invariant.4,
  omega (arith, c.scratch.invariant.5, c.find-found.ensures.capacity),
  c.scratch.invariant.6,
  c.number_visits.ensures.size ∙ c.scratch.invariant.7,
  c.number_visits.ensures.numbered,
)

pub invariant_of-scratch-2 : goal.invariant_of-scratch-2
invariant_of-scratch-2 c = (
  c.scratch.invariant.0,
  c.find-found.ensures.size ∙ c.scratch.invariant.1,
  c.scratch.invariant.2,
  c.find-found.ensures.agree,
  c.scratch.invariant.4,
  omega (arith, c.scratch.invariant.5, c.find-found.ensures.capacity),
  omega (arith, c.scratch.invariant.6, c.walk_on.ensures.capacity),
  c.number_visits.ensures.size ∙ c.scratch.invariant.7,
  c.number_visits.ensures.numbered,
)

pub returns-in_default-found : goal.returns-in_default-found
returns-in_default-found c =
    let net = c.args.net.now in
    let seen = c.find-found.new.self.seen.items in
    let from : c.in-Some.goal ≡ c.args.from.id.place =
    (place_value c.args.from (lists_at net c.args.from) c.in-Some.goal c.in-Some.ensures.value).1 in (
      search rules,
      record {
        rests = tt;
        path = tt;
        unbarred = tt;
        none = (
          λ u. not (is seen u),
          spent_cut net (slice_index c.args.prices.now.prices) c.args.barred.now c.args.to.id.place seen
              c.find-found.new.self.visits.items c.args.from.id.place c.in_default-found.ensures.none
              (ap (is seen) (sym from) ∙ c.in_default-found.ensures.missed c.in-Some.goal refl),
        );
      },
    )

pub returns : goal.returns
returns c =
    let net = c.args.net.now in
    let price = slice_index c.args.prices.now.prices in
    let vs = c.find-found.new.self.visits.items in
    let start = c.in-Some-found.start in
    let found = c.in-Some-found.ensures.found in
    let way = path_to net price c.args.barred.now vs c.args.to.id.place found.tree start found.listed in
    let from : (visit vs start).place ≡ c.args.from.id.place =
    some_is c.in-Some.goal (visit vs start).place c.in-Some-found.ensures.goal
    ∙ (place_value c.args.from (lists_at net c.args.from) c.in-Some.goal c.in-Some.ensures.value).1 in
    let steps : c.deref-2.result.now ≡ steps_on vs start =
    c.deref-2.ensures.value
    ∙ (c.walk_on.ensures.path ∙ ap (λ (z : List Visit). steps_on z start) c.deref.ensures.value) in (
      search rules,
      record {
        rests = tt;
        path = rw steps (subst (λ (v : ℕ). IsTightPath net price v c.args.to.id.place (steps_on vs start)) from way.0);
        unbarred = rw steps way.1;
        none = tt;
      },
    )
  where
    some_is : (a b : ℕ) → Some a ≡ Some b → b ≡ a
    some_is a b e = cc
