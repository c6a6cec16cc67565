use Rattle.std.proofs.Common.{◌≡◌, ℕ, arith, refl, sym, subst}
use Rattle.std.specs.Prelude.{slice_index, IfSome, IfNone}
use Rattle.firm_net.specs.Net.{lists_at}
use Rattle.firm_paths.specs.inner.Spread.{IsFoundBy, IsSpent}
use Rattle.firm_paths.proofs.ArcRows.{as_many_as_counted}
use Rattle.firm_paths.proofs.Looks.{place_value}
use Rattle.firm_paths.proofs.tight.Reach.find.Goals as goal

pub returns-clause-found : goal.returns-clause-found
returns-clause-found c =
    let net = c.args.arcs.now.net.now in
    let at : c.in-Some.place ≡ c.args.to.id.place =
    (place_value c.args.to (lists_at net c.args.to) c.in-Some.place c.in-Some.ensures.value).1 in
    subst (λ (root : ℕ). IfSome c.breadth_first.result (IsFoundBy net (slice_index c.args.arcs.now.prices.now.prices)
    c.args.arcs.now.barred.now root c.breadth_first.new.self.visits.items)) at c.breadth_first.ensures.found

pub returns-clause-none : goal.returns-clause-none
returns-clause-none c =
    let net = c.args.arcs.now.net.now in
    let at : c.in-Some.place ≡ c.args.to.id.place =
    (place_value c.args.to (lists_at net c.args.to) c.in-Some.place c.in-Some.ensures.value).1 in
    subst (λ (root : ℕ). IfNone c.breadth_first.result (IsSpent net (slice_index c.args.arcs.now.prices.now.prices)
    c.args.arcs.now.barred.now root c.breadth_first.new.self.seen.items c.breadth_first.new.self.visits.items)) at
    c.breadth_first.ensures.none

pub breadth_first-requires-clause-root : goal.breadth_first-requires-clause-root
breadth_first-requires-clause-root c =
    let at : c.in-Some.place ≡ c.args.to.id.place =
    (place_value c.args.to (lists_at c.args.arcs.now.net.now c.args.to) c.in-Some.place c.in-Some.ensures.value).1 in
    (c.requires.node, sym at, refl)

pub returns-clause-counts : goal.returns-clause-counts
returns-clause-counts c =
    omega (arith, c.breadth_first.ensures.counts, as_many_as_counted c.args.arcs.now.net.now)
