use Rattle.std.proofs.Common.{◌≡◌, ◌-◌, ◌≤◌, ◌++◌, ◌∷◌, [], ℕ, ℤ, List, length, drop, length-append, append_assoc}
use Rattle.std.proofs.Common.{ap, sym, ◌∙◌, arith, rules, to_z, of_z, w64}
use Rattle.std.proofs.lemmas.List.{append-nil}
use Rattle.firm_rules.specs.Recent.{with_cost}
use Rattle.firm_tenant.specs.inner.Pools.{Pool}
use Rattle.firm_tenant.proofs.pools.Pool.recent_costs.Goals as goal

-- one cost of at most 8 more
one_more : (recent rest after costs new : List ℤ) (kept cost : ℤ) → new ≡ with_cost recent kept → kept ≡ cost
    → rest ≡ cost ∷ after → recent ++ rest ≡ costs → length costs ≤ 8 → new ++ after ≡ costs
one_more recent rest after costs new kept cost e same next before few =
    let whole : recent ++ cost ∷ after ≡ costs = ap (λ (xs : List ℤ). recent ++ xs) (sym next) ∙ before in
    let long : length (recent ++ cost ∷ after) ≡ length costs = ap (λ (xs : List ℤ). length xs) whole in
    let none : length (recent ++ cost ∷ []) - 8 ≡ 0 =
    omega (arith, few, long, length-append recent (cost ∷ after), length-append recent (cost ∷ [])) in
    let is : new ≡ recent ++ cost ∷ [] =
    e ∙ (ap (with_cost recent) same ∙ ap (λ (n : ℕ). drop n (recent ++ cost ∷ [])) none) in
    ap (λ (xs : List ℤ). xs ++ after) is ∙ (append_assoc recent (cost ∷ []) after ∙ whole)

pub loop-cost-init : goal.loop-cost-init
loop-cost-init c =
    ap (λ (xs : List ℤ). xs ++ c.into_iter-cost-iterator.result) c.new-recent.ensures
    ∙ (c.into_iter-cost-iterator.ensures.into_iter_gives
    ∙ (c.iter-cost-items.ensures.rest ∙ ap (λ (pool : Pool). pool.costs) c.self.view_is))

pub loop-cost-preserved : goal.loop-cost-preserved
loop-cost-preserved c =
    let same : to_z w64 (of_z w64 c.in-Some.cost.now) ≡ c.in-Some.cost.now = search rules in
    let costs : length c.self.inside.costs.items ≡ length c.args.self.now.costs =
    ap (λ (pool : Pool). length pool.costs) c.self.view_is in
    one_more c.loop-cost.recent c.loop-cost.cost-iterator c.next.new.self c.args.self.now.costs c.push.new.self _ _
    c.push.ensures same c.in-Some.ensures.steps c.loop-cost.invariant
    (omega (arith, costs, c.len.ensures.len, c.if-prove.false))

pub returns : goal.returns
returns c =
    sym (append-nil c.loop-cost.recent)
    ∙ (ap (λ (xs : List ℤ). c.loop-cost.recent ++ xs) (sym c.in-None.ensures.steps.0) ∙ c.loop-cost.invariant)
