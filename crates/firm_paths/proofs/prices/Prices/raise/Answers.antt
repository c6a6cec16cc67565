use Rattle.std.proofs.Common.{◌≡◌, ◌∙◌, ℕ, ◌+◌, ◌-◌, ◌<◌, ◌≤◌, List, length, arith, ap, sym, subst}
use Rattle.std.specs.Prelude.{slice_index}
use Rattle.std.specs.Vec.{with_items}
use Rattle.std.proofs.lemmas.List.{with_items_is, length-map}
use Rattle.firm_paths.specs.inner.Search.{AreRaised}
use Rattle.firm_paths.specs.PriceTable.{PriceTable}
use Rattle.firm_paths.proofs.Offsets.{below, below_at, raised_below}
use Rattle.firm_paths.proofs.prices.Prices.raise.Goals as goal

pub returns-clause-raises : goal.returns-clause-raises
returns-clause-raises c =
    let new : List ℕ = c.raise_table.new.less in
    let base : ℕ = c.at.result + c.args.distance in
    let value : c.deref_mut.result.now ≡ c.self.inside.less.items = c.deref_mut.ensures.value in
    let size : length c.deref_mut.result.now ≡ length c.self.inside.less.items = ap (λ (z : List ℕ). length z) value in
    let at : (v : ℕ) → slice_index c.deref_mut.result.now v ≡ slice_index c.self.inside.less.items v =
    λ v. ap (λ (z : List ℕ). slice_index z v) value in
    let items : (with_items c.self.inside.less new).items ≡ new =
    with_items_is c.self.inside.less new
    (omega (arith, c.raise_table.auto.less, size, c.self.inside.less.ok.0)) in
    let before : below c.self.inside.base c.self.inside.less.items ≡ c.args.self.now.prices =
    ap (λ (p : PriceTable). p.prices) c.self.view_is in
    let listed : c.args.goal < length c.self.inside.less.items =
    omega (
      arith,
      c.requires.goal,
      ap (λ (z : List ℕ). length z) before,
      length-map c.self.inside.less.items (λ (l : ℕ). c.self.inside.base - l),
    ) in
    let price : c.at.result ≡ c.self.inside.base - slice_index c.self.inside.less.items c.args.goal =
    c.at.ensures ∙ (ap (λ (z : List ℕ). slice_index z c.args.goal) (sym before)
    ∙ below_at c.self.inside.base c.self.inside.less.items c.args.goal listed) in
    subst (λ (z : List ℕ). AreRaised z c.args.states.now c.args.goal c.args.distance (below base
    (with_items c.self.inside.less new).items))
    before
    (subst (λ (z : List ℕ).
    AreRaised (below c.self.inside.base c.self.inside.less.items) c.args.states.now c.args.goal c.args.distance
    (below base z))
    (sym items)
    (raised_below c.self.inside.base base c.args.distance c.args.goal c.self.inside.less.items new c.args.states.now
    (omega (arith, c.raise_table.auto.less, size)) listed c.self.invariant.1
    (λ v l s low.
    c.raise_table.ensures.settled v (omega (arith, l, size)) s (omega (arith, low, price)))
    (λ v l s low. omega (
      arith,
      at v,
      price,
      at c.args.goal,
      c.raise_table.ensures.others v (omega (arith, l, size)) s (omega (arith, low, at c.args.goal, at v)),
    ))))

pub invariant_of-self : goal.invariant_of-self
invariant_of-self c =
    let new : List ℕ = c.raise_table.new.less in
    let same : length new ≡ length c.self.inside.less.items =
    omega (arith, c.raise_table.auto.less, ap (λ (z : List ℕ). length z) c.deref_mut.ensures.value) in
    subst (λ (z : List ℕ).
    (length z ≡ c.self.inside.limits.0) × ((v : ℕ) → slice_index z v ≤ c.at.result + c.args.distance))
    (sym (with_items_is c.self.inside.less new (omega (arith, same, c.self.inside.less.ok.0))))
    (same ∙ c.self.invariant.0, c.raise_table.ensures.below)

listed : (c : goal.After-deref_mut) → length c.args.self.now.prices ≡ length c.deref_mut.result.now
listed c =
    omega (
      arith,
      ap (λ (p : PriceTable). length p.prices) c.self.view_is,
      length-map c.self.inside.less.items (λ (l : ℕ). c.self.inside.base - l),
      ap (λ (z : List ℕ). length z) c.deref_mut.ensures.value,
    )

pub raise_table-requires-clause-length : goal.raise_table-requires-clause-length
raise_table-requires-clause-length c = omega (arith, c.requires.length, listed c)

pub raise_table-requires-clause-goal : goal.raise_table-requires-clause-goal
raise_table-requires-clause-goal c = omega (arith, c.requires.goal, listed c)

pub raise_table-requires-clause-below : goal.raise_table-requires-clause-below
raise_table-requires-clause-below c v =
    let at : (v : ℕ) → slice_index c.deref_mut.result.now v ≡ slice_index c.self.inside.less.items v =
    λ v. ap (λ (z : List ℕ). slice_index z v) c.deref_mut.ensures.value in
    let within : c.args.goal < length c.self.inside.less.items =
    omega (arith, c.requires.goal, listed c, ap (λ (z : List ℕ). length z) c.deref_mut.ensures.value) in
    omega (
      arith,
      c.at.ensures,
      ap (λ (p : PriceTable). slice_index p.prices c.args.goal) c.self.view_is,
      below_at c.self.inside.base c.self.inside.less.items c.args.goal within,
      c.self.invariant.1 v,
      c.self.invariant.1 c.args.goal,
      at v,
      at c.args.goal,
    )
