use Rattle.std.proofs.Common.{◌≡◌, ℕ, ◌<◌, ◌∙◌, length, arith, ap, refl}
use Rattle.std.specs.Prelude.{slice_index}
use Rattle.std.proofs.lemmas.List.{get_or_default}
use Rattle.firm_net.specs.Net.{lists_at}
use Rattle.firm_paths.specs.PriceTable.{PriceTable}
use Rattle.firm_paths.proofs.Looks.{place_value}
use Rattle.firm_paths.proofs.Offsets.{below_at}
use Rattle.firm_paths.proofs.prices.Prices.get.Goals as goal

listed : (c : goal.After-self) → c.in_ok-place.place < length c.self.inside.less.items
listed c =
    omega (
      arith,
      c.in_ok-place.ensures.below,
      c.self.invariant.0,
      ap (λ (p : PriceTable). p.limits.0) c.self.view_is,
      ap (λ (l : ℕ × ℕ). l.0) c.requires,
    )

pub index-requires : goal.index-requires
index-requires c = omega (arith, listed c, c.self.inside.less.ok.0)

pub overflow_sub-result : goal.overflow_sub-result
overflow_sub-result c =
    let place : ℕ = c.in_ok-place.place in
    let within : place < length c.self.inside.less.items =
    omega (
      arith,
      c.in_ok-place.ensures.below,
      c.self.invariant.0,
      ap (λ (p : PriceTable). p.limits.0) c.self.view_is,
      ap (λ (l : ℕ × ℕ). l.0) c.requires,
    ) in
    let here : c.index.result.now ≡ slice_index c.self.inside.less.items place =
    c.index.ensures ∙ get_or_default c.self.inside.less.items place _ _ within in
    omega (arith, here, c.self.invariant.1 place)

pub returns-clause-price : goal.returns-clause-price
returns-clause-price c =
    let less = c.self.inside.less.items in
    let place : ℕ = c.in_ok-place.place in
    let within : place < length less =
    omega (
      arith,
      c.in_ok-place.ensures.below,
      c.self.invariant.0,
      ap (λ (p : PriceTable). p.limits.0) c.self.view_is,
      ap (λ (l : ℕ × ℕ). l.0) c.requires,
    ) in
    let here : c.index.result.now ≡ slice_index less place = c.index.ensures ∙ get_or_default less place _ _ within in
    let at : place ≡ c.args.node.id.place =
    (place_value c.args.node (lists_at c.args.net.now c.args.node) place c.in_ok-place.ensures.value).1 in
    omega (
      arith,
      here,
      below_at c.self.inside.base less place within,
      ap (λ (p : PriceTable). slice_index p.prices place) c.self.view_is,
      ap (slice_index c.args.self.now.prices) at,
    )

pub returns-clause-there : goal.returns-clause-there
returns-clause-there c = (λ _. c.in_ok-place.ensures.there.0 refl, λ _. refl)
