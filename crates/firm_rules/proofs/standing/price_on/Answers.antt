use Rattle.std.proofs.Common.{ℕ, List, ◌≡◌, ◌-◌, slice_index, ap, ◌∙◌, arith}
use Rattle.firm_rules.specs.Book.{running_on}
use Rattle.firm_rules.specs.Limits.{TenantLimits}
use Rattle.firm_rules.specs.Placement.{slot_cost}
use Rattle.firm_rules.specs.SoundBook.{highest}
use Rattle.firm_rules.specs.inner.Bids.{near_bid}
use Rattle.firm_rules.proofs.NearBids.{priced}
use Rattle.firm_rules.proofs.standing.price_on.Goals as goal

pub returns : goal.returns
returns c =
    let rows = c.args.rows.now in
    let machine : List ℕ = c.args.machine in
    let load : ℕ = running_on rows machine in
    let named = c.in-Some.ensures.named in
    let many : c.saturating_sub.result ≡ load - 1 =
    omega (
      arith,
      c.saturating_sub.ensures,
      c.from.ensures,
      c.requires.loads c.in-Some.place c.in-Some.ensures.below ∙ ap (running_on rows) named,
    ) in
    omega (
      arith,
      c.max-2.ensures,
      c.max.ensures,
      priced rows machine load c.slot_cost-slot.result c.args.wide (slice_index c.args.near.now c.in-Some.place)
          (c.slot_cost-slot.ensures.cost ∙ ap (slot_cost c.spread.result) many
          ∙ ap (λ (spread : ℕ). slot_cost spread (load - 1)) c.spread.ensures.value
          ∙ ap (λ (limits : TenantLimits). slot_cost limits.spread (load - 1)) c.limits-limits.ensures.limits)
          c.requires.wide
          (c.requires.near c.in-Some.place c.in-Some.ensures.below
          ∙ ap (λ (n : List ℕ). highest (near_bid rows n) rows.tasks) named),
    )
