use Rattle.std.proofs.Common.{◌≡◌, ◌+◌, ◌*◌, ◌^◌, ◌<◌, ◌≤◌, ℕ, suc, List, length, refl, sym, ap, subst, ◌∙◌}
use Rattle.std.proofs.Common.{arith}
use Rattle.std.proofs.lemmas.List.{take_all}
use borrow.Author.Count.{falls}
use Rattle.firm_rules.specs.Placement.{load, load_cost, total}
use Rattle.firm_rules.specs.declared.rounds.Choice.{Choice}
use Rattle.firm_rules.proofs.RunningCosts.{load-few}
use Rattle.firm_rules.proofs.cases.Case.cost_of_loads.Goals as goal

within : (place count : ℕ) → place < count → count ≤ 4096 → place < 4096
within place count there few = omega (arith, there, few)

-- no machine has more tasks than there are
few-there : (placement : List Choice) (place tasks : ℕ) → length placement ≡ tasks → tasks ≤ 4096
    → load placement place ≤ 4096
few-there placement place tasks one_each few =
    omega (
      arith,
      one_each,
      few,
      load-few placement (length placement) place,
      ap (λ (l : List Choice). load l place) (take_all (length placement) placement (omega arith)),
    )

pub bounds-loads-place : goal.bounds-loads-place
bounds-loads-place g c =
    within c.loop-place.place c.machine_count-place-end.result c.loop-place-test.true
    c.machine_count-place-end.ensures.few

pub cost_of_load-cost-requires-clause-least_spread : goal.cost_of_load-cost-requires-clause-least_spread
cost_of_load-cost-requires-clause-least_spread g c = c.spread-spread.ensures.most

pub cost_of_load-cost-requires-clause-few_tasks : goal.cost_of_load-cost-requires-clause-few_tasks
cost_of_load-cost-requires-clause-few_tasks g c =
    let placement = c.args.placement.now in
    let place = c.loop-place.place in
    let inside : place < 4096 =
    within place c.machine_count-place-end.result c.loop-place-test.true c.machine_count-place-end.ensures.few in
    subst (λ n. n ≤ 4096) (sym (c.from.ensures ∙ c.loads_of-loads.ensures place inside))
    (few-there placement place c.task_count.result (c.requires ∙ sym c.task_count.ensures.count)
    c.task_count.ensures.few)

-- the cost of one more machine
more : (f : ℕ → ℕ) (place cost one after : ℕ) → cost ≡ total f place → one ≡ f place → after ≡ cost + one
    → after ≡ total f (place + 1)
more f place cost one after so_far here is =
    let next : suc place ≡ place + 1 = omega arith in
    is ∙ ap (λ n. n + one) so_far ∙ ap (λ n. total f place + n) here ∙ ap (total f) next

most : (place cost one : ℕ) → cost ≤ place * 8589934592 → one ≤ 2 ^ 33 → cost + one ≤ (place + 1) * 8589934592
most place cost one so_far here = omega (arith, so_far, here)

pub loop-place-preserved : goal.loop-place-preserved
loop-place-preserved g c =
    let spread = c.args.self.now.spread in
    let place = c.loop-place.place in
    let cost = c.loop-place.cost in
    let one = c.cost_of_load-cost.result in
    let inside : place < 4096 =
    within place c.machine_count-place-end.result c.loop-place-test.true c.machine_count-place-end.ensures.few in (
      more (λ j. load_cost spread (load c.args.placement.now j)) place cost one (cost + one)
          c.loop-place.invariant.0
          (c.cost_of_load-cost.ensures.cost ∙ ap (λ n. load_cost n c.from.result) c.spread-spread.ensures.spread
          ∙ ap (load_cost spread) (c.from.ensures ∙ c.loads_of-loads.ensures place inside)) refl,
      most place cost one c.loop-place.invariant.1 c.cost_of_load-cost.ensures.most,
    )

pub loop-place-smaller : goal.loop-place-smaller
loop-place-smaller g c = falls c.machine_count-place-end.result c.loop-place.place c.loop-place-test.true
