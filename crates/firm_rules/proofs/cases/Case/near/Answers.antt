use Rattle.std.proofs.Common.{◌≡◌, ◌<◌, ◌≤◌, ◌+◌, ◌++◌, ◌∷◌, ℕ, List, [], length, get_or, take, sym, ap, subst, ◌∙◌}
use Rattle.std.proofs.Common.{append_assoc, arith}
use Rattle.std.proofs.lemmas.List.{take_all, take_more}
use Rattle.std.proofs.lemmas.List.Elements.{All-push}
use Rattle.std.specs.List.{All}
use Rattle.std.specs.Option.{option_to_list}
use Rattle.firm_rules.specs.ChoiceCost.{near}
use Rattle.firm_rules.specs.Placement.{Demand as RoundDemand, task_at}
use Rattle.firm_rules.specs.inner.Demands.{seen}
use Rattle.firm_rules.specs.declared.demands.Demand.{Demand}
use Rattle.firm_rules.proofs.cases.Case.near.Goals as goal

small : 32 < 9223372036854775808
small = omega arith

-- there is room for all
room : (it : Demand) (task : RoundDemand) (own now i : ℕ) (places : List ℕ) → seen it ≡ task → own ≤ 1
    → own ≡ length (option_to_list it.home) → places ≡ it.preferred.items → length it.preferred.items ≤ 4
    → i < length places → now ≡ length (option_to_list task.home) + i → now < 5
room it task own now i places is few counted all least below count =
    let home : length (option_to_list it.home) ≡ length (option_to_list task.home) =
    ap (λ (d : RoundDemand). length (option_to_list d.home)) is in
    let long : length places ≡ length it.preferred.items = ap (λ (l : List ℕ). length l) all in
    omega (arith, few, counted, home, long, least, below, count)

next : (now before own i : ℕ) → now ≡ before + 1 → before ≡ own + i → now ≡ own + (i + 1)
next now before own i more is = omega (arith, more, is)

-- one more place
grown : (own places now new : List ℕ) (i : ℕ) → i < length places → new ≡ now ++ get_or places i 0 ∷ []
    → now ≡ own ++ take i places → new ≡ own ++ take (i + 1) places
grown own places now new i below more is =
    more ∙ ap (λ (l : List ℕ). l ++ get_or places i 0 ∷ []) is
    ∙ append_assoc own (take i places) (get_or places i 0 ∷ [])
    ∙ ap (λ (l : List ℕ). own ++ l) (sym (take_more places i 0 below))

inside : (machines : ℕ) (preferred places now new : List ℕ) (i : ℕ) → All (λ place. place < machines) preferred
    → places ≡ preferred → i < length places → new ≡ now ++ get_or places i 0 ∷ []
    → All (λ place. place < machines) now → All (λ place. place < machines) new
inside machines preferred places now new i all is below more before =
    let P : ℕ → Type 0 = λ place. place < machines in
    subst (All P) (sym more)
    (All-push P now (get_or places i 0) before (subst (All P) (sym is) all i 0 below))

whole : (it : Demand) (task : RoundDemand) (places now : List ℕ) (i : ℕ) → seen it ≡ task
    → places ≡ it.preferred.items → length places ≤ i → now ≡ option_to_list task.home ++ take i places
    → now ≡ near task
whole it task places now i is all past made =
    let same : places ≡ task.preferred = all ∙ ap (λ (d : RoundDemand). d.preferred) is in
    made ∙ ap (λ (l : List ℕ). option_to_list task.home ++ l) (take_all i places past ∙ same)

pub push-requires : goal.push-requires
push-requires g c = (
  small,
  room c.demand-demand.result.now (task_at c.args.self.now c.args.task) (length c.own_place-near.result.items)
      (length c.loop-place.near.items) c.loop-place.place-index c.as_slice-place-items.result.now
      c.demand-demand.ensures.seen c.own_place-near.ensures.few c.own_place-near.ensures.count
      c.as_slice-place-items.ensures.value c.demand-demand.ensures.fits.few c.loop-place-test.true
      c.loop-place.invariant.count,
)

pub loop-place-preserved : goal.loop-place-preserved
loop-place-preserved g c =
    let places : List ℕ = c.as_slice-place-items.result.now in
    let own : List ℕ = option_to_list (task_at c.args.self.now c.args.task).home in
    record {
      count = next (length c.push.new.self.items) (length c.loop-place.near.items) (length own)
          c.loop-place.place-index c.push.ensures.len c.loop-place.invariant.count;
      items = grown own places c.loop-place.near.items c.push.new.self.items c.loop-place.place-index
          c.loop-place-test.true c.push.ensures.items c.loop-place.invariant.items;
      below = inside (length c.args.self.now.slots) c.demand-demand.result.now.preferred.items places
          c.loop-place.near.items c.push.new.self.items c.loop-place.place-index
          c.demand-demand.ensures.fits.preferred c.as_slice-place-items.ensures.value c.loop-place-test.true
          c.push.ensures.items c.loop-place.invariant.below;
    }

pub returns-clause-places : goal.returns-clause-places
returns-clause-places g c =
    whole c.demand-demand.result.now (task_at c.args.self.now c.args.task) c.as_slice-place-items.result.now
    c.loop-place.near.items c.loop-place.place-index c.demand-demand.ensures.seen
    c.as_slice-place-items.ensures.value c.loop-place-test.false c.loop-place.invariant.items
