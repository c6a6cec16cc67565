use Rattle.std.proofs.Common.{rules, ◌≡◌, ℕ, List, [], length, map, ap, ◌∙◌, subst, arith, refl}
use Rattle.firm_rounds.specs.Rounds.{weigh}
use Rattle.firm_rounds.specs.Passes.{PopIs, JobIs, spent_pop}
use Rattle.firm_rounds.specs.Closed.{got_weight}
use Rattle.firm_hall.specs.Desks.{spent_desk, spent_place}
use Rattle.firm_hall.specs.Closed.{IsClosed}
use Rattle.firm_hall.proofs.Shutting.{shut_in, few_in, whole_back, spent_weight, nil_of}
use Rattle.firm_hall.proofs.halls.Hall.close.Goals as goal

pub rounds_of-rounds-requires : goal.rounds_of-rounds-requires
rounds_of-rounds-requires g c =
    let all = c.args.reports.items in
    let most =
    few_in c.gather-closing.result.shares c.args.desks.items c.as_mut_slice.result.now c.args.empty.items
    c.as_mut_slice-3.result.now all c.as_mut_slice-2.result.now c.end-jobs.result.items c.as_mut_slice.ensures.value
    c.as_mut_slice-3.ensures.value c.as_mut_slice-2.ensures.value c.gather-closing.ensures.shares c.end-jobs.ensures in
    let now : c.as_slice.result.now ≡ map spent_pop all =
    c.as_slice.ensures.value
    ∙ whole_back spent_pop c.args.reports.len all c.as_mut_slice-2.result.now c.gather-closing.new.reports _
    c.gather-closing.ensures.reports c.as_mut_slice-2.ensures.value (search rules) in
    let same = spent_weight (λ (r : PopIs). weigh (λ t. 1) r.got) (λ r. refl) all in
    let e : got_weight (λ t. 1) c.as_slice.result.now ≡ got_weight (λ t. 1) (map spent_pop all) =
    ap (got_weight (λ t. 1)) now in
    omega (arith, most)

pub returns-then-is_empty : goal.returns-then-is_empty
returns-then-is_empty g c =
    let all = c.args.reports.items in
    let closed =
    shut_in c.gather-closing.result.shares c.args.desks.items c.as_mut_slice.result.now c.args.empty.items
    c.as_mut_slice-3.result.now all c.as_mut_slice-2.result.now c.end-jobs.result.items c.as_mut_slice.ensures.value
    c.as_mut_slice-3.ensures.value c.as_mut_slice-2.ensures.value c.gather-closing.ensures.shares c.end-jobs.ensures in
    let none : c.end-jobs.result.items ≡ [] = nil_of c.end-jobs.result.items (search rules) in
    let now : c.as_slice.result.now ≡ map spent_pop all =
    c.as_slice.ensures.value
    ∙ whole_back spent_pop c.args.reports.len all c.as_mut_slice-2.result.now c.gather-closing.new.reports _
    c.gather-closing.ensures.reports c.as_mut_slice-2.ensures.value (search rules) in
    let g' : PopIs → ℕ = λ (r : PopIs). length r.got in (
      subst (λ (js : List JobIs). IsClosed c.args.desks.items c.args.empty.items all js) none closed,
      c.rounds_of-rounds.ensures
          ∙ (ap (weigh g') now ∙ spent_weight g' (λ r. refl) all),
    )

pub returns : goal.returns
returns g c =
    let all = c.args.reports.items in (
      whole_back spent_desk c.args.desks.len c.args.desks.items c.as_mut_slice.result.now c.gather-closing.new.desks _
          c.gather-closing.ensures.desks c.as_mut_slice.ensures.value (search rules),
      whole_back spent_pop c.args.reports.len all c.as_mut_slice-2.result.now c.gather-closing.new.reports _
          c.gather-closing.ensures.reports c.as_mut_slice-2.ensures.value (search rules),
      whole_back spent_place c.args.empty.len c.args.empty.items c.as_mut_slice-3.result.now c.gather-closing.new.empty
          _
          c.gather-closing.ensures.empty c.as_mut_slice-3.ensures.value (search rules),
      search rules,
      shut_in c.gather-closing.result.shares c.args.desks.items c.as_mut_slice.result.now c.args.empty.items
          c.as_mut_slice-3.result.now all c.as_mut_slice-2.result.now c.end-jobs.result.items
          c.as_mut_slice.ensures.value c.as_mut_slice-3.ensures.value c.as_mut_slice-2.ensures.value
          c.gather-closing.ensures.shares c.end-jobs.ensures,
    )
