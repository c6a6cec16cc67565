use Rattle.std.proofs.Common.{◌≡◌, ℕ, ◌+◌, ◌<◌, ◌≤◌, ◌^◌, take, length, get_or, ap, ◌∙◌, arith}
use Rattle.firm_rounds.specs.Passes.{PopIs}
use Rattle.firm_rounds.specs.Rounds.{weigh}
use Rattle.firm_rounds.specs.Turning.{weigh_more}
use Rattle.firm_hall.proofs.Shutting.{weigh_part, lengths}
use Rattle.firm_hall.proofs.close.rounds_of.Goals as goal

pub overflow_add-rounds : goal.overflow_add-rounds
overflow_add-rounds c =
    let i = c.loop-i.i in let all = c.args.reports.now in let x = c.index-reports-i.result in
    let g : PopIs → ℕ = λ (r : PopIs). length r.got in
    let most : weigh (λ (r : PopIs). weigh (λ t. 1) r.got) all ≤ 2 ^ 61 =
    c.requires in let inv : c.loop-i.rounds ≡ weigh g (take i all) =
    c.loop-i.invariant in let one : c.count-rounds.result ≡ g (get_or all i x) =
    c.count-rounds.ensures ∙ ap g c.index-reports-i.is in
    let low : i < length all = c.loop-i-test.true in
    let more = weigh_more g i all x low in let part = weigh_part g (i + 1) all in let same = lengths all in
    let fits : c.loop-i.rounds + c.count-rounds.result ≤ 2 ^ 61 = omega arith in omega arith

pub loop-i-preserved : goal.loop-i-preserved
loop-i-preserved c =
    let i = c.loop-i.i in let all = c.args.reports.now in let x = c.index-reports-i.result in
    let g : PopIs → ℕ = λ (r : PopIs). length r.got in
    let inv : c.loop-i.rounds ≡ weigh g (take i all) =
    c.loop-i.invariant in let one : c.count-rounds.result ≡ g (get_or all i x) =
    c.count-rounds.ensures ∙ ap g c.index-reports-i.is in
    let low : i < length all = c.loop-i-test.true in
    let more = weigh_more g i all x low in
    let step : c.loop-i.rounds + c.count-rounds.result ≡ weigh g (take (i + 1) all) = omega arith in step
