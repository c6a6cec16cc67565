use Rattle.std.proofs.Common.{◌≡◌, ◌<◌, List, length, get_or, set, ap, ◌∙◌}
use Rattle.firm_rounds.specs.Passes.{PopIs, ClosingIs, spent_pop}
use Rattle.firm_rounds.specs.Turning.{turned, turned_at, turned_set}
use Rattle.firm_hall.proofs.Shutting.{gave_more}
use Rattle.firm_hall.proofs.close.give_reports.Goals as goal

pub loop-i-preserved : goal.loop-i-preserved
loop-i-preserved c =
    let i = c.loop-i.i in let init = c.args.reports.now in let x = c.index-reports-i.result in let inv =
    c.loop-i.invariant in
    let low : i < length init = c.loop-i-test.true in
    let y = get_or c.loop-i.reports i x in
    let same : y ≡ get_or init i x =
    ap (λ (ps : List PopIs). get_or ps i x) inv.reports ∙ turned_at spent_pop i init x low in
    let now = c.give.ensures.closing in
    record {
      id = ap (λ (v : ClosingIs). v.id) now.1 ∙ inv.id;
      shares =
          gave_more c.args.closing.now.shares c.loop-i.closing c.give.new.closing init i now.0 y x low same now.1
          inv.shares;
      reports =
          ap (λ (ps : List PopIs). set ps i c.give.new.self) inv.reports
          ∙ (ap (λ (z : PopIs). set (turned spent_pop i init) i z) (c.give.ensures.report ∙ ap spent_pop same)
          ∙ turned_set spent_pop i init x low);
    }
