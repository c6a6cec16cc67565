use Rattle.std.proofs.Common.{sym}
use Rattle.firm_explain.proofs.why.more_by.Goals as goal

pub returns : goal.returns
returns c =
    let market = c.args.market.now in
    let placement = market.placement.now in
    c.excess.ensures.more placement ((c.legality_is_judged.ensures market.case.now placement).yes market.legal)
    c.requires.shown (sym c.choice_of.ensures)
