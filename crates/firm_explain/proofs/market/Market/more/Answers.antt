use Rattle.std.proofs.Common.{◌+◌, ◌≤◌, sym, arith}
use Rattle.firm_rules.specs.Placement.{placement_cost}
use Rattle.firm_explain.proofs.market.Market.more.Goals as goal

pub returns-clause-costs : goal.returns-clause-costs
returns-clause-costs c = λ another allowed there.
    (let market = c.args.self.now in
    let case = market.case.now in
    let placement = market.placement.now in
    let legal = (c.legality_is_judged.ensures case placement).yes market.legal in
    let by_low : placement_cost case placement + c.excess-by_low.result ≤ placement_cost case another =
    c.excess-by_low.ensures.more placement legal market.shown_by_low (sym c.choice_of-chosen.ensures) another allowed
    there in
    let by_high : placement_cost case placement + c.excess-by_high.result ≤ placement_cost case another =
    c.excess-by_high.ensures.more placement legal market.shown_by_high (sym c.choice_of-chosen.ensures) another allowed
    there in
    omega (arith, by_low, by_high, c.max.ensures))
