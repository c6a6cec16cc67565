use Rattle.std.proofs.Common.{ap}
use Rattle.firm_graph.specs.Graph.{Graph}
use Rattle.firm_canon.proofs.Cycles.{turned}
use Rattle.firm_canon.proofs.Graphs.{same_on, same_or_renetted}
use Rattle.firm_canon.proofs.turns.turn.Goals as goal

pub returns-clause-turned : goal.returns-clause-turned
returns-clause-turned c price row there open_ round =
    let old : Graph = c.args.graph.now in
    let here = open_ row there in
    turned c.arcs_are_rows.ensures.changed c.round_a_cycle.ensures.sets_out c.round_a_cycle.ensures.comes_round
    old.net c.push.new.self.net c.push_along.new.graph.net c.push_along-2.new.graph.net
    price c.args.arc row c.args.steps.now c.args.back.now c.push.result there here.0 here.1 (c.requires.idle row there)
    round c.push.ensures.allowed (λ t. ap (λ (h : Graph). h.net) (c.push.ensures.pushes t))
    (λ f. ap (λ (h : Graph). h.net) (c.push.ensures.unchanged f)) c.push.ensures.others
    c.push_along.ensures.lows c.push_along.ensures.others c.push_along.ensures.carries
    c.push_along-2.ensures.lows c.push_along-2.ensures.others c.push_along-2.ensures.carries

pub returns-clause-same : goal.returns-clause-same
returns-clause-same c =
    same_on c.args.graph.now c.push_along.new.graph c.push_along-2.new.graph
    (same_on c.args.graph.now c.push.new.self c.push_along.new.graph
    (same_or_renetted c.args.graph.now c.push.new.self _ c.push.result c.push.ensures.pushes c.push.ensures.unchanged
    c.push.ensures.limits) c.push_along.ensures.same) c.push_along-2.ensures.same
