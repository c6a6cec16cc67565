use Rattle.std.proofs.Common.{arith}
use Rattle.firm_graph.proofs.Near.{rate-step, rate-end}
use Rattle.firm_graph.proofs.edits.rate_preferred.Goals as goal

pub loop-place-preserved : goal.loop-place-preserved
loop-place-preserved c = record {
  net = c.rate.ensures.net;
  rated = λ base ns ss node old heads e h.
      rate-step base c.loop-place.net c.rate.new.net ns ss node c.args.cost old c.loop-place.place heads c.args.arcs.now
      c.at.result e (omega (arith, c.loop-place-test.true, c.len-place-end.ensures.value)) c.at.ensures
      (c.loop-place.invariant.rated base ns ss node old heads e h) c.rate.ensures.edit c.rate.ensures.added;
}

pub returns-clause-rated : goal.returns-clause-rated
returns-clause-rated c =
    λ base ns ss node old heads e h.
    rate-end base c.loop-place.net ns ss node c.args.cost old c.loop-place.place heads c.args.arcs.now
    (omega (arith, c.loop-place-test.false, c.len-place-end.ensures.value))
    (c.loop-place.invariant.rated base ns ss node old heads e h)
