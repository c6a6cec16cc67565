use Rattle.std.proofs.Common.{arith}
use Rattle.firm_graph.proofs.Near.{unlink-step, unlink-end}
use Rattle.firm_graph.proofs.edits.unlink_preferred.Goals as goal

pub loop-place-preserved : goal.loop-place-preserved
loop-place-preserved c = record {
  net = c.unlink.ensures.net;
  left = λ ns ss node cost heads e h.
      unlink-step c.args.net.now c.loop-place.net c.unlink.new.net ns ss node cost c.loop-place.place heads c.args.arcs
      c.at.result e (omega (arith, c.loop-place-test.true, c.len-place-end.ensures.value)) c.at.ensures
      (c.loop-place.invariant.left ns ss node cost heads e h) c.unlink.ensures.edit;
}

pub returns-clause-left : goal.returns-clause-left
returns-clause-left c =
    λ ns ss node cost heads e h.
    unlink-end c.args.net.now c.loop-place.net ns ss node cost c.loop-place.place heads c.args.arcs e
    (omega (arith, c.loop-place-test.false, c.len-place-end.ensures.value))
    (c.loop-place.invariant.left ns ss node cost heads e h)
