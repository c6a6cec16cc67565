use Rattle.firm_graph.proofs.Drops.{slots-step, slots-end}
use Rattle.firm_graph.proofs.edits.unlink_slots.Goals as goal

pub loop-arc-init : goal.loop-arc-init
loop-arc-init c = record { net = c.requires.net; left = λ ns ss node sink spread h. h }

pub loop-arc-preserved : goal.loop-arc-preserved
loop-arc-preserved c = record {
  net = c.unlink.ensures.net;
  left = λ ns ss node sink spread h.
      slots-step c.args.net.now c.loop-arc.net c.unlink.new.net ns ss node sink spread c.loop-arc.arc-index
      c.args.slots.now (record { id = record { place = 0; stamp = 0 } })
      c.loop-arc-test.true (c.loop-arc.invariant.left ns ss node sink spread h) c.unlink.ensures.edit;
}

pub returns-clause-left : goal.returns-clause-left
returns-clause-left c =
    λ ns ss node sink spread h.
    slots-end c.args.net.now c.loop-arc.net ns ss node sink spread c.loop-arc.arc-index c.args.slots.now
    c.loop-arc-test.false
    (c.loop-arc.invariant.left ns ss node sink spread h)
