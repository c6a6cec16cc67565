use Rattle.std.proofs.Common.{◌+◌, ◌-◌, ◌/◌, arith}
use Rattle.firm_sequence.proofs.KeptItems.{rising-within, splits-from}
use Rattle.firm_sequence.proofs.gaps.search.Goals as goal

pub loop-low-init : goal.loop-low-init
loop-low-init c =
    (omega arith, omega arith, λ i l. absurd (omega (arith, l)), λ i l m. absurd (omega (arith, l, m)))

pub bounds-gaps-middle : goal.bounds-gaps-middle
bounds-gaps-middle c = omega (arith, c.loop-low-test.true, c.loop-low.invariant.1)

pub overflow_add-place : goal.overflow_add-place
overflow_add-place c = omega (arith, c.loop-low-test.true, c.loop-low.invariant.1, c.requires.few)

pub loop-low-preserved-then-gaps-middle : goal.loop-low-preserved-then-gaps-middle
loop-low-preserved-then-gaps-middle c = (
  omega (arith, c.loop-low-test.true),
  c.loop-low.invariant.1,
  λ i l. omega (
    arith,
    c.if-gaps-middle.true,
    rising-within c.args.gaps.now 0 c.requires.gaps.0 i
        (c.loop-low.low + (c.loop-low.high - c.loop-low.low) / 2) 0 c.requires.gaps.1 (omega (arith, l))
        (omega (arith, c.loop-low-test.true, c.loop-low.invariant.1)),
  ),
  c.loop-low.invariant.3,
)

pub loop-low-preserved : goal.loop-low-preserved
loop-low-preserved c = (
  omega arith,
  omega (arith, c.loop-low-test.true, c.loop-low.invariant.1),
  c.loop-low.invariant.2,
  λ i l m. omega (
    arith,
    c.if-gaps-middle.false,
    rising-within c.args.gaps.now 0 c.requires.gaps.0 (c.loop-low.low + (c.loop-low.high - c.loop-low.low) / 2) i 0
        c.requires.gaps.1 l m,
  ),
)

pub returns : goal.returns
returns c =
    splits-from c.args.gaps.now 0 c.args.place c.loop-low.low
    (omega (arith, c.loop-low.invariant.0, c.loop-low.invariant.1)) c.loop-low.invariant.2
    (λ i l m. c.loop-low.invariant.3 i (omega (arith, l, c.loop-low-test.false)) m)
