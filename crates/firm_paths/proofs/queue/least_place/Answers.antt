use Rattle.std.proofs.Common.{◌≡◌, ◌+◌, ◌-◌, arith, ap}
use Rattle.std.specs.Prelude.{slice_index}
use Rattle.firm_paths.proofs.Tournament.{top_below}
use Rattle.firm_paths.proofs.queue.least_place.Goals as goal

pub returns-then-top : goal.returns-then-top
returns-then-top c v l =
    let t = top_below c.args.places c.args.keys.now c.requires.tournament (c.args.places + v) (omega (arith, l))
    (omega (arith, l)) in
    let b = c.requires.tournament.bounded (c.args.places + v) in
    omega (arith, t, b, c.if-top.true)

pub returns-then-keys-places : goal.returns-then-keys-places
returns-then-keys-places c = (
  c.if-preferred-places.true,
  λ v l. omega (
    arith,
    c.if-keys-places.true,
    top_below c.args.places c.args.keys.now c.requires.tournament (c.args.places + v) (omega (arith, l))
        (omega (arith, l)),
  ),
  omega (arith, c.if-keys-places.true, c.if-top.false, c.requires.tournament.bounded 1),
)

pub returns : goal.returns
returns c =
    let at : c.args.places + (c.loop-at.at - c.args.places) ≡ c.loop-at.at = omega (arith, c.loop-at-test.false) in
    let current : slice_index c.args.keys.now (c.args.places + (c.loop-at.at - c.args.places))
    ≡ slice_index c.args.keys.now 1 =
    omega (arith, ap (slice_index c.args.keys.now) at, c.loop-at.invariant.top) in (
      omega (arith, c.loop-at.invariant.below, c.loop-at-test.false),
      λ v l. omega (
        arith,
        current,
        top_below c.args.places c.args.keys.now c.requires.tournament (c.args.places + v) (omega (arith, l))
            (omega (arith, l)),
      ),
      omega (arith, current, c.if-top.false, c.requires.tournament.bounded 1),
    )
