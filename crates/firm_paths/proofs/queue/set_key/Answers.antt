use Rattle.std.proofs.Common.{◌+◌, ◌*◌, ◌/◌, ◌<◌, ◌∙◌, ℕ, arith, sym, subst, inl, inr}
use Rattle.std.specs.Prelude.{slice_index}
use Rattle.std.proofs.lemmas.List.{drop-set-add, drop-set-lt}
use Rattle.firm_paths.specs.inner.Queue.{IsLesser}
use Rattle.firm_paths.proofs.Tournament.{half, mended-above, mended-top, mending-above, mending-leaf}
use Rattle.firm_paths.proofs.queue.set_key.Goals as goal
use Rattle.firm_paths.proofs.queue.set_key.Goals.{then-left-right, else-left-right}

pub loop-at-init : goal.loop-at-init
loop-at-init c = record {
  at = omega (arith, c.requires.place);
  mending = mending-leaf _ _ _ _ c.requires.tournament c.requires.place (omega (arith, c.ranges.key.fits));
  leaves = drop-set-add c.args.places c.args.keys.now c.args.place c.args.key;
}

pub loop-at-preserved : goal.loop-at-preserved
loop-at-preserved c =
    let at = c.loop-at.at in
    let keys = c.loop-at.keys in
    let right : IsLesser c.if-left-right.least (slice_index keys (2 * (at / 2))) (slice_index keys (2 * (at / 2) + 1)) =
    elim c.if-left-right.branch [
      | then-left-right w ↦ record {
        left = omega (arith, w.least-is);
        right = omega (arith, w.least-is, w.if-left-right.true);
        one = inl w.least-is;
      }
      | else-left-right w ↦ record {
        left = omega (arith, w.least-is, w.if-left-right.false);
        right = omega (arith, w.least-is);
        one = inr w.least-is;
      }
    ] in
    let above : at / 2 < c.args.places = omega (arith, c.loop-at.invariant.at) in
    record {
      at = omega (arith, above);
      mending = mending-above _ _ _ c.loop-at.invariant.mending (at / 2) _ (half at)
          (omega (arith, c.loop-at-test.true)) above right;
      leaves = drop-set-lt _ _ _ _ above ∙ c.loop-at.invariant.leaves;
    }

pub returns-then-keys-at-clause-tournament : goal.returns-then-keys-at-clause-tournament
returns-then-keys-at-clause-tournament c =
    let at = c.loop-at.at in
    let keys = c.loop-at.keys in
    let right : IsLesser c.if-left-right.least (slice_index keys (2 * (at / 2))) (slice_index keys (2 * (at / 2) + 1)) =
    elim c.if-left-right.branch [
      | then-left-right w ↦ record {
        left = omega (arith, w.least-is);
        right = omega (arith, w.least-is, w.if-left-right.true);
        one = inl w.least-is;
      }
      | else-left-right w ↦ record {
        left = omega (arith, w.least-is, w.if-left-right.false);
        right = omega (arith, w.least-is);
        one = inr w.least-is;
      }
    ] in
    mended-above _ _ _ c.loop-at.invariant.mending (at / 2) (half at)
    (subst (λ (z : ℕ). IsLesser z (slice_index keys (2 * (at / 2))) (slice_index keys (2 * (at / 2) + 1)))
    (sym c.if-keys-at.true) right)

pub returns-clause-tournament : goal.returns-clause-tournament
returns-clause-tournament c = mended-top _ _ _ c.loop-at.invariant.mending (omega (arith, c.loop-at-test.false))
