use Rattle.std.proofs.Common.{◌≡◌, ℕ, ◌+◌, ◌-◌, ◌<◌, ◌≤◌, [], ◌∷◌, refl, sym, ap, ◌∙◌, arith}
use Rattle.crossbeam_queue.specs.Passes.{view}
use Rattle.firm_rounds.specs.declared.protocol.Sight.{Sight}
use Rattle.firm_rounds.specs.inner.Seats.{held_from, sight}
use Rattle.firm_rounds.specs.Rounds.{share}
use Rattle.firm_rounds.specs.Passes.{queue_of, new_puts}
use Rattle.firm_rounds.proofs.Cutting.{held_again, held_on, one_share}
use Rattle.firm_rounds.proofs.Opened.{more_puts}
use Rattle.firm_rounds.proofs.cuts.cut_puts.Goals as goal

held_yet : (place puts own all : ℕ) → place < puts → puts ≤ all - 1 → own ≡ all → 0 + place < own - 1
held_yet place puts own all = omega arith

from_none : (place : ℕ) → place ≡ 0 + place
from_none place = omega arith

few : (place puts : ℕ) → place < puts → puts ≤ 64 → place < 64
few place puts = omega arith

at_end : (place puts : ℕ) → place ≤ puts → puts ≤ place → place ≡ puts
at_end place puts = omega arith

pub loop-place-init : goal.loop-place-init
loop-place-init c = (c.requires.0, refl, c.requires.3, c.in_ok-passes.ensures.items)

pub cut-seat-requires : goal.cut-seat-requires
cut-seat-requires c =
    let inv = c.loop-place.invariant in (
      inv.0,
      held_yet c.loop-place.place c.args.puts _ _ c.loop-place-test.true c.requires.2 inv.1,
      held_again (view c.loop-place.keep) (0 + c.loop-place.place) (view c.args.keep.now).all
          (inv.2 ∙ ap (λ (k : ℕ). held_from k ((view c.args.keep.now).all - 1)) (from_none c.loop-place.place)) inv.1,
    )

pub of-requires : goal.of-requires
of-requires c =
    let cut = c.cut-seat.ensures.cut in (
      few _ _ c.loop-place-test.true c.requires.1,
      cut.0.1,
      one_share (view c.cut-seat.result) (view c.loop-place.keep).all (share c.loop-place.place 0 [])
          (cut.1
          ∙ ap (λ (k : ℕ). sight (view c.loop-place.keep).all (share k 0 [] ∷ []))
          (sym (from_none c.loop-place.place))),
    )

pub loop-place-preserved : goal.loop-place-preserved
loop-place-preserved c =
    let inv = c.loop-place.invariant in let kept = c.cut-seat.ensures.kept in let cut = c.cut-seat.ensures.cut in (
      kept.0,
      kept.1 ∙ inv.1,
      held_on (view c.cut-seat.new.keep) 0 c.loop-place.place (view c.loop-place.keep).all (view c.args.keep.now).all
          kept.2 inv.1
          ∙ ap (λ (k : ℕ). held_from k ((view c.args.keep.now).all - 1)) (sym (from_none (c.loop-place.place + 1))),
      more_puts (queue_of c.args.bell.now c.args.keep.now) c.loop-place.place _ _ c.of.result
          c.in_ok-push.ensures.items inv.3
          (c.of.ensures.0 ∙ (cut.0.0 ∙ sym c.requires.0.0))
          (c.of.ensures.1 ∙ (ap (λ (v : Sight). v.all) cut.1 ∙ inv.1)) c.of.ensures.2 c.of.ensures.3 c.of.ensures.4,
    )

pub returns-clause-kept : goal.returns-clause-kept
returns-clause-kept c =
    let inv = c.loop-place.invariant in (
      inv.0,
      inv.1,
      inv.2 ∙ ap (λ (k : ℕ). held_from k ((view c.args.keep.now).all - 1))
          (at_end _ _ c.loop-place.auto.place-end c.loop-place-test.false),
    )

pub returns-clause-passes : goal.returns-clause-passes
returns-clause-passes c =
    c.loop-place.invariant.3 ∙ ap (new_puts (queue_of c.args.bell.now c.args.keep.now))
    (at_end _ _ c.loop-place.auto.place-end c.loop-place-test.false)
