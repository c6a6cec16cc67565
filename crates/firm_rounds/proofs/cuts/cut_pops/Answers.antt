use Rattle.std.proofs.Common.{◌≡◌, ℕ, ◌+◌, ◌-◌, ◌<◌, ◌≤◌, refl, sym, ap, ◌∙◌, arith}
use Rattle.crossbeam_queue.specs.Passes.{view}
use Rattle.firm_rounds.specs.declared.protocol.Sight.{Sight}
use Rattle.firm_rounds.specs.Rounds.{beyond}
use Rattle.firm_rounds.specs.inner.Seats.{held_from}
use Rattle.firm_rounds.specs.Passes.{queue_of, new_pops}
use Rattle.firm_rounds.proofs.Cutting.{held_again, held_on, last_share, one_share}
use Rattle.firm_rounds.proofs.Opened.{more_pops}
use Rattle.firm_rounds.proofs.cuts.cut_pops.Goals as goal

not_last : (puts pops k own all : ℕ) → k < pops - 1 → own ≡ all → all ≡ puts + pops → puts + k < own - 1
not_last puts pops k own all = omega arith

all_cut : (puts pops k all : ℕ) → pops - 1 ≤ k → all ≡ puts + pops → all - 1 ≤ puts + k
all_cut puts pops k all = omega arith

at_last : (pops k : ℕ) → 0 < pops → k ≤ pops - 1 → pops - 1 ≤ k → k + 1 ≡ pops
at_last pops k = omega arith

pub loop-k-init : goal.loop-k-init
loop-k-init c =
    let on : c.args.counts.puts ≡ c.args.counts.puts + 0 = omega arith in (
      c.requires.0,
      refl,
      c.requires.3 ∙ ap (λ (j : ℕ). held_from j ((view c.args.keep).all - 1)) on,
      c.in_ok-passes.ensures.items,
    )

pub cut-seat-requires : goal.cut-seat-requires
cut-seat-requires c =
    let inv = c.loop-k.invariant in (
      inv.0,
      not_last c.args.counts.puts c.args.counts.pops c.loop-k.k _ _ c.loop-k-test.true inv.1 c.requires.2,
      held_again (view c.loop-k.keep) (c.args.counts.puts + c.loop-k.k) (view c.args.keep).all inv.2 inv.1,
    )

pub of-requires-clause-seat : goal.of-requires-clause-seat
of-requires-clause-seat c =
    let cut = c.cut-seat.ensures.cut in
    (cut.0.1, (c.args.counts.puts + c.loop-k.k, one_share (view c.cut-seat.result) _ _ cut.1))

pub loop-k-preserved : goal.loop-k-preserved
loop-k-preserved c =
    let inv = c.loop-k.invariant in let kept = c.cut-seat.ensures.kept in let cut = c.cut-seat.ensures.cut in (
      kept.0,
      kept.1 ∙ inv.1,
      held_on (view c.cut-seat.new.keep) c.args.counts.puts c.loop-k.k (view c.loop-k.keep).all
          (view c.args.keep).all kept.2 inv.1,
      more_pops (queue_of c.args.bell.now c.args.keep) c.loop-k.k _ _ c.of.result c.in_ok-push.ensures.items inv.3
          (c.of.ensures.0 ∙ (cut.0.0 ∙ sym c.requires.0.0))
          (c.of.ensures.1 ∙ (ap (λ (v : Sight). v.all) cut.1 ∙ inv.1)) c.of.ensures.2
          (c.of.ensures.3 ∙ c.listener.ensures.0) c.of.ensures.4 c.of.ensures.5 c.of.ensures.6,
    )

pub of-requires-2-clause-seat : goal.of-requires-2-clause-seat
of-requires-2-clause-seat c =
    let inv = c.loop-k.invariant in (
      inv.0.1,
      (
        beyond,
        last_share (view c.loop-k.keep) _ _ inv.2
            (all_cut c.args.counts.puts c.args.counts.pops c.loop-k.k _ c.loop-k-test.false c.requires.2),
      ),
    )

pub returns : goal.returns
returns c =
    let inv = c.loop-k.invariant in
    more_pops (queue_of c.args.bell.now c.args.keep) c.loop-k.k _ _ c.of-2.result c.in_ok-push-2.ensures.items inv.3
    (c.of-2.ensures.0 ∙ (inv.0.0 ∙ sym c.requires.0.0)) (c.of-2.ensures.1 ∙ inv.1) c.of-2.ensures.2
    (c.of-2.ensures.3 ∙ c.listener-2.ensures.0) c.of-2.ensures.4 c.of-2.ensures.5 c.of-2.ensures.6
    ∙ ap (new_pops (queue_of c.args.bell.now c.args.keep))
    (at_last c.args.counts.pops c.loop-k.k c.requires.1 c.loop-k.auto.k-end c.loop-k-test.false)
