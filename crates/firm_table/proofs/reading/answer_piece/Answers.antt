use Rattle.std.proofs.Common.{◌≡◌, ◌∙◌, refl, sym, ap, subst, List, ℕ, [], ◌++◌, append-nil, append_assoc, arith}
use Rattle.std.proofs.lemmas.Grind.{common_steps}
use Rattle.std.proofs.lemmas.List.{append_cancel_right}
use Rattle.std.proofs.lemmas.Result.{err_from_is_err_and}
use Rattle.firm_table.specs.inner.Reading.{Heard, Halted}
use Rattle.firm_table.proofs.Pieces.{heard_none, halted_on}
use Rattle.firm_table.proofs.reading.answer_piece.Goals as goal

pub loop-rest-init : goal.loop-rest-init
loop-rest-init g c = record {
  well = c.requires.writer;
  cut = c.requires.cut;
  open-now = c.requires.open;
  opening = refl;
  kept = refl;
  part = ([], refl);
  heard = λ heard front written cut h. heard_none _ _ heard front c.args.piece.now written _ cut h;
}

pub returns-in_err-rest-clause-halted : goal.returns-in_err-rest-clause-halted
returns-in_err-rest-clause-halted g c =
    let p = err_from_is_err_and c.from_residual.result c.from_residual.ensures.1 in
    rw p.1 (λ heard written h.
    let part = c.loop-rest.invariant.part in
    let halted =
    subst (λ (l : List ℕ). Halted (g.C.Clerk.opening c.loop-rest.clerk) l written
    (g.W.Sink.written c.answer_first.new.writer))
    (halted_on heard part.0 c.loop-rest.rest.now c.args.piece.now part.1)
    (c.in_err-rest.ensures.halted (heard ++ part.0) written
    (c.loop-rest.invariant.heard heard part.0 written part.1 h)) in
    rw c.loop-rest.invariant.opening at halted)

pub loop-rest-preserved : goal.loop-rest-preserved
loop-rest-preserved g c =
    let old = c.loop-rest.invariant.part in
    let new = c.in_ok-rest.ensures.part in
    let whole : c.args.piece.now ≡ (old.0 ++ new.0) ++ c.in_ok-rest.rest.now =
    old.1 ∙ ap (λ (l : List ℕ). old.0 ++ l) new.1 ∙ sym (append_assoc old.0 new.0 c.in_ok-rest.rest.now) in
    record {
      well = c.in_ok-rest.ensures.well;
      cut = c.in_ok-rest.ensures.cut;
      open-now = c.in_ok-rest.ensures.open;
      opening = c.in_ok-rest.ensures.opening ∙ c.loop-rest.invariant.opening;
      kept = c.in_ok-rest.ensures.kept ∙ c.loop-rest.invariant.kept;
      part = (old.0 ++ new.0, whole);
      heard = λ heard front written cut h.
          let same : front ≡ old.0 ++ new.0 =
          append_cancel_right front (old.0 ++ new.0) c.in_ok-rest.rest.now (sym cut ∙ whole) in
          subst (λ (l : List ℕ). Heard (g.C.Clerk.told c.answer_first.new.clerk) c.answer_first.new.cutter l written
          (g.W.Sink.written c.answer_first.new.writer))
          (append_assoc heard old.0 new.0 ∙ ap (λ (l : List ℕ). heard ++ l) (sym same))
          (c.in_ok-rest.ensures.heard (heard ++ old.0) new.0 written new.1
          (c.loop-rest.invariant.heard heard old.0 written old.1 h));
    }

pub returns-clause-heard : goal.returns-clause-heard
returns-clause-heard g c heard written h =
    let empty : c.loop-rest.rest.now ≡ [] = grind (arith, common_steps) in
    c.loop-rest.invariant.heard heard c.args.piece.now written
    (sym (append-nil c.args.piece.now) ∙ ap (λ (l : List ℕ). c.args.piece.now ++ l) (sym empty)) h

pub returns-in_err-rest-clause-opening : goal.returns-in_err-rest-clause-opening
returns-in_err-rest-clause-opening g c = c.in_err-rest.ensures.opening ∙ c.loop-rest.invariant.opening

pub returns-in_err-rest-clause-kept : goal.returns-in_err-rest-clause-kept
returns-in_err-rest-clause-kept g c = c.in_err-rest.ensures.kept ∙ c.loop-rest.invariant.kept

pub returns-in_err-rest-clause-heard : goal.returns-in_err-rest-clause-heard
returns-in_err-rest-clause-heard g c = rw (err_from_is_err_and c.from_residual.result c.from_residual.ensures.1).1 tt

pub returns-in_err-rest-clause-cut : goal.returns-in_err-rest-clause-cut
returns-in_err-rest-clause-cut g c = rw (err_from_is_err_and c.from_residual.result c.from_residual.ensures.1).1 tt

pub returns-in_err-rest-clause-well : goal.returns-in_err-rest-clause-well
returns-in_err-rest-clause-well g c = rw (err_from_is_err_and c.from_residual.result c.from_residual.ensures.1).1 tt

pub returns-in_err-rest-clause-cause : goal.returns-in_err-rest-clause-cause
returns-in_err-rest-clause-cause g c =
    let p = err_from_is_err_and c.from_residual.result c.from_residual.ensures.1 in
    rw (p.1, p.2) c.in_err-rest.ensures.cause

pub returns-clause-halted : goal.returns-clause-halted
returns-clause-halted g c = tt

pub returns-clause-cause : goal.returns-clause-cause
returns-clause-cause g c = tt
