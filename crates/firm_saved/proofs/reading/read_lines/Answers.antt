use Rattle.std.proofs.Common.{◌≡◌, ◌-◌, ◌∙◌, ◌∷◌, ℕ, List, Option, Some, None, Result, Ok, sym, ap, subst, arith}
use Rattle.std.proofs.Common.{inl, inr, take, drop, length}
use Rattle.std.specs.List.{slice_split}
use Rattle.firm_text.specs.Lines.{is_line_feed}
use Rattle.firm_saved.specs.declared.faults.FaultKind.{FaultKind}
use Rattle.firm_saved.specs.Drafts.{Draft}
use Rattle.firm_saved.specs.inner.Kept.{view}
use Rattle.firm_saved.specs.Reading.{line_read}
use Rattle.firm_saved.specs.inner.Returned.{GivesState}
use Rattle.firm_saved.proofs.Cuts.{behind_mark, length_behind}
use Rattle.firm_saved.proofs.Runs.{line_ends, line_faults, line_goes, some_piece}
use Rattle.firm_saved.proofs.reading.read_lines.Goals as goal

-- the rest behind a line feed
abbrev after : List ℕ → List ℕ
after back = take (length back - 1) (drop 1 back)

pub last_row-requires-clause-small : goal.last_row-requires-clause-small
last_row-requires-clause-small c = let n = c.loop-bytes.invariant.numbered in omega arith

pub returns-in-Ok-Some-clause-read : goal.returns-in-Ok-Some-clause-read
returns-in-Ok-Some-clause-read c =
    let back = c.cut.result.1.now in
    let cut = c.cut.ensures.pieces
    ∙ ap (λ (l : List (List ℕ)). c.cut.result.0.now ∷ l) (behind_mark is_line_feed back c.in-len1-up.len_at_least) in
    let read : line_read c.args.heading (view c.loop-bytes.draft) c.cut.result.0.now
    ≡ Ok (view c.take_line.new.self, Some c.in-Ok-Some.count) =
    c.in-Ok-Some.ensures.read
    ∙ ap (λ (o : Option ℕ). let r : Result (Draft × Option ℕ) FaultKind = Ok (view c.take_line.new.self, o) in r)
    c.in-Ok-Some.field-0-is in
    subst (GivesState c.last_row.result)
    (sym (line_ends c.args.heading c.loop-bytes.line (view c.loop-bytes.draft)
    (slice_split is_line_feed c.loop-bytes.rest.now)
    c.cut.result.0.now (slice_split is_line_feed (after back)) cut (some_piece (after back)) (view c.take_line.new.self)
    c.in-Ok-Some.count read)
    ∙ c.loop-bytes.invariant.same)
    c.last_row.ensures.read

pub returns-in-Err-clause-read : goal.returns-in-Err-clause-read
returns-in-Err-clause-read c =
    let back = c.cut.result.1.now in
    let cut = c.cut.ensures.pieces
    ∙ ap (λ (l : List (List ℕ)). c.cut.result.0.now ∷ l) (behind_mark is_line_feed back c.in-len1-up.len_at_least) in
    elim c.in-Err.ensures.read [
      | inl memory ↦ inl memory
      | inr refused ↦
          inr (sym c.loop-bytes.invariant.same
          ∙ line_faults c.args.heading c.loop-bytes.line (view c.loop-bytes.draft)
          (slice_split is_line_feed c.loop-bytes.rest.now)
          c.cut.result.0.now (slice_split is_line_feed (after back)) cut
          (some_piece (after back)) c.in-Err.kind refused)
    ]

pub loop-bytes-smaller : goal.loop-bytes-smaller
loop-bytes-smaller c =
    omega (arith, length_behind c.cut.result.1.now c.in-len1-up.len_at_least, c.cut.ensures.within)

pub loop-bytes-preserved : goal.loop-bytes-preserved
loop-bytes-preserved c =
    let back = c.cut.result.1.now in
    let cut = c.cut.ensures.pieces
    ∙ ap (λ (l : List (List ℕ)). c.cut.result.0.now ∷ l) (behind_mark is_line_feed back c.in-len1-up.len_at_least) in
    let read : line_read c.args.heading (view c.loop-bytes.draft) c.cut.result.0.now
    ≡ Ok (view c.take_line.new.self, None) =
    c.in-Ok-None.ensures.read
    ∙ ap (λ (o : Option ℕ). let r : Result (Draft × Option ℕ) FaultKind = Ok (view c.take_line.new.self, o) in r)
    c.in-Ok-None.field-0-is in
    record {
      same = sym (line_goes c.args.heading c.loop-bytes.line (view c.loop-bytes.draft)
          (slice_split is_line_feed c.loop-bytes.rest.now)
          c.cut.result.0.now (slice_split is_line_feed (after back)) cut (some_piece (after back))
          (view c.take_line.new.self) read)
          ∙ c.loop-bytes.invariant.same;
      sound = c.in-Ok-None.ensures.sound;
      numbered = omega (
        arith,
        c.loop-bytes.invariant.numbered,
        length_behind back c.in-len1-up.len_at_least,
        c.cut.ensures.within,
      );
    }
