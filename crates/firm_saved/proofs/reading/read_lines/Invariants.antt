use Rattle.std.proofs.Common.{◌≡◌, ◌≤◌, ◌+◌, length}
use Rattle.std.specs.List.{slice_split}
use Rattle.firm_text.specs.Lines.{is_line_feed}
use Rattle.firm_saved.specs.inner.Kept.{IsSoundDraft, view}
use Rattle.firm_saved.specs.Reading.{rows_from}
use Rattle.firm_saved.proofs.reading.read_lines.Given as goal

-- what was read so far and the lines that are left give what all lines give
abbrev pub invariant-loop-bytes : goal.invariant-loop-bytes
invariant-loop-bytes l = record {
  same : rows_from l.heading l.line (view l.draft) (slice_split is_line_feed l.rest)
      ≡ rows_from l.heading 2 (view l.initial.draft) (slice_split is_line_feed l.text);
  sound : IsSoundDraft l.draft;
  numbered : l.line + length l.rest ≤ 2 + length l.text;
}

abbrev pub decreases-loop-bytes : goal.decreases-loop-bytes
decreases-loop-bytes l = length l.rest
