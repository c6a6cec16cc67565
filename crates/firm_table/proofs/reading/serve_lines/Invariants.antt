use Rattle.std.proofs.Common.{◌≡◌, ◌≤◌, ◌+◌, ◌-◌, List, ℕ, length}
use Rattle.std.specs.Prelude.{false}
use Rattle.std.specs.Io.KnownBytes.{Consumes}
use Rattle.firm_table.specs.inner.Reading.{Heard}
use Rattle.firm_table.proofs.reading.serve_lines.Given as goal

abbrev pub invariant-loop-reader : goal.invariant-loop-reader
invariant-loop-reader g l = record {
  few : l.heard ≤ l.most;
  reads : g.R.Source.read_failed l.reader ≡ false;
  writes : g.W.Sink.write_failed l.writer ≡ false;
  cut : l.cutter.has_ended ≡ false;
  open-now : g.C.Clerk.is_open l.clerk;
  opening : g.C.Clerk.opening l.clerk ≡ g.C.Clerk.opening l.initial.clerk;
  kept : g.C.Clerk.kept l.clerk ≡ g.C.Clerk.kept l.initial.clerk;
  progress : (text : List ℕ) × (length text ≡ l.heard)
      × Consumes (g.R.Source.left l.initial.reader) (g.R.Source.left l.reader) text
      × Heard (g.C.Clerk.told l.clerk) l.cutter text (g.W.Sink.written l.initial.writer) (g.W.Sink.written l.writer);
}

abbrev pub decreases-loop-reader : goal.decreases-loop-reader
decreases-loop-reader g l = l.most + 1 - l.heard
