use Rattle.std.proofs.Common.{◌≡◌, ◌++◌, List, ℕ, length}
use Rattle.std.specs.Prelude.{false, Option}
use Rattle.firm_table.specs.inner.Reading.{Heard}
use Rattle.firm_table.proofs.reading.answer_piece.Given as goal

abbrev pub invariant-loop-rest : goal.invariant-loop-rest
invariant-loop-rest g l = record {
  well : g.W.Sink.write_failed l.writer ≡ false;
  cut : l.cutter.has_ended ≡ false;
  open-now : g.C.Clerk.is_open l.clerk;
  opening : g.C.Clerk.opening l.clerk ≡ g.C.Clerk.opening l.initial.clerk;
  kept : g.C.Clerk.kept l.clerk ≡ g.C.Clerk.kept l.initial.clerk;
  part : (front : List ℕ) × (l.piece ≡ front ++ l.rest);
  heard : (heard front : List ℕ) (written : Option (List ℕ)) → l.piece ≡ front ++ l.rest
      → Heard (g.C.Clerk.told l.initial.clerk) l.initial.cutter heard written (g.W.Sink.written l.initial.writer)
      → Heard (g.C.Clerk.told l.clerk) l.cutter (heard ++ front) written (g.W.Sink.written l.writer);
}

abbrev pub decreases-loop-rest : goal.decreases-loop-rest
decreases-loop-rest g l = length l.rest
