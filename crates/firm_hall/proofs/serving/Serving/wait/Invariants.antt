use Rattle.std.proofs.Common.{◌≡◌}
use Rattle.std.specs.Prelude.{false}
use Rattle.firm_hall.specs.inner.Serving.{Follows, Passes}
use Rattle.firm_hall.proofs.serving.Serving.wait.Given as goal

abbrev pub invariant-loop : goal.invariant-loop
invariant-loop g l = record {
  well : g.W.Sink.write_failed l.writer ≡ false;
  kept : g.A.Awaited.kept l.awaited ≡ g.A.Awaited.kept l.initial.awaited;
  follows : Follows l.initial.self l.self;
  passes : Passes l.initial.self l.self (g.W.Sink.written l.initial.writer) (g.W.Sink.written l.writer);
}
