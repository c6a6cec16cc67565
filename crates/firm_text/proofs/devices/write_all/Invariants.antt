use Rattle.std.proofs.Common.{◌≡◌, ◌≤◌, ◌-◌, length, take}
use Rattle.std.specs.Io.KnownBytes.{Appends}
use Rattle.firm_text.proofs.devices.write_all.Given as goal

abbrev pub invariant-loop-done : goal.invariant-loop-done
invariant-loop-done g l = record {
  within : l.done ≤ length l.bytes;
  appended : Appends (g.W.Sink.written l.initial.writer) (g.W.Sink.written l.writer) (take l.done l.bytes);
  failure : g.W.Sink.write_failed l.writer ≡ g.W.Sink.write_failed l.initial.writer;
}

abbrev pub decreases-loop-done : goal.decreases-loop-done
decreases-loop-done g l = length l.bytes - l.done
