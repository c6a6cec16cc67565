use Rattle.std.proofs.Common.{◌≡◌, take}
use Rattle.std.specs.Prelude.{min}
use Rattle.std.specs.List.{sum_by}
use Rattle.firm_held.specs.Held.{bytes_of_change}
use Rattle.firm_held.proofs.change_bytes.bytes_of_changes.Given as goal

abbrev pub invariant-loop-change : goal.invariant-loop-change
invariant-loop-change l = l.bytes ≡ min (sum_by bytes_of_change (take l.change-index l.changes)) 4294967296
