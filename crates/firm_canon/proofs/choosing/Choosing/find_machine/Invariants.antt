use Rattle.std.proofs.Common.{◌≡◌, ℕ, ◌<◌, false}
use Rattle.firm_rules.specs.Placement.{runs_at}
use Rattle.firm_canon.specs.inner.Choosing.{IsPassed}
use Rattle.firm_canon.specs.inner.State.{GoesOn, HasWaysBack, IsUnchanged, prefix, view}
use Rattle.firm_canon.proofs.choosing.Choosing.find_machine.Given as goal

abbrev pub invariant-loop-machine : goal.invariant-loop-machine
invariant-loop-machine l = record {
  goes : GoesOn l.fn.self l.self 0;
  still : IsUnchanged l.fn.self l.self;
  ways : HasWaysBack l.self l.at_hub;
  passed : (k : ℕ) → k < l.machine → runs_at l.wishes.home k ≡ false
      → IsPassed (view l.fn.self) (prefix l.fn.self) l.at_hub k;
}
