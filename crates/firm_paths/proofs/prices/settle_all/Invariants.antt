use Rattle.std.proofs.Common.{◌≡◌, ℕ, ◌-◌, ◌<◌, length, true, false, get_or, ◌⊎◌}
use Rattle.firm_paths.specs.inner.Search.{settled, label}
use Rattle.firm_paths.specs.inner.Queue.{IsVisited}
use Rattle.firm_paths.proofs.prices.settle_all.Given as goal

abbrev pub invariant-loop-i : goal.invariant-loop-i
invariant-loop-i l = record {
  size : length l.table ≡ length l.fn.table;
  done : (v : ℕ) → v < length l.table → settled l.states v ≡ true
      → (get_or l.table v 0 ≡ l.base - label l.states v) ⊎ IsVisited l.visits l.i v;
  others : (v : ℕ) → settled l.states v ≡ false → get_or l.table v 0 ≡ get_or l.fn.table v 0;
}
