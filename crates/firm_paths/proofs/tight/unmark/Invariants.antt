use Rattle.std.proofs.Common.{◌≡◌, ◌⊎◌, ℕ, length, false, get_or}
use Rattle.firm_paths.specs.inner.Queue.{IsVisited}
use Rattle.firm_paths.proofs.tight.unmark.Given as goal

abbrev pub invariant-loop-i : goal.invariant-loop-i
invariant-loop-i l = record {
  size : length l.seen ≡ length l.fn.seen;
  unseen : (v : ℕ) → (get_or l.seen v false ≡ false) ⊎ IsVisited l.visits l.i v;
}
