use Rattle.std.proofs.Common.{◌<◌, ◌≤◌, ◌+◌, ℕ, suc}
use Rattle.firm_rents.specs.Levels.{IsAtMost}
use Rattle.firm_rents.specs.inner.Classes.{offered, place_levels}
use Rattle.firm_rents.proofs.first.each_suits.Given as goal

abbrev pub invariant-loop-place : goal.invariant-loop-place
invariant-loop-place l =
    (j : ℕ) → l.fn.span.from ≤ j → j < l.place
    → IsAtMost (offered l.rents.classes.items l.chosen)
    (place_levels l.rents l.fn.span.cost j (l.fn.span.begun + suc j))
