use Rattle.std.proofs.Common.{◌<◌, ℕ}
use Rattle.std.specs.Prelude.{slice_index}
use Rattle.firm_rents.specs.inner.Classes.{level_rents, SuitsLoad}
use Rattle.firm_rents.proofs.first.machines_suit.Given as goal

abbrev pub invariant-loop-place : goal.invariant-loop-place
invariant-loop-place l =
    (j : ℕ) → j < l.place → SuitsLoad l.case (level_rents l.rents) j (slice_index l.loads j)
