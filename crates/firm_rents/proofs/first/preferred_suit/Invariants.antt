use Rattle.std.proofs.Common.{◌<◌, ℕ}
use Rattle.std.specs.Prelude.{slice_index}
use Rattle.firm_rules.specs.declared.rounds.Choice.TheVariants.{On}
use Rattle.firm_rules.specs.Placement.{task_at}
use Rattle.firm_rents.specs.inner.Classes.{NoMore}
use Rattle.firm_rents.proofs.first.preferred_suit.Given as goal

abbrev pub invariant-loop-place : goal.invariant-loop-place
invariant-loop-place l =
    (k : ℕ) → k < l.place-index
    → NoMore l.case l.rents l.task l.chosen (On (slice_index (task_at l.case l.task).preferred k))
