use Rattle.std.proofs.Common.{◌+◌, ◌≤◌, ℕ, List, length}
use Rattle.firm_rules.specs.declared.rounds.Choice.{Choice}
use Rattle.firm_rules.specs.Placement.{IsPlace}
use Rattle.firm_rents.specs.Rents.{paid}
use Rattle.firm_rules.specs.Placement.{task_at}
use Rattle.firm_rents.specs.inner.Bounds.{IsWithin}
use Rattle.firm_rents.proofs.tables.pays_elsewhere.Given as goal

abbrev pub invariant-loop-place : goal.invariant-loop-place
invariant-loop-place l = (bounds : List ℕ) (less more least : ℕ) → less ≤ more → IsWithin bounds l.rents less more
    → ((other : Choice) → IsPlace (length l.case.slots) other
    → least ≤ paid l.case bounds (task_at l.case l.task) other) → least + less ≤ l.most + more
