use Rattle.firm_rules.specs.Placement.{task_at}
use Rattle.firm_rents.specs.inner.Lowest.{IsCheapestSoFar}
use Rattle.firm_rents.proofs.choices.cheapest_other.Given as goal

abbrev pub invariant-loop-place : goal.invariant-loop-place
invariant-loop-place l =
    IsCheapestSoFar l.case l.rents (task_at l.case l.task) l.one l.other l.place-index l.best
