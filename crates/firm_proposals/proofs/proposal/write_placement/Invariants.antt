use Rattle.std.proofs.Common.{◌≡◌, length}
use Rattle.firm_proposals.proofs.proposal.write_placement.Given as goal

abbrev pub invariant-loop-task : goal.invariant-loop-task
invariant-loop-task l = length l.placement.items ≡ l.task
