use Rattle.std.proofs.Common.{◌≡◌, length}
use Rattle.firm_proposals.proofs.proposal.write_amounts.Given as goal

abbrev pub invariant-loop-machine : goal.invariant-loop-machine
invariant-loop-machine l = length l.amounts.items ≡ l.machine
