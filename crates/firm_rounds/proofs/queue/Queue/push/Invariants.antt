use Rattle.std.proofs.Common.{◌≡◌}
use Rattle.firm_rounds.proofs.queue.Queue.push.Given as goal

abbrev pub invariant-loop : goal.invariant-loop
invariant-loop g l = (l.pass ≡ l.fn.pass) × (l.parts.ticket ≡ l.fn.job.ticket)
